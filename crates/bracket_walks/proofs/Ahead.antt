-- What the walk forward knows: how much deeper the text is where it stands than where it began, and that no place passed closes what was open
-- there. A depth of at least one says that the place does not; a depth that falls to none, that it does.
-- Assumes nothing.
use Rattle.lists.proofs.Kit.{◌≡◌, refl, sym, ◌∙◌, ap, List, ℕ, suc, ◌+◌, ◌-◌, ◌≤◌, ◌<◌, add-one, arith, length, get_or, Some, None}
use Rattle.row_search.specs.Nearest.{first_in}
use Rattle.bracket_walks.specs.Matching.{closes_at, close_from}
use Rattle.bracket_walks.specs.Walk.{Hands}
use Rattle.row_search.proofs.Nearest.{first_on, first_stop, first_end}
use Rattle.bracket_walks.proofs.Depth.{tally, hit, miss}
use Rattle.bracket_walks.proofs.Deep.{closes_not, closes_so}

-- forward from i, where e are open, before the place j, where d are
pub record Ahead (o c : ℕ) (t : List ℕ) (i e j d : ℕ) : Type 0 where
  pub hands : Hands o c
  pub after : i ≤ j
  pub inside : j ≤ length t
  pub deep : 1 ≤ d
  pub bound : d ≤ e + j
  pub depth : tally o t j + tally c t i + e ≡ tally c t j + tally o t i + d
  pub same : close_from o c t i e ≡ first_in (closes_at o c t i e) j (length t)

pub ahead_start : (o c : ℕ) (t : List ℕ) (i e : ℕ) → Hands o c → i ≤ length t → 1 ≤ e → Ahead o c t i e i e
ahead_start o c t i e u h l =
    record { hands = u; after = omega arith; inside = h; deep = l; bound = omega arith; depth = omega arith; same = refl }

module _ {o c : ℕ} {t : List ℕ} {i e j d : ℕ} (a : Ahead o c t i e j d) where
  pub ahead_none : length t ≤ j → close_from o c t i e ≡ None
  ahead_none h = a.same ∙ first_end (closes_at o c t i e) j (length t) h

  module _ (h : j < length t) where
    -- one place on, where the depth is f
    next : (f : ℕ) → 1 ≤ f → f ≤ d + 1 → tally o t (suc j) + tally c t i + e ≡ tally c t (suc j) + tally o t i + f → Ahead o c t i e (j + 1) f
    next f p l q =
        let tally_is : (x : ℕ) → tally x t (j + 1) ≡ tally x t (suc j) = λ x. ap (tally x t) (add-one j) in
        let no = closes_not o c t i e j (omega (arith, a.after)) (λ v. omega arith) in
        record {
          hands = a.hands;
          after = omega (arith, a.after);
          inside = omega arith;
          deep = p;
          bound = omega (arith, a.bound);
          depth = omega (arith, tally_is o, tally_is c);
          same = a.same ∙ first_on (closes_at o c t i e) j (length t) h no;
        }

    pub ahead_close : get_or t j 0 ≡ c → (d - 1 ≡ 0 → ⊥) → Ahead o c t i e (j + 1) (d - 1)
    ahead_close x n =
        let by_hit = hit c o t j h (λ f. a.hands.differ (sym f)) x in
        next (d - 1) (omega arith) (omega arith) (omega (arith, a.depth))

    pub ahead_open : get_or t j 0 ≡ o → Ahead o c t i e (j + 1) (d + 1)
    ahead_open x = let by_hit = hit o c t j h a.hands.differ x in next (d + 1) (omega arith) (omega arith) (omega (arith, a.depth))

    pub ahead_other : (get_or t j 0 ≡ o → ⊥) → (get_or t j 0 ≡ c → ⊥) → Ahead o c t i e (j + 1) d
    ahead_other x y = let by_miss = miss o c t j h x y in next d a.deep (omega arith) (omega (arith, a.depth))

    pub ahead_found : get_or t j 0 ≡ c → d - 1 ≡ 0 → close_from o c t i e ≡ Some j
    ahead_found x z =
        let by_hit = hit c o t j h (λ f. a.hands.differ (sym f)) x in
        let so = closes_so o c t i e j (omega (arith, a.after)) x (omega (arith, a.depth, a.deep)) in
        a.same ∙ first_stop (closes_at o c t i e) j (length t) h so
