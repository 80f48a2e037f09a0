-- What the walk back knows: how much deeper the text is where it stands than where it began, and that no place passed opens what was closed
-- there. The depth falls at an open and grows at a close. Assumes nothing.
use Rattle.lists.proofs.Kit.{◌≡◌, refl, sym, ◌∙◌, ap, List, ℕ, suc, ◌+◌, ◌-◌, ◌≤◌, ◌<◌, arith, length, get_or, Some, None}
use Rattle.row_search.specs.Nearest.{last_below}
use Rattle.bracket_walks.specs.Matching.{opens_at, open_below}
use Rattle.bracket_walks.specs.Walk.{Hands}
use Rattle.row_search.proofs.Nearest.{last_on, last_stop, last_end}
use Rattle.bracket_walks.proofs.Depth.{tally, hit, miss}
use Rattle.bracket_walks.proofs.Deep.{opens_not, opens_so}

-- back from j, where e are closed, behind the place i, where d are
pub record Behind (o c : ℕ) (t : List ℕ) (j e i d : ℕ) : Type 0 where
  pub hands : Hands o c
  pub before : i ≤ j
  pub inside : j ≤ length t
  pub deep : 1 ≤ d
  pub bound : d + i ≤ e + j
  pub depth : tally c t j + tally o t i + e ≡ tally o t j + tally c t i + d
  pub same : open_below o c t j e ≡ last_below (opens_at o c t j e) i

pub behind_start : (o c : ℕ) (t : List ℕ) (j e : ℕ) → Hands o c → j ≤ length t → 1 ≤ e → Behind o c t j e j e
behind_start o c t j e u h l =
    record { hands = u; before = omega arith; inside = h; deep = l; bound = omega arith; depth = omega arith; same = refl }

module _ {o c : ℕ} {t : List ℕ} {j e i d : ℕ} (a : Behind o c t j e i d) where
  pub behind_none : i ≤ 0 → open_below o c t j e ≡ None
  behind_none h = a.same ∙ last_end (opens_at o c t j e) i h

  module _ (h : 0 < i) where
    seam : (x : ℕ) → tally x t (suc (i - 1)) ≡ tally x t i
    seam x = let one_more_is : suc (i - 1) ≡ i = omega arith in ap (tally x t) one_more_is

    within : i - 1 < length t
    within = omega (arith, a.before, a.inside)

    -- one place back, where the depth is f
    prev : (f : ℕ) → 1 ≤ f → f ≤ d + 1 → tally c t j + tally o t (i - 1) + e ≡ tally o t j + tally c t (i - 1) + f → Behind o c t j e (i - 1) f
    prev f p l q =
        let no = opens_not o c t j e (i - 1) (omega (arith, a.before)) (λ v. omega arith) in
        record {
          hands = a.hands;
          before = omega (arith, a.before);
          inside = a.inside;
          deep = p;
          bound = omega (arith, a.bound);
          depth = q;
          same = a.same ∙ last_on (opens_at o c t j e) i h no;
        }

    pub behind_open : get_or t (i - 1) 0 ≡ o → (d - 1 ≡ 0 → ⊥) → Behind o c t j e (i - 1) (d - 1)
    behind_open x n =
        let by_hit = hit o c t (i - 1) within a.hands.differ x in
        prev (d - 1) (omega arith) (omega arith) (omega (arith, a.depth, seam o, seam c))

    pub behind_close : get_or t (i - 1) 0 ≡ c → Behind o c t j e (i - 1) (d + 1)
    behind_close x =
        let by_hit = hit c o t (i - 1) within (λ f. a.hands.differ (sym f)) x in
        prev (d + 1) (omega arith) (omega arith) (omega (arith, a.depth, seam o, seam c))

    pub behind_other : (get_or t (i - 1) 0 ≡ o → ⊥) → (get_or t (i - 1) 0 ≡ c → ⊥) → Behind o c t j e (i - 1) d
    behind_other x y = let by_miss = miss o c t (i - 1) within x y in prev d a.deep (omega arith) (omega (arith, a.depth, seam o, seam c))

    pub behind_found : get_or t (i - 1) 0 ≡ o → d - 1 ≡ 0 → open_below o c t j e ≡ Some (i - 1)
    behind_found x z =
        let by_hit = hit o c t (i - 1) within a.hands.differ x in
        let so = opens_so o c t j e (i - 1) (omega (arith, a.before)) x (omega (arith, a.depth, a.deep, seam o, seam c)) in
        a.same ∙ last_stop (opens_at o c t j e) i h so
