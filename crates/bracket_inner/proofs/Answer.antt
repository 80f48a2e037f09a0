-- What `pair_around` makes of the walks: the innermost pair around an offset. Assumes nothing.
use Rattle.lists.proofs.Kit.{◌≡◌, refl, sym, ◌∙◌, ap, List, Bool, true, false, ℕ, ◌+◌, ◌≤◌, ◌<◌, arith, length, get_or, eqb, ltb, eq-eqb, eqb-true, lt-ltb, Option, Some, None}
use Rattle.lists.proofs.Kit.{ltb-true}
use Rattle.text.specs.declared.Line.{Line}
use Rattle.text.proofs.Stands.{step_char}
use Rattle.row_search.proofs.Nearest.{never, both}
use Rattle.bracket_kinds.specs.declared.Kind.{Kind}
use Rattle.bracket_kinds.specs.Kinds.{open_of, close_of}
use Rattle.text.specs.declared.Position.{Position}
use Rattle.bracket_walks.specs.declared.Partner.{Partner}
use Rattle.bracket_walks.specs.declared.Partner.TheVariants.{There, None as Partner-as-None, Refused as Partner-as-Refused}
use Rattle.bracket_walks.specs.Matching.{close_from, open_below, pos_of, placed}
use Rattle.bracket_walks.specs.Walk.{Goes, Hands}
use Rattle.bracket_walks.proofs.Sides.{hands}
use Rattle.bracket_inner.specs.declared.Inner.{Inner}
use Rattle.bracket_inner.specs.declared.Inner.TheVariants.{None as Inner-as-None, Refused}
use Rattle.bracket_inner.specs.Inner.{paired, pair_from, inner_open}
use Rattle.bracket_inner.specs.Walk.{Stays, OpenBefore, stands_at}
use Rattle.bracket_inner.proofs.Search.{placed_there, placed_nowhere, placed_refuses}
use Rattle.bracket_inner.proofs.Closed.{open_brief}
use Rattle.bracket_inner.proofs.Walked.{on_open_found, on_open_none, no_open, no_close, pair_found}

-- the innermost pair around an offset, by what the walks find
module _ (k : Kind) (t : List ℕ) (at : ℕ) (h : at ≤ length t) where
  abbrev Answers : ℕ → ℕ → Type 0
  Answers i from = paired (pos_of t i) (placed t (close_from (open_of k) (close_of k) t from 1)) ≡ pair_from t (inner_open k t at)

  by_open : at < length t → get_or t at 0 ≡ open_of k → Answers at (at + 1)
  unfolding paired pair_from placed
  by_open l e = on (close_from (open_of k) (close_of k) t (at + 1) 1) refl
    where
      on : (f : Option ℕ) → close_from (open_of k) (close_of k) t (at + 1) 1 ≡ f → paired (pos_of t at) (placed t f) ≡ pair_from t (inner_open k t at)
      on (Some j) s = let by_on_open_found = on_open_found k t at h l e j s in rw (by_on_open_found.1, by_on_open_found.0)
      on None s = rw (on_open_none k t at h l e s)

  module _ (n : at < length t → get_or t at 0 ≡ open_of k → ⊥) where
    by_walks : (i : ℕ) → open_below (open_of k) (close_of k) t at 1 ≡ Some i → Answers i at
    unfolding paired pair_from placed
    by_walks i b = on (close_from (open_of k) (close_of k) t at 1) refl
      where
        on : (f : Option ℕ) → close_from (open_of k) (close_of k) t at 1 ≡ f → paired (pos_of t i) (placed t f) ≡ pair_from t (inner_open k t at)
        on (Some j) s = let by_pair_found = pair_found k t at h n i j b s in rw (by_pair_found.1, by_pair_found.0)
        on None s = rw (no_close k t at h n s)

    by_none : open_below (open_of k) (close_of k) t at 1 ≡ None → Inner-as-None ≡ pair_from t (inner_open k t at)
    unfolding pair_from
    by_none b = rw (no_open k t at h n b)

-- what `pair_around` has asked: the two brackets of the kind, and whether the open stands at the offset
pub record Asked (t : List ℕ) (l : Line) (at : ℕ) (x : Position) (k : Kind) (o c : ℕ) (on : Bool) : Type 0 where
  pub stays : Stays t l at x
  pub opens : o ≡ open_of k
  pub closes : c ≡ close_of k
  pub told : on ≡ stands_at t at o

module _ {t : List ℕ} {l : Line} {at : ℕ} {x : Position} {k : Kind} {o c : ℕ} {on : Bool} (a : Asked t l at x k o c on) where
  own : Hands o c
  own = rw (a.opens, a.closes) (hands k)

  within : at ≤ length t
  within = a.stays.stands.within

  -- on an open of the kind
  module _ (e : on ≡ true) where
    both_so : (ltb at (length t) ≡ true) × (eqb (get_or t at 0) o ≡ true)
    both_so = both (ltb at (length t)) (eqb (get_or t at 0) o) (sym a.told ∙ e)

    inside : at < length t
    inside = ltb-true _ _ both_so.0

    is_open : get_or t at 0 ≡ o
    is_open = eqb-true _ _ both_so.1

    pub open_asked : OpenBefore t l (at + 1) x o c
    open_asked = record {
      goes =
          record {
            stands = step_char a.stays.stands inside (λ n. own.open_char (sym is_open ∙ n));
            short = a.stays.short;
            deep = omega arith;
            bound = omega arith;
          };
      hands = own;
      brief = omega (arith, ap (λ (y : Position). y.col) a.stays.place, a.stays.short, within);
    }

    pub open_answer : {r : Inner} → r ≡ paired x (placed t (close_from o c t (at + 1) 1)) → r ≡ pair_from t (inner_open k t at)
    open_answer is = is ∙ rw (a.opens, a.closes, a.stays.place) (by_open k t at within inside (is_open ∙ a.opens))

  -- anywhere else
  module _ (e : on ≡ false) where
    elsewhere : at < length t → get_or t at 0 ≡ open_of k → ⊥
    elsewhere h n = never (rw (lt-ltb _ _ h, eq-eqb _ _ (n ∙ sym a.opens))) (sym a.told ∙ e)

    pub back_asked : Goes t l.row l.start at 1 × Hands o c
    back_asked = (record { stands = a.stays.stands; short = a.stays.short; deep = omega arith; bound = omega arith }, own)

    module _ {b : Partner} (is : b ≡ placed t (open_below o c t at 1)) where
      module _ {y : Position} (f : b ≡ There y) where
        pub close_asked : OpenBefore t l at y o c
        close_asked = record { goes = back_asked.0; hands = own; brief = open_brief t a.stays.short o c at within (sym is ∙ f) }

        pub close_answer : {r : Inner} → r ≡ paired y (placed t (close_from o c t at 1)) → r ≡ pair_from t (inner_open k t at)
        close_answer so =
            let by_placed_there = placed_there t (open_below o c t at 1) y (sym is ∙ f) in
            so ∙ rw (a.opens, a.closes, ← by_placed_there.2)
            (by_walks k t at within elsewhere by_placed_there.0 (rw (← a.opens, ← a.closes) by_placed_there.1))

      pub none_answer : b ≡ Partner-as-None → Inner-as-None ≡ pair_from t (inner_open k t at)
      none_answer f = by_none k t at within elsewhere (rw (← a.opens, ← a.closes) (placed_nowhere t (open_below o c t at 1) (sym is ∙ f)))

      pub refused_answer : {f : ℕ} → b ≡ Partner-as-Refused f → Refused f ≡ pair_from t (inner_open k t at)
      refused_answer {f} g = absurd (placed_refuses t (open_below o c t at 1) f (sym is ∙ g))
