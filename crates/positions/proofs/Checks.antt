-- What the checks of a call say: when they refuse, and what is known where they do not.
-- Assumes nothing.
use Rattle.lists.proofs.Kit.{◌≡◌, refl, ap, sym, ◌∙◌, List, [], ◌∷◌, Bool, true, false, cond, ◌&&◌, ℕ, ◌+◌, ◌≤◌, ◌<◌, arith, eqb, ltb, leb, eq-eqb, ne_eqb}
use Rattle.lists.proofs.Kit.{eqb-true, ltb-true, leb-true, lt-ltb, le-ltb, le-leb, lt-leb}
use Rattle.text_check.specs.Accept.{text_refusal}
use Rattle.text.specs.Text.{row_count, row_len}
use Rattle.text.specs.Offsets.{row_start}
use Rattle.text_check.proofs.Accepted.{accepted_short}
use Rattle.text.proofs.Parts.{row_fits}
use Rattle.text.proofs.Stands.{line_at_lem, stands_in}
use Rattle.text.specs.declared.Position.{Position}
use Rattle.positions.specs.declared.Entry.{Entry}
use Rattle.positions.specs.Positions.{position_refusal, lowest, refusal_at, refused_by, found_at, entry_by, entry_of, Accepted, Inside}
use Rattle.positions.proofs.Lowest.{lowest_none}

-- where no check refuses
module _ (t : List ℕ) (k : Position) where
  pub inside_at : position_refusal t k ≡ 0 → Inside t k
  unfolding position_refusal
  inside_at e = go (ltb k.row (row_count t)) (leb k.col (row_len t k.row)) refl refl e
    where
      go : (a b : Bool) → ltb k.row (row_count t) ≡ a → leb k.col (row_len t k.row) ≡ b → ◌≡◌ {A = ℕ} (cond (a && b) 0 4) 0 → Inside t k
      go true true p q h = record { in_row = ltb-true _ _ p; in_col = leb-true _ _ q }
      go true false p q h = absurd (omega arith)
      go false b p q h = absurd (omega arith)

  pub inside_taken : Inside t k → position_refusal t k ≡ 0
  unfolding position_refusal
  inside_taken i = rw (lt-ltb k.row (row_count t) i.in_row, le-leb k.col (row_len t k.row) i.in_col)

  pub inside : refusal_at t k ≡ 0 → Inside t k
  inside e = inside_at (lowest_none (position_refusal t k) [] (lowest_none (text_refusal t) (position_refusal t k ∷ []) e).1).0

  pub accepted : refusal_at t k ≡ 0 → Accepted t k (found_at t k)
  accepted e =
      let by_lowest_none = lowest_none (text_refusal t) (position_refusal t k ∷ []) e in
      let by_inside = inside e in
      let by_line_at = line_at_lem t k.row by_inside.in_row in
      record {
        brief = accepted_short t by_lowest_none.0;
        here = stands_in by_line_at (row_start t k.row + k.col) (omega arith) (omega arith);
        line = by_line_at;
        room = omega (arith, accepted_short t by_lowest_none.0, row_fits t k.row by_inside.in_row);
        all_rows = refl;
        content_rows = refl;
      }

  -- the refusal of a call, check by check
  pub refusal_text : (f : ℕ) → f ≡ text_refusal t → (f ≡ 0 → ⊥) → refusal_at t k ≡ f
  unfolding lowest
  refusal_text f e n = rw (← e, ne_eqb f 0 n)

  module _ (e : text_refusal t ≡ 0) where
    pub refusal_row_lem : row_count t ≤ k.row → refusal_at t k ≡ 4
    unfolding lowest position_refusal
    refusal_row_lem h = rw (e, le-ltb _ _ h)

    pub refusal_col : k.row < row_count t → row_len t k.row < k.col → refusal_at t k ≡ 4
    unfolding lowest position_refusal
    refusal_col h l = rw (e, lt-ltb _ _ h, lt-leb _ _ l)

    pub refusal_none : k.row < row_count t → k.col ≤ row_len t k.row → refusal_at t k ≡ 0
    unfolding lowest position_refusal
    refusal_none h l = rw (e, lt-ltb _ _ h, le-leb _ _ l)

-- an answer of the checks, by the refusal f of the call
module _ (t : List ℕ) (k : Position) (f : ℕ) (e : Entry) where
  pub by_refused : (g : ℕ) → e ≡ refused_by g → f ≡ g → (g ≡ 0 → ⊥) → e ≡ entry_by f t k
  unfolding entry_by
  by_refused g is q n = rw (q, ne_eqb g 0 n) is

  pub by_none : e ≡ found_at t k → f ≡ 0 → e ≡ entry_by f t k
  unfolding entry_by
  by_none is z = rw (eq-eqb f 0 z) is

  module _ (is : e ≡ entry_by f t k) where
    pub by_number : e.refusal ≡ f
    unfolding entry_by
    by_number = go (eqb f 0) refl is
      where
        go : (b : Bool) → eqb f 0 ≡ b → e ≡ cond b (found_at t k) (refused_by f) → e.refusal ≡ f
        go true p q = ap (λ (x : Entry). x.refusal) q ∙ sym (eqb-true f 0 p)
        go false p q = ap (λ (x : Entry). x.refusal) q

    pub by_entered : e.refusal ≡ 0 → refusal_at t k ≡ 0 → Accepted t k e
    unfolding entry_by
    by_entered z none =
        let found : e ≡ found_at t k = is ∙ rw (eq-eqb f 0 (sym by_number ∙ z)) in
        rw found (accepted t k none)

-- what a motion goes by, once it has called `enter`
module _ (t : List ℕ) (k : Position) (e : Entry) (is : e ≡ entry_of t k) where
  pub entry_number : e.refusal ≡ refusal_at t k
  entry_number = by_number t k (refusal_at t k) e is

  pub entry_clear : e.refusal ≡ 0 → text_refusal t ≡ 0
  entry_clear z = (lowest_none (text_refusal t) (position_refusal t k ∷ []) (sym entry_number ∙ z)).0

  pub entered : e.refusal ≡ 0 → Accepted t k e
  entered z = by_entered t k (refusal_at t k) e is z (sym entry_number ∙ z)
