-- Laws of `matching_bracket_pos`: refused, outside the text, and inside it; the row that the call finds; and what the % key makes of it.
-- Assumes nothing.
use Rattle.lists.proofs.Kit.{◌≡◌, sym, ◌∙◌, ap, subst, List, and-false, ℕ, ◌+◌, ◌≤◌, ◌<◌, dec_lt, arith, get_or, eq-eqb, ne_eqb, lt-ltb, le-ltb, Option, Some, None}
use Rattle.text_check.specs.Accept.{text_refusal}
use Rattle.text.specs.Text.{row_count, row_at, row_len}
use Rattle.text.specs.Offsets.{row_start, line_at, IsLine}
use Rattle.text.specs.declared.Line.{Line}
use Rattle.text_check.proofs.Accepted.{accepted_short}
use Rattle.text.proofs.Parts.{row_fits}
use Rattle.text.proofs.Stands.{line_there, stands_in}
use Rattle.bracket_walks.specs.declared.Partner.{Partner}
use Rattle.bracket_walks.specs.declared.Partner.TheVariants.{None as Partner-as-None, Refused}
use Rattle.bracket_walks.specs.Matching.{partner_of, placed}
use Rattle.brackets.specs.Matching.{matching_bracket_pos, Inside}
use Rattle.bracket_walks.specs.Walk.{Starts}
use Rattle.brackets.specs.Walk.{column_of}
use Rattle.bracket_kinds.specs.Kinds.{key_bracket}
use Rattle.bracket_kinds.specs.Find.{first_bracket}
use Rattle.brackets.specs.Find.{key_to, key_from}
use Rattle.row_search.proofs.Told.{first_told}
use Rattle.brackets.proofs.Columns.{column_told, column_none}

module _ (t : List ℕ) (row col : ℕ) where
  pub call_refused : (text_refusal t ≡ 0 → ⊥) → matching_bracket_pos t row col ≡ Refused (text_refusal t)
  unfolding matching_bracket_pos
  call_refused n = rw (ne_eqb _ _ n)

  module _ (ok : text_refusal t ≡ 0) where
    pub call_inside : Inside t row col → matching_bracket_pos t row col ≡ placed t (partner_of t (row_start t row + col))
    unfolding matching_bracket_pos
    call_inside h = rw (eq-eqb _ _ ok, lt-ltb _ _ h.in_row, lt-ltb _ _ h.in_col)

    pub call_outside : (Inside t row col → ⊥) → matching_bracket_pos t row col ≡ Partner-as-None
    unfolding matching_bracket_pos
    call_outside n = on (dec_lt row (row_count t)) (dec_lt col (row_len t row))
      where
        on : Dec (row < row_count t) → Dec (col < row_len t row) → matching_bracket_pos t row col ≡ Partner-as-None
        on (yes p) (yes q) = absurd (n (record { in_row = p; in_col = q }))
        on (yes p) (no q) = rw (eq-eqb _ _ ok, le-ltb col (row_len t row) (omega arith), and-false)
        on (no p) d = rw (eq-eqb _ _ ok, le-ltb row (row_count t) (omega arith))

-- a column of a row that is known
module _ (t : List ℕ) (ok : text_refusal t ≡ 0) {l : Line} (line : IsLine t l) (col : ℕ) (h : col < row_len t l.row) where
  pub line_starts : Starts t l (l.start + col)
  line_starts =
      record {
        stands = stands_in line (l.start + col) (omega arith) (omega arith);
        inside = omega (arith, row_fits t l.row line.in_row, line.begins);
        short = accepted_short t ok;
      }

  pub line_answer : matching_bracket_pos t l.row col ≡ placed t (partner_of t (l.start + col))
  line_answer =
      call_inside t l.row col ok (record { in_row = line.in_row; in_col = h }) ∙ ap (λ (s : ℕ). placed t (partner_of t (s + col))) (sym line.begins)

-- no such row
pub no_row : (t : List ℕ) (n col : ℕ) → row_count t ≤ n → Inside t n col → ⊥
no_row t n col h i = omega (arith, i.in_row)

-- the row that the call finds, and what `offset_of` finds in it
module _ (t : List ℕ) (n col : ℕ) {l : Line} (h : n < row_count t) (e : l ≡ line_at t n) where
  pub row_there : IsLine t l
  row_there = line_there t l n e h

  own : l.row ≡ n
  own = ap (λ (x : Line). x.row) e

  module _ {f : Option ℕ} (g : f ≡ column_of t l.row col) where
    pub no_col : f ≡ None → Inside t n col → ⊥
    no_col s i = omega (arith, column_none t l.row col (sym g ∙ s), ap (row_len t) own, i.in_col)

    module _ (ok : text_refusal t ≡ 0) {at : ℕ} (s : f ≡ Some at) where
      there : (col < row_len t l.row) × (l.start + col ≡ at)
      there = let by_column_told = column_told t l.row col at (sym g ∙ s) in (by_column_told.0, omega (arith, by_column_told.1, row_there.begins))

      pub place_starts : Starts t l at
      place_starts = subst (Starts t l) there.1 (line_starts t ok row_there col there.0)

      pub place_answer : {r : Partner} → r ≡ placed t (partner_of t at) → r ≡ matching_bracket_pos t n col
      place_answer a =
          let same = line_answer t ok row_there col there.0 ∙ ap (λ (b : ℕ). placed t (partner_of t b)) there.1 in
          a ∙ sym same ∙ ap (λ (k : ℕ). matching_bracket_pos t k col) own

-- what `match_bracket_from` finds in the row, and what it makes of it
module _ (t : List ℕ) (ok : text_refusal t ≡ 0) {l : Line} (line : IsLine t l) (col : ℕ) {x : List ℕ} {f : Option ℕ}
    (e : x ≡ row_at t l.row) (g : f ≡ first_bracket x col) where
  found_in_lem : f ≡ first_bracket (row_at t l.row) col
  found_in_lem = g ∙ ap (λ (r : List ℕ). first_bracket r col) e

  module _ (i : ℕ) (s : f ≡ Some i) where
    in_row : i < row_len t l.row
    in_row = (first_told (λ m. key_bracket (get_or (row_at t l.row) m 0)) col (row_len t l.row) i (sym found_in_lem ∙ s)).below

    pub jump_starts : Starts t l (l.start + i)
    jump_starts = line_starts t ok line i in_row

    pub jump_answer : {r : Partner} → r ≡ placed t (partner_of t (l.start + i)) → r ≡ key_from t l.row col
    unfolding key_to
    jump_answer a = a ∙ sym (line_answer t ok line i in_row) ∙ ap (key_to t l.row) (sym s ∙ found_in_lem)

  pub jump_none : f ≡ None → Partner-as-None ≡ key_from t l.row col
  unfolding key_to
  jump_none s = ap (key_to t l.row) (sym s ∙ found_in_lem)
