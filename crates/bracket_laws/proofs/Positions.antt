-- Positions and offsets: a code point's position has one offset and an offset one position, in the same order.
-- Assumes nothing.
use Rattle.lists.proofs.Kit.{◌≡◌, refl, sym, ◌∙◌, ap, List, inl, inr, ℕ, ◌<◌, dec_lt, arith, length, get_or}
use Rattle.text.specs.Text.{row_at}
use Rattle.text.specs.Offsets.{row_start, At}
use Rattle.text.proofs.At.{on_char, char_there, point_at}
use Rattle.text.proofs.Before.{same_row, same_col, rows_apart}
use Rattle.text.proofs.Stands.{row_there}
use Rattle.text.specs.declared.Position.{Position}
use Rattle.bracket_walks.specs.Matching.{pos_of}
use Rattle.bracket_laws.specs.Demand.{in_text, offset_of, Before}

-- two positions of the same row and column
pub pos_eq : {p q : Position} → p.row ≡ q.row → p.col ≡ q.col → p ≡ q
pos_eq e f = λ i. record { row = e i; col = f i }

module _ {t : List ℕ} {p : Position} (h : in_text t p) where
  pub at_pos : At t p.row p.col (offset_of t p)
  at_pos = record { in_row = h.in_row; in_col = omega (arith, h.in_col); offset = refl }

  pub offset_in_lem : offset_of t p < length t
  offset_in_lem = (char_there at_pos h.in_col).0

  pub point_pos : get_or (row_at t p.row) p.col 0 ≡ get_or t (offset_of t p) 0
  point_pos = point_at at_pos h.in_col

  -- its offset has no other position
  pub pos_offset : pos_of t (offset_of t p) ≡ p
  pos_offset =
      let by_row_there = row_there t (offset_of t p) (omega (arith, offset_in_lem)) in
      pos_eq (same_row by_row_there at_pos) (same_col by_row_there at_pos)

-- a code point that is no separator has a position
module _ (t : List ℕ) (j : ℕ) (h : j < length t) (n : get_or t j 0 ≡ 10 → ⊥) where
  pub offset_pos : offset_of t (pos_of t j) ≡ j
  offset_pos = sym (row_there t j (omega arith)).offset

  pub pos_in : in_text t (pos_of t j)
  pos_in =
      let by_row_there = row_there t j (omega arith) in
      record { in_row = by_row_there.in_row; in_col = on_char by_row_there h n }

module _ {t : List ℕ} {p q : Position} (a : in_text t p) (b : in_text t q) where
  pub offset_once : offset_of t p ≡ offset_of t q → p ≡ q
  offset_once e = sym (pos_offset a) ∙ ap (pos_of t) e ∙ pos_offset b

  pub offset_before : offset_of t p < offset_of t q → Before p q
  offset_before l = on (dec_lt p.row q.row) (dec_lt q.row p.row)
    where
      on : Dec (p.row < q.row) → Dec (q.row < p.row) → Before p q
      on (yes e) d = inl e
      on (no e) (yes f) = absurd (omega (arith, rows_apart t q.row p.row f a.in_row, b.in_col))
      on (no e) (no f) =
          let row_is : p.row ≡ q.row = omega arith in
          inr (row_is, omega (arith, ap (row_start t) row_is))
