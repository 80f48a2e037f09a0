-- Where the rounds of a paragraph motion lead from a row of the text is a row of the text.
-- Assumes nothing.
use Rattle.lists.proofs.Kit.{List, Bool, true, false, cond, ◌&&◌, ◌||◌, not, ℕ, zero, suc, ◌+◌, ◌<◌, arith, Option}
use Rattle.text.specs.declared.Line.{Line}
use Rattle.text.specs.Text.{row_count, last_row}
use Rattle.text.specs.Offsets.{line_at}
use Rattle.text.proofs.Rows.{rows_pos}
use Rattle.text.proofs.Stands.{line_at_lem}
use Rattle.text.proofs.Content.{content_near}
use Rattle.row_walks.specs.Toward.{rows_left, onward}
use Rattle.row_walks.specs.Paragraphs.{is_void, round_from, round_of, at_last, go_on, paragraphs, EndsIn, LeadsIn}
use Rattle.row_walks.specs.declared.Round.{Round}
use Rattle.row_walks.specs.declared.Round.TheVariants.{Found, RanOff}

module _ (t : List ℕ) where
  choice_in : (b : Bool) (r s : Round) → EndsIn t r → EndsIn t s → EndsIn t (cond b r s)
  choice_in true r s p q = p
  choice_in false r s p q = q

  -- the rows that are left are rows of the text
  abbrev Room : Bool → ℕ → ℕ → Type 0
  Room true row rest = row + rest < row_count t
  Room false row rest = row < row_count t

  room_row : (fwd : Bool) (row rest : ℕ) → Room fwd row rest → row < row_count t
  room_row true row rest h = omega arith
  room_row false row rest h = h

  room_on : (fwd : Bool) (row rest : ℕ) → Room fwd row (suc rest) → Room fwd (onward fwd row) rest
  room_on true row rest h = omega arith
  room_on false row rest h = omega arith

  room_all : (fwd : Bool) (row : ℕ) → row < row_count t → Room fwd row (rows_left fwd (last_row t) row)
  room_all true row h = omega (arith, content_near t)
  room_all false row h = h

  pub round_in : (fwd skip : Bool) (row rest : ℕ) → Room fwd row rest → EndsIn t (round_from t fwd skip row rest)
  unfolding round_from
  round_in fwd skip row zero h =
      let by_line_at = line_at_lem t row (room_row fwd row 0 h) in
      choice_in ((skip || not (is_void t row)) && is_void t row) (Found (line_at t row)) (RanOff (line_at t row)) by_line_at by_line_at
  round_in fwd skip row (suc rest) h =
      choice_in ((skip || not (is_void t row)) && is_void t row) (Found (line_at t row)) _ (line_at_lem t row (room_row fwd row (suc rest) h))
      (round_in fwd (skip || not (is_void t row)) (onward fwd row) rest (room_on fwd row rest h))

  last_in : (r : Round) → EndsIn t r → LeadsIn t (at_last r)
  last_in (Found l) p = p
  last_in (RanOff l) p = p

  on_in : (f : ℕ → Option Line) → ((row : ℕ) → row < row_count t → LeadsIn t (f row)) → (r : Round) → EndsIn t r → LeadsIn t (go_on f r)
  on_in f h (Found l) p = h l.row p.in_row
  on_in f h (RanOff l) p = rows_pos t

  pub paragraphs_in : (fwd : Bool) (n row : ℕ) → row < row_count t → LeadsIn t (paragraphs t fwd n row)
  unfolding paragraphs
  paragraphs_in fwd zero row h = last_in (round_of t fwd row) (round_in fwd false row _ (room_all fwd row h))
  paragraphs_in fwd (suc n) row h =
      on_in (λ r. paragraphs t fwd n r) (λ r p. paragraphs_in fwd n r p) (round_of t fwd row) (round_in fwd false row _ (room_all fwd row h))
