-- Steps back, the first place of a row, and the last place with content, by the code points before them.
-- Assumes nothing.
use Rattle.lists.proofs.Kit.{◌≡◌, ap, sym, List, Bool, true, false, ℕ, ◌-◌, ◌<◌, dec_lt, arith, length, get_or, eqb, eq-eqb, ne_eqb, eqb-true, eqb-false, lt-ltb, Some}
use Rattle.lists.proofs.Kit.{le-ltb}
use Rattle.text.specs.Text.{row_count, content_rows}
use Rattle.text.specs.Offsets.{row_start, At}
use Rattle.text.proofs.Before.{on_first_lem, behind_nl, behind_char, before_row, before_col, at_last_lem}
use Rattle.text.proofs.Content.{content_void, content_nl, content_char}
use Rattle.text.proofs.Stands.{stands_at_lem}
use Rattle.word_kinds.specs.declared.Spot.{Spot}
use Rattle.word_kinds.specs.Places.{To, Nowhere, dec, end_of_buffer}
use Rattle.word_kinds.specs.Spots.{place_of, IsSpot, Lands, Reaches}
use Rattle.word_kinds.proofs.Onto.{spot_at, col_at, lands_at}

module _ (t : List ℕ) (p : Spot) (w : IsSpot t p) where
  abbrev col : ℕ
  col = p.at - row_start t p.row

  here : At t p.row col p.at
  here = stands_at_lem w

  -- back
  pub back_none : p.at ≡ 0 → Nowhere ≡ dec t (place_of t p)
  unfolding dec
  back_none z =
      let by_on_first = on_first_lem here z in
      rw (le-ltb 0 col (omega arith), le-ltb 0 p.row (omega arith))

  -- a separator before the place: its row is not the first
  module _ (h : 0 < p.at) (e : get_or t (p.at - 1) 0 ≡ 10) where
    pub back_below : 0 < p.row
    back_below = (behind_nl here h e).1

    pub back_row : Reaches t (Some (record { row = p.row - 1; at = p.at - 1 })) (dec t (place_of t p))
    unfolding dec
    back_row =
        let by_before_row = before_row here (behind_nl here h e).0 back_below in
        record {
          place = rw (le-ltb 0 col (omega (arith, (behind_nl here h e).0)), lt-ltb 0 p.row back_below) (ap To (col_at by_before_row));
          inside = spot_at by_before_row;
        }

  pub back_char : 0 < p.at → (get_or t (p.at - 1) 0 ≡ 10 → ⊥) → Reaches t (Some (record { row = p.row; at = p.at - 1 })) (dec t (place_of t p))
  unfolding dec
  back_char h n =
      let by_behind_char = behind_char here h n in
      let by_before_col = before_col here by_behind_char in
      record { place = rw (lt-ltb 0 col by_behind_char) (ap To (col_at by_before_col)); inside = spot_at by_before_col }

  -- the first place of a row, by the code point before it
  pub starts_first : p.at ≡ 0 → true ≡ eqb col 0
  starts_first z = sym (eq-eqb col 0 (omega arith))

  pub starts_by : (b : Bool) → 0 < p.at → eqb (get_or t (p.at - 1) 0) 10 ≡ b → b ≡ eqb col 0
  starts_by true h e = sym (eq-eqb col 0 (behind_nl here h (eqb-true _ _ e)).0)
  starts_by false h e = sym (ne_eqb col 0 (λ z. omega (arith, behind_char here h (eqb-false _ _ e))))

-- the end of the last row with content
module _ (t : List ℕ) where
  pub end_nl : 0 < length t → get_or t (length t - 1) 0 ≡ 10 → Lands t (record { row = content_rows t - 1; at = length t - 1 }) (end_of_buffer t)
  unfolding end_of_buffer
  end_nl h e =
      let by_behind_nl = behind_nl (at_last_lem t) h e in
      let difference_is : content_rows t - 1 ≡ row_count t - 1 - 1 = omega (arith, content_nl t h e) in
      let by_before_row = before_row (at_last_lem t) by_behind_nl.0 by_behind_nl.1 in
      rw difference_is (lands_at by_before_row)

  pub end_char : (0 < length t → get_or t (length t - 1) 0 ≡ 10 → ⊥) → Lands t (record { row = content_rows t - 1; at = length t }) (end_of_buffer t)
  unfolding end_of_buffer
  end_char n = rw (all (dec_lt 0 (length t))) (lands_at (at_last_lem t))
    where
      all : Dec (0 < length t) → content_rows t ≡ row_count t
      all (yes h) = content_char t h (n h)
      all (no m) = content_void t (omega arith)
