-- A round of a paragraph motion under way, as the loop that walks it goes by. Its signed row is the row that its bits are.
-- Assumes nothing.
use Rattle.lists.proofs.Kit.{◌≡◌, refl, ap, sym, ◌∙◌, List, Bool, true, false, ◌&&◌, ◌||◌, not, ℕ, ◌+◌, ◌≤◌, ◌<◌, arith, length, T}
use lib.IntN.{ℤ}
use lib.Signed.{non_neg}
use mir.Syntax.{w64}
use mir.Val.{Fits, SFits, to_z, of_z}
use mir.Facts.{of_z-to_z}
use Rattle.text.specs.Text.{row_count, last_row}
use Rattle.text.specs.Offsets.{row_start, Stands, line_at}
use Rattle.text.specs.declared.Line.{Line}
use Rattle.text.proofs.Parts.{count_le}
use Rattle.text.proofs.Stands.{line_at_lem, line_eq}
use Rattle.text.proofs.Content.{content_near}
use Rattle.row_walks.specs.Toward.{dir_of, rows_left, onward, StepReady}
use Rattle.row_walks.specs.Paragraphs.{is_void, round_from, round_of, RoundReady, RoundFrom}
use Rattle.row_walks.specs.declared.Round.TheVariants.{Found, RanOff}
use Rattle.row_walks.proofs.Ways.{cast_of, next_of, back_of, is_outside, cast_fits, cast_row, next_fits, back_fits, back_row}
use Rattle.row_walks.proofs.Ways.{outside_rest, inside_rest, inside_row}
use Rattle.row_walks.proofs.Walks.{rest_less, onward_in, round_found, round_off, round_on}

-- a round under way: from the row of the walk on it leads where it was to lead
pub record Rounding (t : List ℕ) (fwd : Bool) (last from row start : ℕ) (skip : Bool) : Type 0 where
  pub line : Stands t row start start
  pub is_last : last ≡ last_row t
  pub brief : length t ≤ 1048576
  pub same : round_of t fwd from ≡ round_from t fwd skip row (rows_left fwd last row)

pub rounding_start : (t : List ℕ) (fwd : Bool) (last : ℕ) (from : Line) → RoundReady t last from →
    Rounding t fwd last from.row from.row from.start false
rounding_start t fwd last from r =
    let same_last = ap (λ (l : ℕ). round_from t fwd false from.row (rows_left fwd l from.row)) (sym r.is_last) in
    record { line = r.line; is_last = r.is_last; brief = r.brief; same = same_last }

-- the loop names its signed rows, the first one and its own: their bits are the rows
module _ {t : List ℕ} {fwd skip : Bool} {last from row start : ℕ} (f : Fits w64 from) (r : Fits w64 row) where
  pub rounding_bits : Rounding t fwd last (of_z w64 (to_z w64 from)) (of_z w64 (to_z w64 row)) start skip → Rounding t fwd last from row start skip
  rounding_bits g = rw (of_z-to_z f, of_z-to_z r) at g

  pub rounding_signed : Rounding t fwd last from row start skip → Rounding t fwd last (of_z w64 (to_z w64 from)) (of_z w64 (to_z w64 row)) start skip
  rounding_signed g = rw (of_z-to_z f, of_z-to_z r) g

module _ {t : List ℕ} {fwd skip : Bool} {last from row start : ℕ} (g : Rounding t fwd last from row start skip) where
  near : (row ≤ last + 1) × (last ≤ 1048576) × (last < row_count t)
  near = omega (arith, g.line.in_row, g.is_last, content_near t, g.brief, count_le t)

  -- the row read unsigned is the row
  pub rounding_fits : T (non_neg (to_z w64 row)) × Fits w64 (cast_of row)
  rounding_fits = cast_fits row (omega (arith, near))

  own : cast_of row ≡ row
  own = cast_row row (omega (arith, near))

  pub rounding_line : Stands t (cast_of row) start start
  rounding_line = rw own g.line

  line_is : record { row = cast_of row; start = start } ≡ line_at t row
  line_is = line_eq t (g.line.begins ∙ ap (row_start t) (sym own)) own

  -- one step on in the direction d, and back
  module _ (d : ℤ) (f : d ≡ dir_of fwd) where
    pub rounding_next : SFits w64 (next_of row d)
    rounding_next = next_fits fwd last row near.0 near.1 d f

    pub rounding_back : SFits w64 (back_of row d)
    rounding_back = back_fits fwd last row near.0 near.1 d f

    same_row : of_z w64 (back_of row d) ≡ row
    same_row = back_row fwd last row near.0 near.1 d f

    pub rounding_back_fits : T (non_neg (to_z w64 (of_z w64 (back_of row d)))) × Fits w64 (cast_of (of_z w64 (back_of row d)))
    rounding_back_fits = rw same_row rounding_fits

  -- v tells whether the row is empty
  module _ (v : Bool) (is : v ≡ is_void t (cast_of row)) where
    void : v ≡ is_void t row
    void = is ∙ ap (is_void t) own

    pub rounding_found : ((skip || not v) && v) ≡ true → RoundFrom t fwd from (Found (record { row = cast_of row; start = start }))
    rounding_found e =
        record { answer = ap Found line_is ∙ sym (g.same ∙ round_found t fwd skip row (rows_left fwd last row) (rw void at e)); line = rounding_line }

    module _ (e : ((skip || not v) && v) ≡ false) (d : ℤ) (f : d ≡ dir_of fwd) where
      -- the next row is outside: it is stepped back
      pub rounding_off : is_outside (to_z w64 last) (to_z w64 (of_z w64 (next_of row d))) ≡ true →
          RoundFrom t fwd from (RanOff (record { row = cast_of (of_z w64 (back_of row d)); start = start }))
      rounding_off o =
          let none = outside_rest fwd last row near.0 near.1 d f _ o refl in
          rw (same_row d f)
          (record { answer = ap RanOff line_is ∙ sym (g.same ∙ round_off t fwd skip row (rw void at e) (rows_left fwd last row) none); line = rounding_line })

      -- it is not: the walk goes on from it
      module _ (o : is_outside (to_z w64 last) (to_z w64 (of_z w64 (next_of row d))) ≡ false) where
        left : 0 < rows_left fwd last row
        left = inside_rest fwd last row near.0 near.1 d f _ o refl

        next : of_z w64 (next_of row d) ≡ onward fwd row
        next = inside_row fwd last row near.0 near.1 d f _ o refl

        inside : onward fwd row < row_count t
        inside = onward_in fwd last row (row_count t) left g.line.in_row near.2

        pub rounding_in : StepReady t fwd (record { row = cast_of row; start = start })
        rounding_in = record { line = rounding_line; in_rows = rw own inside }

        pub rounding_less : rows_left fwd last (of_z w64 (next_of row d)) < rows_left fwd last row
        rounding_less = rw (next, rest_less fwd last row) (omega (arith, left))

        pub rounding_on : (l : Line) → l ≡ line_at t (onward fwd (cast_of row)) → Rounding t fwd last from (of_z w64 (next_of row d)) l.start (skip || not v)
        rounding_on l h =
            let start_is : l.start ≡ row_start t (onward fwd row) = ap (λ (x : Line). x.start) h ∙ ap (λ (r : ℕ). row_start t (onward fwd r)) own in
            record {
              line = rw (next, start_is) (line_at_lem t (onward fwd row) inside);
              is_last = g.is_last;
              brief = g.brief;
              same = g.same ∙ round_on t fwd skip row (rw void at e) (rows_left fwd last row) left ∙ rw (next, rest_less fwd last row, void);
            }
