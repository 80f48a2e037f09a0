-- The second engine's motion is the first engine's: from a position of the text, by the classes that its text has. Assumes nothing.
use Rattle.lists.proofs.Kit.{◌≡◌, refl, ap, sym, subst, ◌∙◌, List, Bool, true, ℕ, ◌+◌, ◌-◌, ◌≤◌, ◌<◌, ◌^◌, arith, length, take, drop, length-append, take_at}
use Rattle.text.specs.Text.{row_count, position}
use Rattle.text.specs.Offsets
use Rattle.text.specs.Offsets.{row_start}
use Rattle.text.specs.declared.Position.{Position}
use Rattle.text.proofs.At.{at_le}
use Rattle.text.proofs.Parts.{count_le}
use Rattle.text.proofs.Stands.{row_there, stands_row, at_stands}
use Rattle.folds.specs.Folds.{fold_refusal}
use Rattle.positions.specs.Positions.{Inside}
use Rattle.word_kinds.specs.Places.{kind_of}
use Rattle.word_rounds.specs.declared.Motion.{Motion}
use Rattle.word_rounds.specs.Rounds.{word_motion}
use Rattle.word_classes.specs.Classes.{classes_of, holding}
use Rattle.word_classes.proofs.Writing.{classes_length}
use Rattle.word_class_rows.specs.Rows.{row_of, start_of}
use Rattle.word_class_laws.specs.Determines.{Determines, pos}
use Rattle.word_class_laws.proofs.Law.{determined}
use Rattle.word_by_class.specs.Rounds.{motion, position_of, Asked}
use Rattle.word_by_class.proofs.Jumping.{at_pos, start_place}
use Rattle.word_by_class.proofs.Same.{motion_same}

module _ (t : List ℕ) (word : ℕ → Bool) (p : Position) (w : Inside t p) where
  abbrev c : List ℕ
  c = classes_of word t

  abbrev law : (big : Bool) → Determines t (kind_of word big) c big
  law big = determined word t big

  there : Offsets.At t p.row p.col (row_start t p.row + p.col)
  there = record { in_row = w.in_row; in_col = w.in_col; offset = refl }

  starts : start_of c p.row ≡ row_start t p.row
  starts = start_place (law true) p.row w.in_row

  row_at : Offsets.row_of t (row_start t p.row + p.col) ≡ p.row
  row_at = stands_row (at_stands there (row_start t p.row) refl)

  pub asked : (folds : List ℕ) → fold_refusal folds (row_count t) ≡ 0 → Asked c folds p
  asked folds good =
      let by_law = law true in
      let sum_is : row_start t p.row + p.col ≡ start_of c p.row + p.col = omega (arith, starts) in
      record {
        classes = record { text = t; word = word; same = refl };
        good = rw by_law.rows at good;
        in_row = omega (arith, w.in_row, by_law.rows);
        inside = omega (arith, starts, at_le there, by_law.long);
        row_is = sym row_at ∙ by_law.row _ (at_le there) ∙ ap (row_of c) sum_is;
      }

  -- a place of the slice as a row and a column
  position_same : (i : ℕ) → i ≤ length t → position_of c i ≡ pos t i
  position_same i h =
      let by_law = law true in
      let row_is : row_of c i ≡ Offsets.row_of t i = sym (by_law.row i h) in
      ap (λ (x : ℕ). position x (i - start_of c x)) row_is
      ∙ ap (λ (x : ℕ). position (Offsets.row_of t i) (i - x)) (start_place by_law (Offsets.row_of t i) (row_there t i h).in_row)

  module _ (folds : List ℕ) (big : Bool) (m : Motion) (stop : Bool) (count : ℕ) where
    abbrev from : ℕ
    from = start_of c p.row + p.col

    from_low : from ≤ length t
    from_low = omega (arith, starts, at_le there)

    from_pos : pos t from ≡ position p.row p.col
    from_pos = let from_is : from ≡ row_start t p.row + p.col = omega (arith, starts) in ap (pos t) from_is ∙ at_pos there

    pub equal : position_of c (motion c folds big m stop count from) ≡ word_motion t folds (kind_of word big) big m stop count (position p.row p.col)
    equal =
        let by_motion_same = motion_same (law big) folds m stop count from from_low in
        position_same _ by_motion_same.1 ∙ sym by_motion_same.0 ∙ ap (word_motion t folds (kind_of word big) big m stop count) from_pos

    -- its numbers fit a u32
    pub fits : length t ≤ 1048576 → (q : Position) → q ≡ position_of c (motion c folds big m stop count from) → (q.row < 2 ^ 32) × (q.col < 2 ^ 32)
    fits b q e =
        let by_motion_same = motion_same (law big) folds m stop count from from_low in
        let motion_here = motion c folds big m stop count from in
        let same_row = ap (λ (x : Position). x.row) (e ∙ position_same motion_here by_motion_same.1) in
        let col = ap (λ (x : Position). x.col) (e ∙ position_same motion_here by_motion_same.1) in
        (omega (arith, same_row, (row_there t motion_here by_motion_same.1).in_row, count_le t, b), omega (arith, col, by_motion_same.1, b))

-- the classes at the front of the slice
pub front : (word : ℕ → Bool) (t room : List ℕ) (n : ℕ) → n ≡ length t + 1 → take n (holding (classes_of word t) room) ≡ classes_of word t
front word t room n e = take_at (classes_of word t) _ n (classes_length word true t ∙ sym e)

-- a slice in which they were written
module _ (t : List ℕ) (word : ℕ → Bool) (room now : List ℕ) (e : now ≡ holding (classes_of word t) room) where
  pub front_there : length t + 1 ≤ length now
  front_there = omega (arith, ap length e, length-append (classes_of word t) (drop (length (classes_of word t)) room), classes_length word true t)

  pub front_of_lem : take (length t + 1) now ≡ classes_of word t
  front_of_lem = ap (take (length t + 1)) e ∙ front word t room (length t + 1) refl

  module _ (p : Position) (w : Inside t p) (folds : List ℕ) where
    pub asked_of : fold_refusal folds (row_count t) ≡ 0 → Asked (take (length t + 1) now) folds p
    asked_of good = subst (λ (x : List ℕ). Asked x folds p) (sym front_of_lem) (asked t word p w folds good)

    module _ (big : Bool) (m : Motion) (stop : Bool) (count : ℕ) (q : Position)
        (s : q ≡ position_of (take (length t + 1) now)
        (motion (take (length t + 1) now) folds big m stop count (start_of (take (length t + 1) now) p.row + p.col)))
      where
        led : q ≡ position_of (classes_of word t) (motion (classes_of word t) folds big m stop count (start_of (classes_of word t) p.row + p.col))
        led = s ∙ ap (λ (x : List ℕ). position_of x (motion x folds big m stop count (start_of x p.row + p.col))) front_of_lem

        pub leads_to : q ≡ word_motion t folds (kind_of word big) big m stop count (position p.row p.col)
        leads_to = led ∙ equal t word p w folds big m stop count

        pub led_fits : length t ≤ 1048576 → (q.row < 2 ^ 32) × (q.col < 2 ^ 32)
        led_fits b = fits t word p w folds big m stop count b q led
