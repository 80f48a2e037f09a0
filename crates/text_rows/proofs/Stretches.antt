-- What is known of a text that was passed over up to its rest: the starts of its rows so far stand in the table, and what is refused is still to come.
-- Assumes nothing.
use Rattle.lists.proofs.Kit.{◌≡◌, refl, ap, sym, ◌∙◌, List, [], ◌∷◌, ◌++◌, Bool, true, false, cond, ◌||◌, true≢false, ℕ, ◌+◌, ◌≤◌, arith, length, length-append}
use Rattle.lists.proofs.Kit.{get_or}
use Rattle.lists.specs.Lists.{any}
use Rattle.chars.specs.Scalar.{not_scalar}
use Rattle.text_check.specs.Accept.{is_separator, high_refusal}
use Rattle.text_check.proofs.Accepted.{high_clear, accepted_clear}
use Rattle.row_table.specs.Ascend.{Ascend}
use Rattle.row_table.proofs.Ascend.{ascend_first, ascend_held}
use Rattle.text_rows.specs.Pass.{marks_in, ReadIn, Tells}
use Rattle.text_rows.specs.declared.Held.{Held}
use Rattle.text_rows.proofs.Bits.{bits_low}
use Rattle.text_rows.proofs.Marks.{marks_parts, marks_end, rows_marks, all_separators}
use Rattle.text_rows.proofs.Told.{tells_rows, held_count}

pub record Passed (t starts : List ℕ) (rows : ℕ) (rest : List ℕ) : Type 0 where
  pub ascend : Ascend t starts rows
  pub room : rows ≤ length starts
  pub few : rows + length rest ≤ length t + 1
  pub marks : marks_in t + 1 ≡ rows + marks_in rest
  pub scalars : any not_scalar t ≡ any not_scalar rest
  pub separators : any is_separator t ≡ any is_separator rest

-- nothing of what a test finds is in the first part: all of it is in the rest
rest_has : (p : ℕ → Bool) (l rest : List ℕ) → any p l ≡ false → any p (l ++ rest) ≡ any p rest
unfolding any
rest_has p [] rest e = refl
rest_has p (x ∷ l) rest e = go (p x) e (rest_has p l rest)
  where
    go : (b : Bool) → (b || any p l) ≡ false → (any p l ≡ false → any p (l ++ rest) ≡ any p rest) → (b || any p (l ++ rest)) ≡ any p rest
    go true e ih = absurd (true≢false e)
    go false e ih = ih e

none_left : (p : ℕ → Bool) (l : List ℕ) → length l ≤ 0 → any p l ≡ false
unfolding any
none_left p [] h = refl
none_left p (x ∷ l) h = absurd (omega arith)

module _ (t starts : List ℕ) where
  pub passed_first : (length starts ≡ 0 → ⊥) → get_or starts 0 0 ≡ 0 → Passed t starts 1 t
  passed_first some e =
      record {
        ascend = ascend_first t starts e;
        room = omega (arith, some);
        few = omega arith;
        marks = omega arith;
        scalars = refl;
        separators = refl;
      }

  module _ {rows : ℕ} {left : List ℕ} (so_far : Passed t starts rows left) where
    -- one stretch more
    module _ (part rest : List ℕ) (is : left ≡ part ++ rest) (s : Held) (told : ReadIn part s) (clear : cond s.high (high_refusal part) 0 ≡ 0) where
      found : (any not_scalar part ≡ false) × (any is_separator part ≡ false)
      found = high_clear part s.high (λ e. bits_low part (sym told.high ∙ e)) clear

      pub passed_next : Ascend t starts (rows + s.marks) → rows + s.marks ≤ length starts → Passed t starts (rows + s.marks) rest
      passed_next ascend room =
          record {
            ascend = ascend;
            room = room;
            few = omega (arith, so_far.few, told.few, ap length is, length-append part rest);
            marks = omega (arith, so_far.marks, told.marks, ap marks_in is, marks_parts part rest);
            scalars = so_far.scalars ∙ ap (any not_scalar) is ∙ rest_has not_scalar part rest found.0;
            separators = so_far.separators ∙ ap (any is_separator) is ∙ rest_has is_separator part rest found.1;
          }

    -- all of the text
    pub passed_all : length left ≤ 0 → length t ≤ 1048576 → Tells t starts rows
    passed_all h short =
        let marks : marks_in t + 1 ≡ rows = omega (arith, so_far.marks, marks_end left 0 h) in
        let held = ascend_held so_far.ascend (omega (arith, marks, rows_marks t)) so_far.room in
        let as_many = held_count t starts rows held in
        tells_rows t starts rows (accepted_clear t short (so_far.scalars ∙ none_left not_scalar left h) (so_far.separators ∙ none_left is_separator left h)
        (all_separators t (marks ∙ as_many))) held so_far.room
