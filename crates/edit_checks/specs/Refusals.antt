-- When an edit is refused: each number with its input. From document 02, #102; a stretch from p up to q is to give way to the code points c.
-- Definitions only; the laws are in `proofs/`. Assumes nothing.
use Rattle.std.specs.Prelude.{ℕ, ◌*◌, ◌/◌, min, List, [], ◌∷◌, Bool, cond, ◌&&◌, ◌||◌, not, length, take, eqb, ltb}
use Rattle.text_check.specs.Accept.{text_refusal}
use Rattle.text.specs.Text.{row_count}
use Rattle.text.specs.declared.Position.{Position}
use Rattle.folds.specs.Folds.{fold_refusal}
use Rattle.positions.specs.Positions.{is_inside, position_refusal, lowest}
use Rattle.edit_positions.specs.After.{text_after}
use Rattle.edit_positions.specs.Change.{is_before}
use Rattle.edit_checks.specs.declared.Sizes.{Sizes}

-- the smaller of two numbers that refuse, 0 where neither does
unfoldable pub lower : ℕ → ℕ → ℕ
lower f g = cond (eqb f 0) g (cond (eqb g 0) f (min f g))

-- 1 to 3: a text in the first places of a buffer; 1 also where it is said to be longer than the buffer
unfoldable pub held_refusal : List ℕ → ℕ → ℕ
held_refusal buf len = cond (ltb (length buf) len) 1 (text_refusal (take len buf))

-- 5: folds in the first places of a buffer, also where it has no room for so many
unfoldable pub held_folds : List ℕ → ℕ → ℕ → ℕ
held_folds buf count rows = cond (ltb (length buf / 3) count) 5 (fold_refusal (take (3 * count) buf) rows)

-- 11: a position of the stretch outside the text, or the second before the first
abbrev pub is_stretch : List ℕ → Position → Position → Bool
is_stretch t p q = is_inside t p && (is_inside t q && not (is_before q p))

unfoldable pub stretch_refusal : List ℕ → Position → Position → ℕ
stretch_refusal t p q = cond (is_stretch t p q) 0 11

-- 12: a new text of n code points that is longer than the buffer or than any text may be
unfoldable pub room_refusal : ℕ → ℕ → ℕ
room_refusal room n = cond (ltb room n || ltb 1048576 n) 12 0

-- text and code points, caret, folds, stretch, room: the lowest number that applies. 4, 5 and 11 go by the text before the edit
unfoldable pub edit_refusal : List ℕ → List ℕ → Sizes → Position → Position → List ℕ → Position → ℕ
edit_refusal buf folds s p q c k =
    let t = take s.len buf in
    lowest (lower (held_refusal buf s.len) (text_refusal c) ∷ position_refusal t k ∷ held_folds folds s.count (row_count t) ∷ stretch_refusal t p q
    ∷ room_refusal (length buf) (length (text_after t p q c)) ∷ [])
