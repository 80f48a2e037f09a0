-- What a session prints is ASCII, and so its own encoding: keys that are known, numbers, spaces and ends of lines. Assumes nothing.
use Rattle.lists.proofs.Kit.{◌≡◌, refl, List, [], ◌∷◌, ◌++◌, Bool, true, false, cond, ◌||◌, ℕ, zero, suc, ◌+◌, ◌/◌, ◌%◌, ◌<◌, arith, eqb, ltb, le-ltb, ltb-true, Option, Some, None}
use Rattle.lists.specs.Lists.{any}
use Rattle.lists.specs.Codes.{codes}
use Rattle.utf8.specs.Encoding.{utf8, is_above}
use Rattle.utf8.proofs.Ascii.{utf8_ascii}
use Rattle.print.specs.Print.{spell, decimal}
use Rattle.session_row.specs.Commands.{key_part, count_in}
use Rattle.motions.specs.declared.Caret.{Caret}
use Rattle.motions.specs.declared.Moved.{Moved}
use Rattle.motions.specs.declared.Moved.TheVariants.{To, Refused}
use Rattle.motions.specs.Carets.{caret_after}
use Rattle.session_input.specs.Parts.{command_rows, text_of, is_refused}
use Rattle.session_presses.specs.Pressed.{pressed}
use Rattle.text.specs.Text.{rows}
use Rattle.session.specs.Session.{counted, turned, shown_of, line_of, lines_of, start, output_of, session_of}
use Rattle.session.proofs.PlainKeys.{pressed_plain}

plain_append : (a b : List ℕ) → any is_above a ≡ false → any is_above b ≡ false → any is_above (a ++ b) ≡ false
unfolding any
plain_append [] b h k = k
plain_append (x ∷ a) b h k = go (is_above x) h (λ w. plain_append a b w k)
  where
    go : (c : Bool) → (c || any is_above a) ≡ false → (any is_above a ≡ false → any is_above (a ++ b) ≡ false) → (c || any is_above (a ++ b)) ≡ false
    go true p ih = p
    go false p ih = ih p

-- digits
plain_digit : (n : ℕ) → n < 10 → any is_above ((48 + n) ∷ []) ≡ false
unfolding any
plain_digit n h = rw (le-ltb 0x7f (48 + n) (omega arith))

plain_spell : (k n : ℕ) → any is_above (spell k n) ≡ false
unfolding spell any
plain_spell zero n = refl
plain_spell (suc k) n = go (ltb n 10) refl (plain_spell k (n / 10))
  where
    go : (b : Bool) → ltb n 10 ≡ b → any is_above (spell k (n / 10)) ≡ false →
        any is_above (cond b ((48 + n) ∷ []) (spell k (n / 10) ++ ((48 + n % 10) ∷ []))) ≡ false
    go true p ih = plain_digit n (ltb-true n 10 p)
    go false p ih = plain_append (spell k (n / 10)) ((48 + n % 10) ∷ []) ih (plain_digit (n % 10) (omega arith))

plain_decimal : (n : ℕ) → any is_above (decimal n) ≡ false
unfolding decimal
plain_decimal n = plain_spell 10 n

-- what stands in the key's place, a line, and all of them
shown_plain : (name t : List ℕ) (k : Caret) (c : Option ℕ) → any is_above (shown_of name (counted name c t k)) ≡ false
unfolding shown_of counted codes any
shown_plain name t k None = refl
shown_plain name t k (Some n) = go (pressed name t n k) refl
  where
    go : (m : Moved) → pressed name t n k ≡ m → any is_above (shown_of name m) ≡ false
    go (To q) e = pressed_plain name t n k q e
    go (Refused f) e = told (eqb f 0)
      where
        told : (b : Bool) → any is_above (cond b (63 ∷ []) ((33 ∷ []) ++ decimal f)) ≡ false
        told true = refl
        told false = plain_append (33 ∷ []) (decimal f) refl (plain_decimal f)

line_plain : (what : List ℕ) (k : Caret) → any is_above what ≡ false → any is_above (line_of what k) ≡ false
unfolding line_of codes any
line_plain what k h =
    let row = decimal k.row in
    let col = decimal k.col in
    let joined = what ++ (32 ∷ []) in
    let joined_on = joined ++ row in
    let joined_further = joined_on ++ (32 ∷ []) in
    let to_row = plain_append joined row (plain_append what (32 ∷ []) h refl) (plain_decimal k.row) in
    let to_col = plain_append joined_further col (plain_append joined_on (32 ∷ []) to_row refl) (plain_decimal k.col) in
    plain_append (joined_further ++ col) (10 ∷ []) to_col refl

lines_plain : (t : List ℕ) (k : Caret) (rs : List (List ℕ)) → any is_above (lines_of t k rs) ≡ false
unfolding lines_of any
lines_plain t k [] = refl
lines_plain t k (row ∷ rest) =
    let turned_here = turned t k row in
    plain_append (line_of (shown_of (key_part row) turned_here) (caret_after k turned_here)) (lines_of t (caret_after k turned_here) rest)
    (line_plain (shown_of (key_part row) turned_here) (caret_after k turned_here) (shown_plain (key_part row) t k (count_in row)))
    (lines_plain t (caret_after k turned_here) rest)

pub session_plain : (input : List ℕ) → any is_above (session_of input) ≡ false
unfolding session_of any codes
session_plain input = go (is_refused input)
  where
    go : (b : Bool) → any is_above (cond b (codes "refused\n") (output_of (text_of input) input)) ≡ false
    go true = refl
    go false = lines_plain (text_of input) start (command_rows (rows input))

-- what is printed is the encoding of its lines
pub session_encoded : (input : List ℕ) → utf8 (session_of input) ≡ session_of input
session_encoded input = utf8_ascii (session_of input) (session_plain input)
