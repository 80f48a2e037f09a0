-- Laws of lines: one from its pieces, and how long they are. Assumes nothing.
use Rattle.lists.proofs.Kit.{◌≡◌, refl, sym, subst, List, [], ◌∷◌, ◌++◌, Bool, true, false, cond, ℕ, suc, ◌+◌, ◌*◌, ◌≤◌, ◌<◌, arith, length, length-append}
use Rattle.lists.proofs.Kit.{length-take, eqb, ne_eqb}
use Rattle.text.specs.Text.{rows, on_first}
use Rattle.text.proofs.Rows.{rows_pos}
use Rattle.lists.specs.Codes.{codes}
use Rattle.print.specs.Print.{Wrote, decimal}
use Rattle.print.proofs.Laws.{wrote_then, length_decimal}
use Rattle.lists.specs.Lists.{up_to}
use Rattle.session_row.specs.Commands.{key_part, count_in}
use Rattle.motions.specs.declared.Caret.{Caret}
use Rattle.motions.specs.declared.Moved.{Moved}
use Rattle.motions.specs.declared.Moved.TheVariants.{To, Refused}
use Rattle.motions.specs.Carets.{caret_after}
use Rattle.session_input.specs.Parts.{is_stop, command_rows}
use Rattle.session_presses.proofs.Laws.{pressed_none}
use Rattle.session.specs.Session.{counted, turned, shown_of, line_of, lines_of, start, output_of}

-- what stands in the key's place
module _ (name : List ℕ) (m : Moved) where
  pub shown_to : {k : Caret} → m ≡ To k → shown_of name m ≡ name
  unfolding shown_of
  shown_to e = rw e

  pub shown_unknown : {f : ℕ} → m ≡ Refused f → f ≡ 0 → shown_of name m ≡ 63 ∷ []
  unfolding shown_of codes
  shown_unknown e h = rw (e, h)

  pub shown_refused : {f : ℕ} → m ≡ Refused f → (f ≡ 0 → ⊥) → shown_of name m ≡ (33 ∷ []) ++ decimal f
  unfolding shown_of codes
  shown_refused {f} e h = rw (e, ne_eqb f 0 h)

shown_most : (name : List ℕ) (m : Moved) → length (shown_of name m) ≤ length name + 11
unfolding shown_of codes
shown_most name (To k) = omega arith
shown_most name (Refused f) = go (eqb f 0)
  where
    go : (b : Bool) → length (cond b (63 ∷ []) ((33 ∷ []) ++ decimal f)) ≤ length name + 11
    go true = omega arith
    go false = omega (arith, length_decimal f)

-- a line from its pieces
pub length_line : (what : List ℕ) (k : Caret) → length (line_of what k) ≡ length what + length (decimal k.row) + length (decimal k.col) + 3
unfolding line_of codes
length_line what k = simp length-append (omega arith)

pub wrote_line : (what : List ℕ) (k : Caret) {out o p q r s u : List ℕ} {at a b c d e f : ℕ} → Wrote out at what a o → Wrote o a (32 ∷ []) b p →
    Wrote p b (decimal k.row) c q → Wrote q c (32 ∷ []) d r → Wrote r d (decimal k.col) e s → Wrote s e (10 ∷ []) f u →
    Wrote out at (line_of what k) f u
unfolding line_of codes
wrote_line what k v w x y z n = wrote_then (wrote_then (wrote_then (wrote_then (wrote_then v w) x) y) z) n

-- a command row prints at most 24 bytes for each of its own, its separator included: an empty one is unknown
module _ (t : List ℕ) (k : Caret) where
  turned_none : turned t k [] ≡ Refused 0
  unfolding counted count_in up_to
  turned_none = pressed_none t 0 k

  shown_turned : (row : List ℕ) → length (shown_of (key_part row) (turned t k row)) ≤ 24 * length row + 1
  unfolding shown_of codes
  shown_turned [] = subst (λ (m : Moved). length (shown_of (key_part []) m) ≤ 24 * 0 + 1) (sym turned_none) (omega arith)
  shown_turned (x ∷ row) = omega (arith, shown_most (key_part (x ∷ row)) (turned t k (x ∷ row)), length-take (up_to 32 (x ∷ row)) (x ∷ row))

  line_most : (row : List ℕ) (c : Caret) → length (line_of (shown_of (key_part row) (turned t k row)) c) ≤ 24 * (length row + 1)
  line_most row c = omega (arith, length_line (shown_of (key_part row) (turned t k row)) c, shown_turned row, length_decimal c.row, length_decimal c.col)

-- the bytes of rows, with a separator for each
size : List (List ℕ) → ℕ
size [] = 0
size (row ∷ rest) = length row + 1 + size rest

size_first : (x : ℕ) (rs : List (List ℕ)) → 0 < length rs → size (on_first x rs) ≡ size rs + 1
unfolding size on_first
size_first x [] h = absurd (omega arith)
size_first x (row ∷ rest) h = omega arith

size_rows : (l : List ℕ) → size (rows l) ≡ length l + 1
unfolding rows size
size_rows [] = refl
size_rows (x ∷ l) = go (eqb x 10) (size_rows l)
  where
    go : (b : Bool) → size (rows l) ≡ length l + 1 → size (cond b ([] ∷ rows l) (on_first x (rows l))) ≡ suc (length l) + 1
    go true h = omega arith
    go false h = omega (arith, size_first x (rows l) (rows_pos l))

size_commands : (rs : List (List ℕ)) → size (command_rows rs) ≤ size rs
unfolding command_rows size
size_commands [] = omega arith
size_commands (row ∷ rest) = go (is_stop row) (size_commands rest)
  where
    go : (b : Bool) → size (command_rows rest) ≤ size rest → size (cond b [] (row ∷ command_rows rest)) ≤ length row + 1 + size rest
    go true h = omega arith
    go false h = omega arith

lines_most : (t : List ℕ) (k : Caret) (rs : List (List ℕ)) → length (lines_of t k rs) ≤ 24 * size rs
unfolding lines_of size
lines_most t k [] = omega arith
lines_most t k (row ∷ rest) =
    let turned_here = turned t k row in
    let caret_after_lem = caret_after k turned_here in
    omega (
      arith,
      length-append (line_of (shown_of (key_part row) turned_here) caret_after_lem) (lines_of t caret_after_lem rest),
      line_most t k row caret_after_lem,
      lines_most t caret_after_lem rest,
    )

-- the room is enough: all lines of an input that is taken
pub lines_fit : (t input : List ℕ) → length input ≤ 16384 → length (output_of t input) ≤ 393240
lines_fit t input h = omega (arith, lines_most t start (command_rows (rows input)), size_commands (rows input), size_rows input)
