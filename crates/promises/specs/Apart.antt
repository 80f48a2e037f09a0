-- Counts that don't add: a call and then a second on the caret that it returned, against one call with the sum, over the replies of the exported calls.
-- Document 02, #109; told in docs/COUNTS.md. Definitions only; `proofs/Apart.antt` computes the table. Long by its table: a row for each call. Assumes
-- nothing.
use Rattle.std.specs.Prelude.{ℕ, ◌≡◌, List, [], ◌∷◌, ◌++◌, Bool, true, false, replicate}
use Prim.Native.String.{String}
use Rattle.lists.specs.Codes.{codes}
use Rattle.motions.specs.declared.Caret.{Caret}
use Rattle.motions.specs.declared.Moved.{Moved}
use Rattle.motions.specs.Carets.{caret_after}
use Rattle.call_bytes.specs.Reply.{Reply}
use Rattle.call_texts.specs.Carets.{caret_of, moved}
use Rattle.call_texts.specs.Moves.{motion}
use Rattle.call_folds.specs.Terms.{word}
use Rattle.call_folds.specs.Upright.{vertical}
use Rattle.promises.specs.Cases.{same, caret, caret_to}
use Rattle.promises.specs.Adding.{whole, dropped}
use Rattle.promises.specs.CountsAdd.{Sums}

-- a call by its count and its caret
abbrev pub Asking : Type 0
Asking = ℕ → Caret → Moved

-- count 1 twice, and count 2
pub record Apart : Type 0 where
  pub call : String
  pub twice : Reply
  pub once : Reply

abbrev pub apart : String → Reply → Reply → Apart
apart call twice once = record { call = call; twice = twice; once = once }

-- the second call takes what `handed` makes of the caret that the first returned
abbrev pub asked : (Caret → Caret) → String → Asking → ℕ → ℕ → Apart
asked handed call f r c =
    let start = caret_of r c 0 0 in
    apart call (moved (f 1 (handed (caret_after start (f 1 start))))) (moved (f 2 start))

-- the calls: a paragraph on and back, the screen by a mode (1 Char, 2 Word) and a width, a word's end with `stop`, down
abbrev pub paragraph : Bool → String → Asking
paragraph true t n k = motion 11 n k (codes t)
paragraph false t n k = motion 10 n k (codes t)

abbrev pub screen : Bool → ℕ → ℕ → List ℕ → String → Asking
screen true mode width folds t n k = vertical 3 mode width n 8 k (codes t) folds
screen false mode width folds t n k = vertical 2 mode width n 8 k (codes t) folds

abbrev pub end : String → Asking
end t n k = word 3 false n k (codes t) [] (codes "@,48-57,_")

abbrev pub down : String → Asking
down t n k = vertical 1 0 0 n 8 k (codes t) []

unfoldable pub computed : List Apart
computed =
    asked whole "move_paragraph_next" (paragraph true "a") 0 1 ∷
    asked whole "move_paragraph_next" (paragraph true "\na") 0 0 ∷
    asked whole "move_paragraph_prev" (paragraph false "a") 0 1 ∷
    asked whole "move_paragraph_prev" (paragraph false "\n") 1 0 ∷
    asked whole "move_screen_down" (screen true 2 2 [] "aa aa") 0 1 ∷
    asked whole "move_screen_down" (screen true 1 1 (1 ∷ 2 ∷ 1 ∷ []) "\n\na") 0 0 ∷
    asked whole "move_screen_up" (screen false 2 2 [] "aa aa") 0 4 ∷
    asked whole "move_screen_up" (screen false 1 2 [] "aaa\na") 1 1 ∷
    asked whole "move_word_end" (end "a a") 0 0 ∷
    asked dropped "move_down" (down "aa\n\naa") 0 1 ∷
    asked whole "move_down" (down "aa\n\naa") 0 1 ∷
    []

-- what they are to be: all but the last, which keeps the sticky column, end apart
unfoldable pub told : List Apart
told =
    apart "move_paragraph_next" (caret 0 0) (caret 0 1) ∷
    apart "move_paragraph_next" (caret 1 0) (caret 0 0) ∷
    apart "move_paragraph_prev" (caret 0 0) (caret 0 1) ∷
    apart "move_paragraph_prev" (caret 0 0) (caret 1 0) ∷
    apart "move_screen_down" (caret_to 0 3 1) (caret_to 0 4 1) ∷
    apart "move_screen_down" (caret_to 2 0 0) (caret_to 1 0 0) ∷
    apart "move_screen_up" (caret_to 0 0 4) (caret_to 0 1 4) ∷
    apart "move_screen_up" (caret_to 0 0 1) (caret_to 0 1 1) ∷
    apart "move_word_end" (caret 0 0) (caret 0 2) ∷
    apart "move_down" (caret_to 2 0 0) (caret_to 2 1 1) ∷
    apart "move_down" (caret_to 2 1 1) (caret_to 2 1 1) ∷
    []

-- what `CountsAdd` would say of a move with count 1 and count 1 again
abbrev pub Would : (Caret → Caret) → Asking → ℕ → ℕ → Type 0
Would handed f r c =
    let start = caret_of r c 0 0 in
    Sums (f 1 start) (λ k. f 1 (handed k)) (f 2 start)

-- whether the two end at the same caret
abbrev pub met : List Apart → List Bool
met [] = []
met (a ∷ l) = same a.twice a.once ∷ met l

-- the table is as told, and what `CountsAdd` would say of its examples is false
pub record NotAdding : Type 0 where
  pub table : computed ≡ told
  pub ends : met told ≡ replicate 10 false ++ (true ∷ [])
  pub paragraphs_on : Would whole (paragraph true "a") 0 1 → ⊥
  pub paragraphs_back : Would whole (paragraph false "a") 0 1 → ⊥
  pub screen_down : Would whole (screen true 2 2 [] "aa aa") 0 1 → ⊥
  pub screen_up : Would whole (screen false 2 2 [] "aa aa") 0 4 → ⊥
  pub stop_twice : Would whole (end "a a") 0 0 → ⊥
  pub sticky_dropped : Would dropped (down "aa\n\naa") 0 1 → ⊥
