-- Cases of the calls of the second engine of the word motions (document 02, #113): a reply, or the slice that is left, and two that the contract
-- rules out. Definitions only; `proofs/ByClass.antt` computes them. Assumes nothing.
use Rattle.std.specs.Prelude.{ℕ, List, [], ◌∷◌, false, replicate}
use Prim.Native.String.{String}
use Rattle.lists.specs.Codes.{codes}
use Rattle.call_bytes.specs.Reply.{Reply, answer, refused}
use Rattle.call_texts.specs.Carets.{caret_of}
use Rattle.call_classes.specs.Classed.{classing, classes_in}
use Rattle.call_classes.specs.ByTerm.{words_by_class, slices_left}
use Rattle.promises.specs.Cases.{Case, case, value, caret}

-- a motion by the classes, once, into a slice of n places that hold 7; and that slice afterwards
abbrev pub by_class : ℕ → String → ℕ → ℕ → ℕ → Reply
by_class op t r c n = words_by_class op false 1 (caret_of r c 0 0) (codes t) [] (codes "@,48-57,_") (replicate n 7)

abbrev pub slice_by : ℕ → String → ℕ → Reply
slice_by op t n = answer (slices_left op (caret_of 0 0 0 0) (codes t) [] (codes "@,48-57,_") (replicate n 7))

unfoldable pub classed : List Case
classed =
    case "word_classes" (classing (codes "a .") (codes "@") (replicate 5 7)) (value 4) (value 3) (refused 14) ∷
    case "word_classes, a place short" (classing (codes "a .") (codes "@") (replicate 3 7)) (refused 14) (value 3) (value 4) ∷
    case "its slice" (answer (classes_in (codes "a .\n") (codes "@,32") (replicate 6 7))) (answer (0 ∷ 2 ∷ 1 ∷ 4 ∷ 3 ∷ 7 ∷ []))
    (answer (0 ∷ 0 ∷ 1 ∷ 4 ∷ 3 ∷ 7 ∷ [])) (answer (0 ∷ 2 ∷ 1 ∷ 4 ∷ 4 ∷ 7 ∷ [])) ∷
    case "w by the classes" (by_class 0 "ab" 0 0 3) (caret 0 2) (caret 0 1) (refused 14) ∷
    case "b by the classes" (by_class 1 "a b" 0 2 4) (caret 0 0) (caret 0 1) (caret 0 2) ∷
    case "e by the classes" (by_class 2 "ab\ncd" 0 0 6) (caret 0 1) (caret 1 1) (caret 0 0) ∷
    case "e that may stay" (by_class 3 "ab cd" 0 1 6) (caret 0 1) (caret 0 4) (caret 0 0) ∷
    case "ge by the classes" (by_class 4 "a b" 0 2 4) (caret 0 0) (caret 0 1) (caret 0 2) ∷
    case "a place short" (by_class 0 "ab" 0 0 2) (refused 14) (caret 0 2) (refused 100) ∷
    case "no such motion" (by_class 5 "ab" 0 0 2) (refused 100) (refused 14) (caret 0 0) ∷
    case "the slice after w" (slice_by 0 "ab" 4) (answer (0 ∷ 0 ∷ 4 ∷ 7 ∷ [])) (answer (0 ∷ 0 ∷ 3 ∷ 7 ∷ [])) (answer (0 ∷ 0 ∷ 4 ∷ [])) ∷
    case "the slice after 14" (slice_by 0 "ab" 2) (answer (7 ∷ 7 ∷ [])) (answer (0 ∷ 0 ∷ [])) (answer (0 ∷ 7 ∷ [])) ∷
    []
