-- Cases of the word motions by a Vim list (document 02, #108): a reply, and two that the contract rules out. Definitions only; `proofs/ByVim.antt`
-- computes them. Assumes nothing.
use Rattle.std.specs.Prelude.{ℕ, ◌+◌, ◌*◌, List, [], ◌∷◌, false}
use Prim.Native.String.{String}
use Rattle.lists.specs.Codes.{codes}
use Rattle.call_bytes.specs.Reply.{Reply, refused}
use Rattle.call_texts.specs.Carets.{caret_of}
use Rattle.call_vim_words.specs.ByTerm.{words_vim}
use Rattle.promises.specs.Cases.{Case, case, caret}

-- a motion by a list, once, from a column of the first row
abbrev pub by_vim : ℕ → String → ℕ → List ℕ → String → Reply
by_vim op t c folds list = words_vim op false 1 (caret_of 0 c 0 0) (codes t) folds (codes list)

-- a letter taken out, one above 255, and letters taken out above 255; the place of 17; folds before the list, and `ge`, which takes none
unfoldable pub vim_words : List Case
vim_words =
    case "w by a Vim list" (by_vim 0 "abc" 0 [] "@,^b") (caret 0 1) (caret 0 3) (refused (17 + 4294967296 * 2)) ∷
    case "w by letters" (by_vim 0 "aα!" 0 [] "@") (caret 0 2) (caret 0 1) (caret 0 3) ∷
    case "w without letters" (by_vim 0 "aα" 0 [] "@,^@,a") (caret 0 1) (caret 0 2) (refused 100) ∷
    case "b by a Vim list" (by_vim 1 "a.b" 2 [] ".,a-z") (caret 0 0) (caret 0 2) (caret 0 1) ∷
    case "e by a Vim list" (by_vim 2 "ab" 0 [] "b") (caret 0 1) (caret 0 0) (caret 0 2) ∷
    case "e that may stay" (by_vim 3 "ab" 0 [] "b") (caret 0 0) (caret 0 1) (caret 0 2) ∷
    case "a list that goes wrong" (by_vim 0 "ab" 0 [] "a,") (refused (17 + 4294967296 * 2)) (refused 17) (caret 0 1) ∷
    case "folds before the list" (by_vim 0 "ab" 0 (1 ∷ []) "a,") (refused 5) (refused (17 + 4294967296 * 2)) (refused 17) ∷
    case "ge takes no folds" (by_vim 4 "a b" 2 (1 ∷ []) "a") (caret 0 0) (refused 5) (caret 0 2) ∷
    case "no such motion" (by_vim 5 "ab" 0 [] "a,") (refused 100) (refused (17 + 4294967296 * 2)) (caret 0 0) ∷
    []
