-- Cases of the calls on keyword lists where plus signs are retired, and on Vim's own lists, as in `Cases`. Definitions only;
-- `proofs/Entries.antt` and `proofs/Vims.antt` compute them. Assumes nothing.
use Rattle.std.specs.Prelude.{◌+◌, ◌*◌, List, [], ◌∷◌, ◌++◌}
use Rattle.call_bytes.specs.Reply.{answer, refused}
use Rattle.lists.specs.Codes.{codes}
use Rattle.promises.specs.Asking.{entered, entered_holds, plainly, vim_read, vim_holds, vim_again, yes, no}
use Rattle.promises.specs.Cases.{Case, case, value}

-- keyword lists where plus signs are retired: a sign in the second part, what is kept and dropped with its plus, a sign in a range that falls; the list
-- written out with its white space and what is dropped, and a place short
unfoldable pub entries : List Case
entries =
    case "enter" (entered "5,+48") (refused (21 + 4294967296 * 2)) (refused 21) (value 2) ∷
    case "enter" (entered "++4,+, 5") (value 2) (value 3) (refused 21) ∷
    case "enter" (entered_holds "57-+48" 50) (refused (21 + 4294967296 * 3)) (answer no) (refused 21) ∷
    case "enter" (entered_holds "+" 43) (answer yes) (answer no) (refused 21) ∷
    case "enter" (entered_holds "+4" 0xd800) (refused 2) (refused 21) (answer no) ∷
    case "without_plus" (plainly " +4-+5") (answer (4 ∷ (codes " 4-5" ++ (9 ∷ 9 ∷ [])))) (answer (3 ∷ (codes "4-5" ++ (9 ∷ 9 ∷ 9 ∷ []))))
    (answer (5 ∷ (codes " 4-+5" ++ (9 ∷ [])))) ∷
    case "without_plus" (plainly "++4,+") (answer (5 ∷ (codes "++4,+" ++ (9 ∷ [])))) (answer (2 ∷ (codes "4," ++ (9 ∷ 9 ∷ 9 ∷ 9 ∷ []))))
    (answer (4 ∷ (codes "++4," ++ (9 ∷ 9 ∷ [])))) ∷
    case "without_plus" (plainly "+444444,") (refused 14) (answer (6 ∷ codes "444444")) (answer (7 ∷ codes "444444")) ∷
    []

-- Vim's own lists: commas as characters, what is excluded later, an at sign by its code, the end of the longest beginning, and a character that is no
-- scalar value; the list written as it was spelt, without leading zeros, a place short, and gone wrong
unfoldable pub vims : List Case
vims =
    case "vim_list" (vim_read "a,,,b") (value 3) (value 2) (refused (17 + 4294967296 * 2)) ∷
    case "vim_list" (vim_read "26-3,") (refused (17 + 4294967296 * 4)) (refused (17 + 4294967296 * 5)) (refused (17 + 4294967296 * 3)) ∷
    case "vim_list" (vim_holds "a-z,^b" 98) (answer no) (answer yes) (refused (17 + 4294967296 * 4)) ∷
    case "vim_list" (vim_holds "64" 97) (answer no) (answer yes) (refused (17 + 4294967296 * 0)) ∷
    case "vim_list" (vim_holds "a," 97) (refused (17 + 4294967296 * 2)) (refused 17) (answer yes) ∷
    case "vim_list" (vim_holds "a," 0xdfff) (refused 2) (refused (17 + 4294967296 * 2)) (answer no) ∷
    case "vim_write" (vim_again "+-045") (answer (4 ∷ (codes "+-45" ++ (9 ∷ 9 ∷ [])))) (answer (5 ∷ (codes "+-045" ++ (9 ∷ []))))
    (answer (3 ∷ (codes "+--" ++ (9 ∷ 9 ∷ 9 ∷ [])))) ∷
    case "vim_write" (vim_again "a,^,,^^") (refused 14) (answer (6 ∷ codes "a,^,,^")) (answer (7 ∷ codes "a,^,,^")) ∷
    case "vim_write" (vim_again "^-~") (refused (17 + 4294967296 * 2)) (answer (3 ∷ (codes "^-~" ++ (9 ∷ 9 ∷ 9 ∷ [])))) (refused 17) ∷
    []
