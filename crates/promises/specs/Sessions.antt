-- Cases of the session, as in `Cases`. Definitions only; `proofs/Runs.antt` computes them. Assumes nothing.
use Rattle.std.specs.Prelude.{List, [], ◌∷◌}
use Rattle.call_bytes.specs.Reply.{answer}
use Rattle.utf8.specs.Encoding.{utf8}
use Rattle.session.specs.Session.{session_of}
use Rattle.lists.specs.Codes.{codes}
use Rattle.promises.specs.Cases.{Case, case}

-- document 01's printed session: what it prints, that with `j` left out, and what a refused input prints. Document 02's #104: after `$`, `j` goes
-- to the end of each row, and not to the column of the first row, nor to that of the row before. And one with an accent and an arrow, whose columns
-- are code points
unfoldable pub sessions : List Case
sessions =
    case "session" (answer (session_of (codes "w 1\nj 1\n% 1\n.\nif (n) {\nx (y)\n}\n")))
    (answer (codes "w 0 3\nj 1 3\n% 1 2\n")) (answer (codes "w 0 3\n% 1 2\n")) (answer (codes "refused\n")) ∷
    case "session" (answer (session_of (codes "$\nj\nj\nj\n.\nabc\nd\n\nefgh\n")))
    (answer (codes "$ 0 2\nj 1 0\nj 2 0\nj 3 3\n")) (answer (codes "$ 0 2\nj 1 0\nj 2 0\nj 3 2\n"))
    (answer (codes "$ 0 2\nj 1 0\nj 2 0\nj 3 0\n")) ∷
    case "session" (answer (session_of (utf8 (codes "$\n.\né→\n")))) (answer (codes "$ 0 1\n")) (answer (codes "$ 0 4\n")) (answer (codes "refused\n")) ∷
    []
