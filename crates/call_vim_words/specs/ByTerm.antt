-- The word motions by a Vim list, by the number that stands for each, and their replies: 17 has its place in the high half. Cited by
-- `call_vim_words::terms`. Document 02, #108. Definitions only. Assumes nothing.
use Rattle.std.specs.Prelude.{ℕ, ◌≤◌, List, Bool, Option, Some, None}
use Rattle.word_rounds.specs.declared.Motion.{Motion}
use Rattle.motions.specs.declared.Caret.{Caret}
use Rattle.motions.specs.declared.Moved.TheVariants as moved
use Rattle.motions.specs.WordMoves.{folds_of}
use Rattle.vim_words.specs.declared.VimMoved.{VimMoved}
use Rattle.vim_words.specs.declared.VimMoved.TheVariants.{To, Bad, Refused}
use Rattle.vim_words.specs.ByVim.{word_by_vim}
use Rattle.call_bytes.specs.Reply.{Reply, refused}
use Rattle.call_signs.specs.Entry.{placed}
use Rattle.call_texts.specs.Carets
use Rattle.call_classes.specs.ByTerm.{term_of}

-- the answer of the motion; 100 where the number stands for none
unfoldable pub by_vim_term : Option (Motion × Bool) → Bool → ℕ → Caret → List ℕ → List ℕ → List ℕ → VimMoved
by_vim_term (Some (m, stop)) big n k t folds list = word_by_vim t (folds_of m folds) list big m stop n k
by_vim_term None big n k t folds list = Refused 100

-- its reply: the caret that moved, or the number, with the place above it
unfoldable pub vim_moved : VimMoved → Reply
vim_moved (To k) = Carets.moved (moved.To k)
vim_moved (Bad p) = refused (placed 17 p)
vim_moved (Refused f) = refused f

-- a place that fits there
abbrev pub PlaceIn : VimMoved → Type 0
PlaceIn (To k) = Unit {0}
PlaceIn (Bad p) = p ≤ 1024
PlaceIn (Refused f) = Unit {0}

abbrev pub words_vim : ℕ → Bool → ℕ → Caret → List ℕ → List ℕ → List ℕ → Reply
words_vim op big n k t folds list = vim_moved (by_vim_term (term_of op) big n k t folds list)
