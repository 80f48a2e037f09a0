-- What the calls on Vim's own lists answer and leave, as the list of cases has it, and the verdict of a case. What the contracts of `replay_vim` cite.
-- Definitions only. Assumes nothing.
use Rattle.std.specs.Prelude.{ℕ, ◌/◌, ◌%◌, List, [], ◌∷◌, ◌++◌, cond, eqb, leb, replicate}
use Rattle.call_bytes.specs.Reply.{number, left}
use Rattle.call_signs.specs.Entry.{placed_reply}
use Rattle.call_vim.specs.Vim.{vim_by, vim_writing, vim_left}
use Rattle.call_texts.specs.Carets.{caret_of}
use Rattle.call_folds.specs.Terms.{is_big}
use Rattle.call_vim_words.specs.ByTerm.{words_vim}
use Rattle.replay_rows.specs.declared.Head.{Head}
use Rattle.replay_verdicts.specs.declared.Verdict.{Verdict}
use Rattle.replay_verdicts.specs.declared.Verdict.TheVariants.{Malformed}
use Rattle.replay_verdicts.specs.Answers.{compared, filler}

-- a list read, or the character a by it: the number, the place and the answer
unfoldable pub vim_list_of : Head → List ℕ → List ℕ
vim_list_of k list =
    let m = placed_reply (vim_by k.op k.a list) in
    number m % 4294967296 ∷ number m / 4294967296 ∷ left m (replicate 1 filler)

-- a list written: the number, the place, the count and the places
unfoldable pub vim_into : List ℕ → List ℕ → List ℕ
vim_into list written =
    let m = placed_reply (vim_writing list written) in
    number m % 4294967296 ∷ number m / 4294967296 ∷ (left m (filler ∷ []) ++ vim_left list written)

-- into a places, at most 64
unfoldable pub vim_write_verdict : Head → List ℕ → List ℕ → Verdict
vim_write_verdict k list stored = cond (leb k.a 64) (compared (vim_into list (replicate k.a filler)) stored) Malformed

-- the verdict by the operation
unfoldable pub vim_verdict : Head → List ℕ → List ℕ → Verdict
vim_verdict k list stored = cond (eqb k.op 2) (vim_write_verdict k list stored) (compared (vim_list_of k list) stored)

-- a word motion of the caret a to d by the count e, of big words where f is not 0: the number, the place and the caret
unfoldable pub vim_word_of : Head → List ℕ → List ℕ → List ℕ → List ℕ
vim_word_of k text folds list =
    let m = words_vim k.op (is_big k.f) k.e (caret_of k.a k.b k.c k.d) text folds list in
    number m % 4294967296 ∷ number m / 4294967296 ∷ left m (replicate 4 filler)
