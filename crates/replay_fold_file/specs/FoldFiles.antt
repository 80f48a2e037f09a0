-- What the calls on fold files answer and leave, as the list has it, and the verdict of a case of them. What the contracts of `replay_fold_file` cite.
-- Definitions only. Assumes nothing.
use Rattle.std.specs.Prelude.{ℕ, List, [], ◌∷◌, ◌++◌, cond, not, ◌&&◌, eqb, leb, length, replicate}
use Rattle.lists.specs.Lists.{any}
use Rattle.fold_writer.specs.Writing.{written_in}
use Rattle.fold_reader.specs.Reading.{loaded_in}
use Rattle.call_bytes.specs.Reply.{number, left}
use Rattle.call_fold_file.specs.FoldFiles.{writes, reads}
use Rattle.replay_codings.specs.Codings.{is_wide}
use Rattle.replay_rows.specs.declared.Head.{Head}
use Rattle.replay_verdicts.specs.declared.Verdict.{Verdict}
use Rattle.replay_verdicts.specs.declared.Verdict.TheVariants.{Malformed}
use Rattle.replay_verdicts.specs.Answers.{compared, filler}

-- writing: the number, the count and the places
unfoldable pub written_into : List ℕ → List ℕ → List ℕ → List ℕ
written_into t folds file =
    let m = writes t folds file in
    number m ∷ (left m (filler ∷ []) ++ written_in t folds file)

-- into a places, at most 2,560
unfoldable pub write_verdict : Head → List ℕ → List ℕ → List ℕ → Verdict
write_verdict k t folds stored = cond (leb k.a 2560) (compared (written_into t folds (replicate k.a 165)) stored) Malformed

-- reading: the number, the count and the places
unfoldable pub loaded_into : List ℕ → List ℕ → List ℕ → List ℕ
loaded_into t f folds =
    let m = reads t f folds in
    number m ∷ (left m (filler ∷ []) ++ loaded_in t f folds)

-- at most 3,072 bytes into a places, at most 771
unfoldable pub read_verdict : Head → List ℕ → List ℕ → List ℕ → Verdict
read_verdict k t f stored =
    cond (leb (length f) 3072 && (leb k.a 771 && not (any is_wide f))) (compared (loaded_into t f (replicate k.a filler)) stored) Malformed

-- by the operation
unfoldable pub file_verdict : Head → List ℕ → List ℕ → List ℕ → List ℕ → Verdict
file_verdict k t folds f stored = cond (eqb k.op 0) (write_verdict k t folds stored) (read_verdict k t f stored)
