-- `folds_read` meets its contract: the tests of the definition in their order. Assumes nothing.
use Rattle.lists.proofs.Kit.{sym, ◌∙◌, arith, replicate, length-take-le, le-leb, lt-leb}
use Rattle.replay_verdicts.specs.Answers.{filler}
use Rattle.replay_verdicts.proofs.Comparing.{take_replicate}
use Rattle.replay_fold_file.specs.FoldFiles.{read_verdict}
use Rattle.replay_fold_file.proofs.folds_read.Goals as goal

pub returns-then-n-gt3072 : goal.returns-then-n-gt3072
unfolding read_verdict
returns-then-n-gt3072 c = rw (lt-leb _ 3072 c.if-n-gt3072.true)

pub returns-then-room-gt771 : goal.returns-then-room-gt771
unfolding read_verdict
returns-then-room-gt771 c = rw (le-leb _ 3072 c.if-n-gt3072.false, lt-leb _ 771 c.if-room-gt771.true)

-- a number that is no byte
pub returns-then-not-narrow : goal.returns-then-not-narrow
unfolding read_verdict
returns-then-not-narrow c =
    rw (le-leb _ 3072 c.if-n-gt3072.false, le-leb _ 771 c.if-room-gt771.false, sym c.narrow.ensures.told ∙ c.if-not-narrow.true)

-- the bytes and the places that are lent
pub slice_bounds-read_into-end : goal.slice_bounds-read_into-end
slice_bounds-read_into-end c =
    sym (length-take-le _ _ (omega (arith, c.narrow.ensures.same, c.if-n-gt3072.false)))

pub slice_bounds-read_into-end-2 : goal.slice_bounds-read_into-end-2
slice_bounds-read_into-end-2 c =
    sym (length-take-le _ (replicate 771 filler) c.if-room-gt771.false)

pub returns : goal.returns
unfolding read_verdict
returns c =
    let given_k = c.args.k in
    let is_true = c.if-not-narrow.false in
    rw (
      le-leb _ 3072 c.if-n-gt3072.false,
      le-leb _ 771 c.if-room-gt771.false,
      sym c.narrow.ensures.told ∙ is_true,
      ← take_replicate given_k.a 771 filler c.if-room-gt771.false,
    ) (rw (c.narrow.ensures.front is_true) at c.read_into.ensures)
