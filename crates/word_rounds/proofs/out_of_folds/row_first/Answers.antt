use Rattle.lists.proofs.Kit.{arith}
use Rattle.word_rounds.proofs.Folding.{row_place}
use Rattle.word_rounds.proofs.out_of_folds.row_first.Goals as goal

pub returns : goal.returns
returns c =
    row_place c.args.t.now c.args.row c.requires.in_rows c.line_to-l.result c.line_to-l.ensures 0 _ (omega arith) (omega arith)
