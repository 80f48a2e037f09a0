use Rattle.lists.proofs.Kit.{◌-◌, arith}
use Rattle.text.specs.Text.{row_len}
use Rattle.text.proofs.Stands.{line_there}
use Rattle.word_rounds.proofs.Folding.{row_place, line_length, line_fits}
use Rattle.word_rounds.proofs.out_of_folds.row_last.Goals as goal

pub row_len-n-requires : goal.row_len-n-requires
row_len-n-requires c =
    line_there c.args.t.now c.line_to-l.result c.args.row c.line_to-l.ensures c.requires.in_rows

pub returns-then-n-eq0 : goal.returns-then-n-eq0
returns-then-n-eq0 c =
    let by_line_length = line_length c.args.t.now c.args.row c.requires.in_rows c.line_to-l.result
    c.line_to-l.ensures c.row_len-n.ensures in
    row_place c.args.t.now c.args.row c.requires.in_rows c.line_to-l.result c.line_to-l.ensures
    (row_len c.args.t.now c.args.row - 1) _ (omega arith) (omega (arith, by_line_length, c.if-n-eq0.true))

pub overflow_add-result : goal.overflow_add-result
overflow_add-result c =
    let by_line_length = line_length c.args.t.now c.args.row c.requires.in_rows c.line_to-l.result
    c.line_to-l.ensures c.row_len-n.ensures in
    omega (
      arith,
      by_line_length,
      line_fits c.args.t.now c.args.row c.requires.in_rows c.line_to-l.result c.line_to-l.ensures,
    )

pub returns : goal.returns
returns c =
    let by_line_length = line_length c.args.t.now c.args.row c.requires.in_rows c.line_to-l.result
    c.line_to-l.ensures c.row_len-n.ensures in
    row_place c.args.t.now c.args.row c.requires.in_rows c.line_to-l.result c.line_to-l.ensures
    (row_len c.args.t.now c.args.row - 1) _ (omega arith) (omega (arith, by_line_length))
