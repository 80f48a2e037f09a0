use Rattle.lists.proofs.Kit.{ap, ◌∙◌, min}
use Rattle.text.proofs.Stands.{line_there, stands_own}
use Rattle.screen.proofs.Spans.{jump_own, jump_other}
use Rattle.screen.proofs.out_of_folds.jump_to.Goals as goal

pub returns-then-row-from : goal.returns-then-row-from
returns-then-row-from c =
    let given = c.args in
    jump_own given.t.now given.l given.col given.row c.requires c.if-row-from.true

pub line_to-m-requires : goal.line_to-m-requires
line_to-m-requires c = (stands_own c.requires.line, c.requires.in_rows)

pub row_len-n-requires : goal.row_len-n-requires
row_len-n-requires c =
    line_there c.args.t.now c.line_to-m.result c.args.row c.line_to-m.ensures c.requires.in_rows

pub returns : goal.returns
returns c =
    let given = c.args in
    jump_other given.t.now given.l given.col given.row c.requires c.line_to-m.result c.row_len-n.result _
    c.if-row-from.false c.line_to-m.ensures c.row_len-n.ensures
    (c.min.ensures ∙ ap (min given.col) c.saturating_sub.ensures)
