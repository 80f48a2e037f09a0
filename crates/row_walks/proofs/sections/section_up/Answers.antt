-- `row_walks::sections::section_up` meets its contract. The invariant of its loop: what is left to be found from the walk's row on leads where all of it does.
-- The measure is the row. Assumes nothing.
use Rattle.lists.proofs.Kit.{ap, sym, ◌∙◌, arith}
use Rattle.text.specs.declared.Line.{Line}
use Rattle.text.proofs.Stands.{line_there}
use Rattle.row_walks.proofs.Marks.{seeks_on, seeks_end, up_none, up_done, up_step}
use Rattle.row_walks.proofs.sections.section_up.Goals as goal

pub returns-then-left-eq0 : goal.returns-then-left-eq0
returns-then-left-eq0 c =
    let given = c.args in
    seeks_end c.loop-row.invariant (up_done given.t.now given.x c.loop-row.left c.loop-row.row c.if-left-eq0.true)

pub begins-requires : goal.begins-requires
begins-requires c =
    record {
      line = line_there c.args.t.now c.prev_line-l.result _ c.prev_line-l.ensures (omega (arith, c.loop-row.invariant.line.in_row));
      no_separator = c.requires.no_separator;
    }

pub loop-row-smaller-then-begins : goal.loop-row-smaller-then-begins
loop-row-smaller-then-begins c = omega (arith, ap (λ (l : Line). l.row) c.prev_line-l.ensures)

-- the row above begins with the mark, or it does not
pub loop-row-preserved-then-begins : goal.loop-row-preserved-then-begins
loop-row-preserved-then-begins c =
    let given = c.args in
    let up = ap (λ (l : Line). l.row) c.prev_line-l.ensures in
    seeks_on c.loop-row.invariant
    (line_there given.t.now c.prev_line-l.result _ c.prev_line-l.ensures (omega (arith, c.loop-row.invariant.line.in_row)))
    (up_step given.t.now given.x c.loop-row.left c.loop-row.row _ (omega (arith, c.if-left-eq0.false))
    c.loop-row-test.true up ∙ rw (sym c.begins.ensures ∙ c.if-begins.true))

pub loop-row-smaller : goal.loop-row-smaller
loop-row-smaller c = omega (arith, ap (λ (l : Line). l.row) c.prev_line-l.ensures)

pub loop-row-preserved : goal.loop-row-preserved
loop-row-preserved c =
    let given = c.args in
    let up = ap (λ (l : Line). l.row) c.prev_line-l.ensures in
    seeks_on c.loop-row.invariant
    (line_there given.t.now c.prev_line-l.result _ c.prev_line-l.ensures (omega (arith, c.loop-row.invariant.line.in_row)))
    (up_step given.t.now given.x c.loop-row.left c.loop-row.row _ (omega (arith, c.if-left-eq0.false))
    c.loop-row-test.true up ∙ rw (sym c.begins.ensures ∙ c.if-begins.false))

pub returns : goal.returns
returns c =
    let given = c.args in
    seeks_end c.loop-row.invariant (up_none given.t.now given.x c.loop-row.left c.loop-row.row c.loop-row-test.false)
