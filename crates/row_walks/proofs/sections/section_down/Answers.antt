-- `row_walks::sections::section_down` meets its contract. The invariant of its loop: what is left to be found from the walk's row on leads where all of
-- it does. The measure is the rows below. Assumes nothing.
use Rattle.lists.proofs.Kit.{ap, sym, ◌∙◌, ◌-◌, arith}
use Rattle.text.specs.declared.Line.{Line}
use Rattle.text.proofs.Stands.{line_there}
use Rattle.row_walks.proofs.Marks.{seeks_on, seeks_end, down_none, down_done, down_step, has_next}
use Rattle.row_walks.proofs.sections.section_down.Goals as goal

pub loop-row-init : goal.loop-row-init
loop-row-init c = record { line = c.requires.section.line; same = rw c.requires.is_last }

pub returns-then-left-eq0 : goal.returns-then-left-eq0
returns-then-left-eq0 c =
    let given = c.args in
    seeks_end c.loop-row.invariant (down_done given.t.now given.x c.loop-row.left c.loop-row.row _ (omega (arith, c.if-left-eq0.true)))

pub next_line-l-requires : goal.next_line-l-requires
next_line-l-requires c =
    (c.loop-row.invariant.line, has_next c.args.t.now c.loop-row.row _ c.requires.is_last c.loop-row-test.true)

pub begins-requires : goal.begins-requires
begins-requires c =
    let below = has_next c.args.t.now c.loop-row.row _ c.requires.is_last c.loop-row-test.true in
    record {
      line = line_there c.args.t.now c.next_line-l.result _ c.next_line-l.ensures below;
      no_separator = c.requires.section.no_separator;
    }

pub loop-row-smaller-then-begins : goal.loop-row-smaller-then-begins
loop-row-smaller-then-begins c = omega (arith, ap (λ (l : Line). l.row) c.next_line-l.ensures, c.loop-row-test.true)

-- the row below begins with the mark, or it does not
pub loop-row-preserved-then-begins : goal.loop-row-preserved-then-begins
loop-row-preserved-then-begins c =
    let more = c.loop-row-test.true in
    let given = c.args in
    let down = ap (λ (l : Line). l.row) c.next_line-l.ensures in
    seeks_on c.loop-row.invariant (line_there given.t.now c.next_line-l.result _ c.next_line-l.ensures
    (has_next given.t.now c.loop-row.row _ c.requires.is_last more))
    (down_step given.t.now given.x c.loop-row.left c.loop-row.row given.last _ (omega (arith, c.if-left-eq0.false)) more down
    ∙ rw (sym c.begins.ensures ∙ c.if-begins.true))

pub loop-row-smaller : goal.loop-row-smaller
loop-row-smaller c = omega (arith, ap (λ (l : Line). l.row) c.next_line-l.ensures, c.loop-row-test.true)

pub loop-row-preserved : goal.loop-row-preserved
loop-row-preserved c =
    let more = c.loop-row-test.true in
    let given = c.args in
    let down = ap (λ (l : Line). l.row) c.next_line-l.ensures in
    seeks_on c.loop-row.invariant (line_there given.t.now c.next_line-l.result _ c.next_line-l.ensures
    (has_next given.t.now c.loop-row.row _ c.requires.is_last more))
    (down_step given.t.now given.x c.loop-row.left c.loop-row.row given.last _ (omega (arith, c.if-left-eq0.false)) more down
    ∙ rw (sym c.begins.ensures ∙ c.if-begins.false))

pub returns : goal.returns
returns c =
    let given = c.args in
    seeks_end c.loop-row.invariant (down_none given.t.now given.x c.loop-row.left c.loop-row.row _ (omega (arith, c.loop-row-test.false)))
