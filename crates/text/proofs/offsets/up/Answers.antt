-- `text::offsets::up` meets its contract. The invariant of its loop: i stands in row r, and `left` rows are still to go up.
-- The measure is i. Assumes nothing.
use Rattle.lists.proofs.Kit.{ap, ◌∙◌, arith}
use Rattle.text.specs.Offsets.{line_at}
use Rattle.text.proofs.Stretches.{pass_back, left_over}
use Rattle.text.proofs.offsets.up.Goals as goal

pub returns-then-s-left : goal.returns-then-s-left
returns-then-s-left c =
    c.walk_up.ensures ∙ ap (line_at c.args.t.now) c.loop-i.invariant.gone_up

pub overflow_sub-r : goal.overflow_sub-r
overflow_sub-r c =
    (pass_back c.args.t.now c.loop-i.invariant.stands c.separators-s.result _ (omega arith)
    c.separators-s.ensures.count).0

pub loop-i-preserved : goal.loop-i-preserved
loop-i-preserved c =
    let invariant = c.loop-i.invariant in
    let by_pass_back = pass_back c.args.t.now invariant.stands c.separators-s.result _ (omega arith)
    c.separators-s.ensures.count in
    let less = left_over c.loop-i.r c.loop-i.left c.separators-s.result by_pass_back.0 c.if-s-left.false in
    record { stands = by_pass_back.1; gone_up = less ∙ invariant.gone_up }

pub returns : goal.returns
returns c =
    c.walk_up-2.ensures ∙ ap (line_at c.args.t.now) c.loop-i.invariant.gone_up
