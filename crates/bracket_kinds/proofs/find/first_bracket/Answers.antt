-- `bracket_kinds::find::first_bracket` meets its contract. The invariant of its loop: the first bracket from the column on is the first from j on.
-- Assumes nothing.
use Rattle.lists.proofs.Kit.{sym, ◌∙◌}
use Rattle.row_search.proofs.Nearest.{first_on, first_stop, first_end}
use Rattle.bracket_kinds.proofs.find.first_bracket.Invariants.{test}
use Rattle.bracket_kinds.proofs.find.first_bracket.Goals as goal

pub returns-then-is_key_bracket : goal.returns-then-is_key_bracket
returns-then-is_key_bracket c =
    let row = c.args.row.now in
    sym (c.loop-j.invariant
    ∙ first_stop (test row) _ _ c.loop-j-test.true (sym c.is_key_bracket.ensures ∙ c.if-is_key_bracket.true))

pub loop-j-preserved : goal.loop-j-preserved
loop-j-preserved c =
    let row = c.args.row.now in
    c.loop-j.invariant ∙ first_on (test row) _ _ c.loop-j-test.true (sym c.is_key_bracket.ensures ∙ c.if-is_key_bracket.false)

pub returns : goal.returns
returns c = sym (c.loop-j.invariant ∙ first_end (test c.args.row.now) _ _ c.loop-j-test.false)
