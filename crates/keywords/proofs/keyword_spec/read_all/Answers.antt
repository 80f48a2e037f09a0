-- `keywords::keyword_spec::read_all` meets its contract. The invariant of its loop: the table holds the tokens of the parts before `from`. The
-- measure is how far `from` is from past the list's end. Assumes nothing.
use Rattle.lists.proofs.Kit.{refl, ◌∙◌, arith, rules, le-leb, lt-leb}
use Rattle.list_tokens.proofs.TokenLaws.{step_next}
use Rattle.keywords.proofs.TableLaws.{reading_start, reading_length, reading_skip, reading_keep, reading_full, reading_end}
use Rattle.keywords.proofs.keyword_spec.read_all.Goals as goal

pub loop-from-init : goal.loop-from-init
loop-from-init c = reading_start _ _ c.new-spec.ensures

pub loop-from-smaller-then-t-eq0 : goal.loop-from-smaller-then-t-eq0
loop-from-smaller-then-t-eq0 c =
    let given = c.args in
    omega (
      arith,
      step_next given.list.now c.loop-from.from c.loop-from-test.true c.read_part-step.result
          c.read_part-step.ensures,
    )

-- a part that is no token
pub loop-from-preserved-then-t-eq0 : goal.loop-from-preserved-then-t-eq0
loop-from-preserved-then-t-eq0 c =
    let at_loop = c.loop-from in
    reading_skip at_loop.invariant c.loop-from-test.true c.read_part-step.result c.read_part-step.ensures c.if-t-eq0.true

-- one token more than there are places
pub returns-then-spec-eq128 : goal.returns-then-spec-eq128
returns-then-spec-eq128 c =
    let at_loop = c.loop-from in
    let some = c.if-t-eq0.false in
    let by_reading_full = reading_full at_loop.invariant c.loop-from-test.true c.read_part-step.result
    c.read_part-step.ensures some c.if-spec-eq128.true in
    c.refused.ensures ∙ rw (lt-leb _ _ by_reading_full)

-- the place after the last token is one of the table's
pub offset_bounds-spec-n : goal.offset_bounds-spec-n
offset_bounds-spec-n c =
    let invariant = c.loop-from.invariant in
    let few = reading_length invariant in
    let most = invariant.few in
    search rules

pub bounds-spec-n : goal.bounds-spec-n
bounds-spec-n c =
    let invariant = c.loop-from.invariant in
    omega (arith, reading_length invariant, invariant.few)

pub overflow_add-spec : goal.overflow_add-spec
overflow_add-spec c =
    let invariant = c.loop-from.invariant in
    omega (arith, reading_length invariant, invariant.few)

pub loop-from-smaller : goal.loop-from-smaller
loop-from-smaller c =
    let given = c.args in
    omega (
      arith,
      step_next given.list.now c.loop-from.from c.loop-from-test.true c.read_part-step.result
          c.read_part-step.ensures,
    )

-- a token, put into the table
pub loop-from-preserved : goal.loop-from-preserved
loop-from-preserved c =
    let at_loop = c.loop-from in
    reading_keep at_loop.invariant c.loop-from-test.true c.read_part-step.result c.read_part-step.ensures
    c.if-t-eq0.false c.if-spec-eq128.false _ refl

pub returns : goal.returns
returns c =
    let by_reading_end = reading_end c.loop-from.invariant c.loop-from-test.false in
    rw (le-leb _ _ by_reading_end.1, by_reading_end.0)
