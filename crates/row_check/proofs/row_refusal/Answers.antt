-- `row_check::row_refusal` meets its contract: the lower number first. Assumes nothing.
use Rattle.lists.proofs.Kit.{sym, ◌∙◌, rules, lt-ltb, le-ltb, not-true, not-false}
use Rattle.lists.specs.Lists.{any}
use Rattle.chars.specs.Scalar.{not_scalar}
use Rattle.row_check.specs.Row.{row_refusal}
use Rattle.row_check.proofs.row_refusal.Goals as goal

pub returns-then-row-gt1048576 : goal.returns-then-row-gt1048576
unfolding row_refusal
returns-then-row-gt1048576 c = rw (lt-ltb _ _ c.if-row-gt1048576.true)

pub all_scalar-requires : goal.all_scalar-requires
all_scalar-requires c = search rules

pub returns-then-not-all_scalar : goal.returns-then-not-all_scalar
unfolding row_refusal
returns-then-not-all_scalar c =
    let wrong = any not_scalar c.args.row.now in
    rw (le-ltb _ _ c.if-row-gt1048576.false, not-false wrong (sym c.all_scalar.ensures ∙ c.if-not-all_scalar.true))

pub returns : goal.returns
unfolding row_refusal
returns c =
    let wrong = any not_scalar c.args.row.now in
    rw (le-ltb _ _ c.if-row-gt1048576.false, not-true wrong (sym c.all_scalar.ensures ∙ c.if-not-all_scalar.false))
