-- `check::table_refusal` meets its contract: places, starts, number. Assumes nothing.
use Rattle.lists.proofs.Kit.{sym, ◌∙◌, and-false, eq-eqb, ne_eqb, lt-ltb, le-ltb}
use Rattle.row_table.specs.Table.{table_refusal}
use Rattle.row_table.proofs.Held.{held_same}
use Rattle.row_table.proofs.check.table_refusal.Goals as goal

pub returns-then-starts-need : goal.returns-then-starts-need
unfolding table_refusal
returns-then-starts-need c = rw (lt-ltb _ _ c.if-starts-need.true)

pub returns-then-not-holds : goal.returns-then-not-holds
unfolding table_refusal
returns-then-not-holds c =
    let same = held_same _ _ _ c.requires.rows_are in
    rw (le-ltb _ _ c.if-starts-need.false, sym same ∙ sym c.holds.ensures ∙ c.if-not-holds.true)

pub returns-then-content-content_of : goal.returns-then-content-content_of
unfolding table_refusal
returns-then-content-content_of c =
    rw (le-ltb _ _ c.if-starts-need.false, ← c.content_of.ensures, ne_eqb _ _ c.if-content-content_of.true, and-false)

pub returns : goal.returns
unfolding table_refusal
returns c =
    let same = held_same _ _ _ c.requires.rows_are in
    rw (
      le-ltb _ _ c.if-starts-need.false,
      ← c.content_of.ensures,
      eq-eqb _ _ c.if-content-content_of.false,
      sym same ∙ sym c.holds.ensures ∙ c.if-not-holds.false,
    )
