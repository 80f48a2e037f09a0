-- `word_class_rows::rows::row_start` meets its contract. The invariant of its loop: r is the row of the place behind those that are left, and not
-- before the row sought. Assumes nothing.
use Rattle.lists.proofs.Kit.{◌≡◌, ◌+◌, ◌-◌, sym, ◌∙◌, arith}
use Rattle.word_class_rows.proofs.Loops.{behind_row, behind_char, behind_start, behind_first}
use Rattle.word_class_rows.proofs.rows.row_start.Goals as goal

pub loop-i-init : goal.loop-i-init
loop-i-init c = let required = c.requires in record { stands = required.stands; not_before = required.not_before }

-- the end of the row before
pub returns-then-r-row : goal.returns-then-r-row
returns-then-r-row c =
    let behind : c.loop-i.i - 1 + 1 ≡ c.loop-i.i = omega arith in
    behind ∙ behind_start c.loop-i.invariant c.loop-i-test.true (sym c.is_end.ensures ∙ c.if-is_end.true) c.if-r-row.true

pub overflow_sub-r : goal.overflow_sub-r
overflow_sub-r c = omega (arith, c.if-r-row.false, c.loop-i.invariant.not_before)

pub loop-i-preserved-then-is_end : goal.loop-i-preserved-then-is_end
loop-i-preserved-then-is_end c =
    behind_row c.loop-i.invariant c.loop-i-test.true (sym c.is_end.ensures ∙ c.if-is_end.true) c.if-r-row.false

-- a character
pub loop-i-preserved : goal.loop-i-preserved
loop-i-preserved c =
    behind_char c.loop-i.invariant c.loop-i-test.true (sym c.is_end.ensures ∙ c.if-is_end.false)

-- the text's first place
pub returns : goal.returns
returns c =
    let first : c.loop-i.i ≡ 0 = omega (arith, c.loop-i-test.false) in
    sym first ∙ behind_first c.loop-i.invariant first
