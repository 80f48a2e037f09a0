use Rattle.chars.proofs.Before.{before_none, before_first}
use Rattle.chars.proofs.cell_widths.is_before.Goals as goal

pub returns-then-table-eq0 : goal.returns-then-table-eq0
returns-then-table-eq0 c = before_none _ _ c.if-table-eq0.true

pub returns : goal.returns
returns c = before_first _ _ c.if-table-eq0.false
