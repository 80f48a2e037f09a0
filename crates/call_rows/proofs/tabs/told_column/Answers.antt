-- `tabs::told_column` meets its contract, by the cases of the column. Assumes nothing.
use Rattle.call_rows.specs.Tabs.{told_column}
use Rattle.call_rows.proofs.tabs.told_column.Goals as goal

pub returns-in-At : goal.returns-in-At
unfolding told_column
returns-in-At c = rw c.in-At.is

pub returns-in-Refused : goal.returns-in-Refused
unfolding told_column
returns-in-Refused c = rw c.in-Refused.is
