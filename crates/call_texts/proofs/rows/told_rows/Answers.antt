-- `rows::told_rows` meets its contract, by the cases of the count. Assumes nothing.
use Rattle.call_texts.proofs.rows.told_rows.Goals as goal

pub returns-in-Rows : goal.returns-in-Rows
returns-in-Rows c = rw c.in-Rows.is

pub returns-in-Refused : goal.returns-in-Refused
returns-in-Refused c = rw c.in-Refused.is
