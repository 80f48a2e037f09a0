-- `machine::may_end` meets its contract: state by state. Assumes nothing.
use Rattle.vim_reader.specs.Machine.{ends}
use Rattle.vim_reader.proofs.machine.may_end.Goals as goal

pub returns-in-Start : goal.returns-in-Start
unfolding ends
returns-in-Start c = rw c.in-Start.is

pub returns-in-Part : goal.returns-in-Part
unfolding ends
returns-in-Part c = rw c.in-Part.is

pub returns-in-Caret : goal.returns-in-Caret
unfolding ends
returns-in-Caret c = rw c.in-Caret.is

pub returns-in-Number : goal.returns-in-Number
unfolding ends
returns-in-Number c = rw c.in-Number.is

pub returns-in-Sign : goal.returns-in-Sign
unfolding ends
returns-in-Sign c = rw c.in-Sign.is

pub returns-in-Dash : goal.returns-in-Dash
unfolding ends
returns-in-Dash c = rw c.in-Dash.is

pub returns-in-Second : goal.returns-in-Second
unfolding ends
returns-in-Second c = rw c.in-Second.is

pub returns-in-Done : goal.returns-in-Done
unfolding ends
returns-in-Done c = rw c.in-Done.is

pub returns-in-Dead : goal.returns-in-Dead
unfolding ends
returns-in-Dead c = rw c.in-Dead.is
