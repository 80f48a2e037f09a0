-- `machine::step` meets its contract: state by state. Assumes nothing.
use Rattle.vim_reader.specs.Machine.{step_of}
use Rattle.vim_reader.proofs.machine.step.Goals as goal

pub returns-in-Start : goal.returns-in-Start
unfolding step_of
returns-in-Start c = rw c.in-Start.is c.start.ensures

pub returns-in-Part : goal.returns-in-Part
unfolding step_of
returns-in-Part c = rw c.in-Part.is c.start-in-Part.ensures

pub returns-in-Caret : goal.returns-in-Caret
unfolding step_of
returns-in-Caret c = rw c.in-Caret.is c.first.ensures

pub returns-in-Number : goal.returns-in-Number
unfolding step_of
returns-in-Number c = rw c.in-Number.is c.in_number.ensures

pub returns-in-Sign : goal.returns-in-Sign
unfolding step_of
returns-in-Sign c = rw c.in-Sign.is c.after_end.ensures

pub returns-in-Dash : goal.returns-in-Dash
unfolding step_of
returns-in-Dash c = rw c.in-Dash.is c.after_dash.ensures

pub returns-in-Second : goal.returns-in-Second
unfolding step_of
returns-in-Second c = rw c.in-Second.is c.in_second.ensures

pub returns-in-Done : goal.returns-in-Done
unfolding step_of
returns-in-Done c = rw c.in-Done.is c.after_range.ensures

pub returns-in-Dead : goal.returns-in-Dead
unfolding step_of
returns-in-Dead c = rw c.in-Dead.is
