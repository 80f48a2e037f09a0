-- `machine::phase` meets its contract: state by state. Assumes nothing.
use Rattle.vim_reader.specs.Machine.{phase_of}
use Rattle.vim_reader.proofs.machine.phase.Goals as goal

pub returns-in-Start : goal.returns-in-Start
unfolding phase_of
returns-in-Start c = rw c.in-Start.is

pub returns-in-Part : goal.returns-in-Part
unfolding phase_of
returns-in-Part c = rw c.in-Part.is

pub returns-in-Caret : goal.returns-in-Caret
unfolding phase_of
returns-in-Caret c = rw c.in-Caret.is

pub returns-in-Number : goal.returns-in-Number
unfolding phase_of
returns-in-Number c = rw c.in-Number.is

pub returns-in-Sign : goal.returns-in-Sign
unfolding phase_of
returns-in-Sign c = rw c.in-Sign.is

pub returns-in-Dash : goal.returns-in-Dash
unfolding phase_of
returns-in-Dash c = rw c.in-Dash.is

pub returns-in-Second : goal.returns-in-Second
unfolding phase_of
returns-in-Second c = rw c.in-Second.is

pub returns-in-Done : goal.returns-in-Done
unfolding phase_of
returns-in-Done c = rw c.in-Done.is

pub returns-in-Dead : goal.returns-in-Dead
unfolding phase_of
returns-in-Dead c = rw c.in-Dead.is
