-- `machine::token_of` meets its contract: state by state. Assumes nothing.
use Rattle.vim_reader.specs.Machine.{token_of}
use Rattle.vim_reader.proofs.machine.token_of.Goals as goal

pub returns-in-Start : goal.returns-in-Start
unfolding token_of
returns-in-Start c = rw c.in-Start.is

pub returns-in-Part : goal.returns-in-Part
unfolding token_of
returns-in-Part c = rw c.in-Part.is

pub returns-in-Caret : goal.returns-in-Caret
unfolding token_of
returns-in-Caret c = rw c.in-Caret.is c.one_of.ensures

pub returns-in-Number : goal.returns-in-Number
unfolding token_of
returns-in-Number c = rw c.in-Number.is c.one_of-in-Number.ensures

pub returns-in-Sign : goal.returns-in-Sign
unfolding token_of
returns-in-Sign c = rw c.in-Sign.is c.sign_of.ensures

pub returns-in-Dash : goal.returns-in-Dash
unfolding token_of
returns-in-Dash c = rw c.in-Dash.is

pub returns-in-Second : goal.returns-in-Second
unfolding token_of
returns-in-Second c = rw c.in-Second.is c.range_of.ensures

pub returns-in-Done : goal.returns-in-Done
unfolding token_of
returns-in-Done c = rw c.in-Done.is c.range_of-in-Done.ensures

pub returns-in-Dead : goal.returns-in-Dead
unfolding token_of
returns-in-Dead c = rw c.in-Dead.is
