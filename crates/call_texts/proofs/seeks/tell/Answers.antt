-- `seeks::tell` meets its contract, by the cases of the answer. Assumes nothing.
use Rattle.call_texts.specs.Seeks.{sought}
use Rattle.call_texts.proofs.seeks.tell.Goals as goal

pub returns-in-Found : goal.returns-in-Found
unfolding sought
returns-in-Found c =
    let m_is = c.in-Found.is in
    record { numbered = rw m_is; out_left = rw (m_is, c.held_of.ensures, c.column_of.ensures) }

pub returns-in-Missing : goal.returns-in-Missing
unfolding sought
returns-in-Missing c =
    let m2_is = c.in-Missing.is in
    record { numbered = rw m2_is; out_left = rw (m2_is, c.held_of-in-Missing.ensures, c.column_of-in-Missing.ensures) }

pub returns-in-Refused : goal.returns-in-Refused
unfolding sought
returns-in-Refused c = let m3_is = c.in-Refused.is in record { numbered = rw m3_is; out_left = rw m3_is }
