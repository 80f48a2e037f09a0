-- `pairs::show` meets its contract, by the cases of the answer. Assumes nothing.
use Rattle.lists.proofs.Kit.{arith}
use Rattle.call_texts.specs.Partners.{partnered}
use Rattle.call_texts.proofs.pairs.show.Goals as goal

pub overflow_cast-out : goal.overflow_cast-out
overflow_cast-out c =
    let fits = rw c.in-There.is at c.requires in
    omega (arith, fits.row_small)

pub overflow_cast-out-in-There : goal.overflow_cast-out-in-There
overflow_cast-out-in-There c =
    let fits = rw c.in-There.is at c.requires in
    omega (arith, fits.col_small)

pub returns-in-There : goal.returns-in-There
unfolding partnered
returns-in-There c = let m_is = c.in-There.is in record { numbered = rw m_is; out_left = rw m_is }

pub returns-in-None : goal.returns-in-None
unfolding partnered
returns-in-None c = let answer_is = c.in-None.is in record { numbered = rw answer_is; out_left = rw answer_is }

pub returns-in-Refused : goal.returns-in-Refused
unfolding partnered
returns-in-Refused c = let m2_is = c.in-Refused.is in record { numbered = rw m2_is; out_left = rw m2_is }
