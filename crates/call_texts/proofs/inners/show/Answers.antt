-- `inners::show` meets its contract, by the cases of the answer. Assumes nothing.
use Rattle.lists.proofs.Kit.{arith}
use Rattle.call_texts.specs.Inners.{surrounded}
use Rattle.call_texts.proofs.inners.show.Goals as goal

-- the four positions fit
pub overflow_cast-out : goal.overflow_cast-out
overflow_cast-out c =
    let fits = rw c.in-Pair.is at c.requires in
    omega (arith, fits.from_small.row_small)

pub overflow_cast-out-in-Pair : goal.overflow_cast-out-in-Pair
overflow_cast-out-in-Pair c =
    let fits = rw c.in-Pair.is at c.requires in
    omega (arith, fits.from_small.col_small)

pub overflow_cast-out-in-Pair-2 : goal.overflow_cast-out-in-Pair-2
overflow_cast-out-in-Pair-2 c =
    let fits = rw c.in-Pair.is at c.requires in
    omega (arith, fits.to_small.row_small)

pub overflow_cast-out-in-Pair-3 : goal.overflow_cast-out-in-Pair-3
overflow_cast-out-in-Pair-3 c =
    let fits = rw c.in-Pair.is at c.requires in
    omega (arith, fits.to_small.col_small)

pub overflow_cast-out-in-Pair-4 : goal.overflow_cast-out-in-Pair-4
overflow_cast-out-in-Pair-4 c =
    let fits = rw c.in-Pair.is at c.requires in
    omega (arith, fits.opening_small.row_small)

pub overflow_cast-out-in-Pair-5 : goal.overflow_cast-out-in-Pair-5
overflow_cast-out-in-Pair-5 c =
    let fits = rw c.in-Pair.is at c.requires in
    omega (arith, fits.opening_small.col_small)

pub overflow_cast-out-in-Pair-6 : goal.overflow_cast-out-in-Pair-6
overflow_cast-out-in-Pair-6 c =
    let fits = rw c.in-Pair.is at c.requires in
    omega (arith, fits.past_small.row_small)

pub overflow_cast-out-in-Pair-7 : goal.overflow_cast-out-in-Pair-7
overflow_cast-out-in-Pair-7 c =
    let fits = rw c.in-Pair.is at c.requires in
    omega (arith, fits.past_small.col_small)

pub returns-in-Pair : goal.returns-in-Pair
unfolding surrounded
returns-in-Pair c =
    let m_is = c.in-Pair.is in
    record { numbered = rw m_is; out_left = rw m_is }

pub returns-in-None : goal.returns-in-None
unfolding surrounded
returns-in-None c = let answer_is = c.in-None.is in record { numbered = rw answer_is; out_left = rw answer_is }

pub returns-in-Refused : goal.returns-in-Refused
unfolding surrounded
returns-in-Refused c = let m2_is = c.in-Refused.is in record { numbered = rw m2_is; out_left = rw m2_is }
