-- `show` meets its contract, by the cases of the answer. Assumes nothing.
use Rattle.lists.proofs.Kit.{arith}
use Rattle.call_row_table.specs.Tables.{len_of, count_of, caret_reply, sizes_reply}
use Rattle.call_row_table.proofs.show.Goals as goal

-- the sizes fit
pub overflow_cast-sizes : goal.overflow_cast-sizes
unfolding len_of
overflow_cast-sizes c =
    let fits = rw c.in-Done.is at c.requires in
    omega (arith, fits.len_fits)

pub overflow_cast-sizes-in-Done : goal.overflow_cast-sizes-in-Done
unfolding count_of
overflow_cast-sizes-in-Done c =
    let fits = rw c.in-Done.is at c.requires in
    omega (arith, fits.count_fits)

pub returns-in-Done : goal.returns-in-Done
unfolding caret_reply sizes_reply
returns-in-Done c =
    let e_is = c.in-Done.is in
    record { caret_left = record { numbered = rw e_is; out_left = rw e_is }; sizes_left = record { numbered = rw e_is; out_left = rw e_is } }

pub returns-in-Refused : goal.returns-in-Refused
unfolding caret_reply sizes_reply
returns-in-Refused c =
    let e2_is = c.in-Refused.is in
    record { caret_left = record { numbered = rw e2_is; out_left = rw e2_is }; sizes_left = record { numbered = rw e2_is; out_left = rw e2_is } }
