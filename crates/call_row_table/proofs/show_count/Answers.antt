-- `show_count` meets its contract, by the cases of the answer. Assumes nothing.
use Rattle.call_row_table.proofs.show_count.Goals as goal

pub returns-in-Rows : goal.returns-in-Rows
returns-in-Rows c =
    let m_is = c.in-Rows.is in
    record { numbered = rw m_is; out_left = rw m_is }
