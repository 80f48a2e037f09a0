-- `start_of` meets its contract: the table is the text's. Assumes nothing.
use Rattle.lists.proofs.Kit.{arith}
use Rattle.row_entries.proofs.Rows.{start_by}
use Rattle.row_entries.proofs.start_of.Goals as goal

pub overflow_cast-result : goal.overflow_cast-result
overflow_cast-result c = omega (arith, c.type_inv.starts c.args.row)

pub returns : goal.returns
returns c = start_by c.requires.held c.requires.in_row
