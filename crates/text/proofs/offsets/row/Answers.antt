-- `text::offsets::row` meets its contract: a row is the part of the text from its start to its end.
-- Assumes nothing.
use Rattle.lists.proofs.Kit.{◌≡◌, sym, ◌-◌, arith}
use Rattle.text.specs.Text.{row_len}
use Rattle.text.proofs.Parts.{row_part}
use Rattle.text.proofs.Stands.{stands_end}
use Rattle.text.proofs.offsets.row.Goals as goal

pub returns : goal.returns
returns c =
    let text_now = c.args.t.now in
    let given_l = c.args.l in
    let long : c.row_end-e.result - given_l.start ≡ row_len text_now given_l.row = omega (arith, stands_end c.requires) in
    rw (long, c.requires.begins) (sym (row_part text_now given_l.row c.requires.in_row))
