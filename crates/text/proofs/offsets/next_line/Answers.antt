-- `text::offsets::next_line` meets its contract: a row begins behind the separator that ends the one before it.
-- Assumes nothing.
use Rattle.lists.proofs.Kit.{refl, arith}
use Rattle.text.proofs.Parts.{next_start_lem}
use Rattle.text.proofs.Stands.{line_eq, stands_end}
use Rattle.text.proofs.offsets.next_line.Goals as goal

pub returns : goal.returns
returns c =
    let text_now = c.args.t.now in
    let given_l = c.args.l in
    line_eq text_now
    (omega (arith, stands_end c.requires.0, c.requires.0.begins, next_start_lem text_now given_l.row c.requires.0.in_row)) refl
