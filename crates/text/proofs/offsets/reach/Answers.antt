-- `text::offsets::reach` meets its contract: row 0 stands at the top. Assumes nothing.
use Rattle.lists.proofs.Kit.{sym, rules}
use Rattle.text.proofs.Rows.{start_zero}
use Rattle.text.proofs.Stands.{first_line, stands_own, reached_row}
use Rattle.text.proofs.offsets.reach.Goals as goal

pub returns-then-to-eq0 : goal.returns-then-to-eq0
returns-then-to-eq0 c =
    let text_now = c.args.t.now in
    reached_row text_now (sym (start_zero text_now)) (sym c.if-to-eq0.true) (first_line text_now).in_row

pub below-requires : goal.below-requires
below-requires c = (stands_own (first_line c.args.t.now), search rules)
