-- `row_wrap::breaks::whole` meets its contract: two places are written where there are two. Assumes nothing.
use Rattle.lists.proofs.Kit.{refl, ◌∙◌}
use Rattle.row_wrap.proofs.Room.{fitted_refused, fitted_count, filled_pair}
use Rattle.row_wrap.proofs.breaks.whole.Goals as goal

pub returns-then-out-lt2 : goal.returns-then-out-lt2
returns-then-out-lt2 c = fitted_refused c.if-out-lt2.true

pub returns : goal.returns
returns c =
    let left = c.if-out-lt2.false in
    let room = c.args.out.now in
    fitted_count left refl (c.put_segment.ensures ∙ filled_pair _ _ room left)
