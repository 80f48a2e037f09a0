use Rattle.lists.proofs.Kit.{ap, sym, ℕ, take, length-take-le}
use Rattle.session_row.proofs.Laws.{space_at}
use Rattle.session_row.proofs.key.Goals as goal

pub slice_bounds-result-end : goal.slice_bounds-result-end
slice_bounds-result-end c = sym (length-take-le _ _ c.find-e.ensures.within)

pub returns : goal.returns
returns c = ap (λ (e : ℕ). take e c.args.row.now) (space_at _ _ c.find-e.ensures.at)
