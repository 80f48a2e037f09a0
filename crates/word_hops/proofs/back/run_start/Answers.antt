-- `word_hops::back::run_start` meets its contract: a walk back ends at or before its start. Assumes nothing.
use Rattle.lists.proofs.Kit.{ap, sym, ◌∙◌, arith}
use Rattle.word_hops.specs.Hops.{behind}
use Rattle.word_hops.proofs.Hopping.{back_below, onto_below}
use Rattle.word_hops.proofs.back.run_start.Goals as goal

pub overflow_add-result : goal.overflow_add-result
overflow_add-result c =
    let low = onto_below _ c.args.i _ (sym c.back.ensures ∙ c.in-Onto.is) (back_below _ _ _) in
    omega (arith, low, c.requires)

pub returns-in-Onto : goal.returns-in-Onto
returns-in-Onto c =
    rw (← c.soft-k.ensures) (ap behind (sym c.in-Onto.is ∙ c.back.ensures))

pub returns-in-Stuck : goal.returns-in-Stuck
returns-in-Stuck c =
    rw (← c.soft-k.ensures) (ap behind (sym c.in-Stuck.is ∙ c.back.ensures))
