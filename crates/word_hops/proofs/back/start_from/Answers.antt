-- `word_hops::back::start_from` meets its contract, by where the walk ended. Assumes nothing.
use Rattle.lists.proofs.Kit.{◌≡◌, ap, sym, ◌∙◌, true, false, arith, eq-eqb, ne_eqb, Some}
use Rattle.word_places.specs.Places.{is_empty}
use Rattle.word_hops.proofs.Hopping.{back_below, onto_below}
use Rattle.word_hops.proofs.back.start_from.Goals as goal

pub returns-then-class_at-eq-EMPTY_ROW : goal.returns-then-class_at-eq-EMPTY_ROW
returns-then-class_at-eq-EMPTY_ROW c =
    let empty : is_empty c.args.c.now c.in-Onto.j ≡ true =
    rw (← c.class_at.ensures) (eq-eqb _ _ c.if-class_at-eq-EMPTY_ROW.true) in
    rw (sym c.back.ensures ∙ c.in-Onto.is, empty)

pub run_start-requires : goal.run_start-requires
run_start-requires c =
    let low = onto_below _ c.args.i _ (sym c.back.ensures ∙ c.in-Onto.is) (back_below _ _ _) in
    omega (arith, low, c.requires)

pub returns-else-class_at-eq-EMPTY_ROW : goal.returns-else-class_at-eq-EMPTY_ROW
returns-else-class_at-eq-EMPTY_ROW c =
    let full : is_empty c.args.c.now c.in-Onto.j ≡ false =
    rw (← c.class_at.ensures) (ne_eqb _ _ c.if-class_at-eq-EMPTY_ROW.false) in
    rw (sym c.back.ensures ∙ c.in-Onto.is, full) (ap Some c.run_start.ensures)

pub returns-in-Stuck : goal.returns-in-Stuck
returns-in-Stuck c = rw (sym c.back.ensures ∙ c.in-Stuck.is)
