-- `word_kinds::near::on_empty_row` meets its contract: the place is the first of its row, and then its last too. Assumes nothing.
use Rattle.lists.proofs.Kit.{refl, sym, ◌∙◌, arith, eqb-true}
use Rattle.word_kinds.specs.Places.{on_empty_row}
use Rattle.word_kinds.proofs.Ahead.{end_empty, empty_row}
use Rattle.word_kinds.proofs.near.on_empty_row.Goals as goal

pub returns-then-not-starts_row : goal.returns-then-not-starts_row
unfolding on_empty_row
returns-then-not-starts_row c = rw (sym c.starts_row.ensures ∙ c.if-not-starts_row.true)

pub returns-then-at-t : goal.returns-then-at-t
returns-then-at-t c =
    end_empty c.args.t.now c.args.p c.requires c.if-at-t.true
    (eqb-true _ _ (sym c.starts_row.ensures ∙ c.if-not-starts_row.false))

pub returns : goal.returns
returns c =
    empty_row c.args.t.now c.args.p c.requires _
    (eqb-true _ _ (sym c.starts_row.ensures ∙ c.if-not-starts_row.false)) (omega (arith, c.if-at-t.false)) refl
