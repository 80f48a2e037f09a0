-- `visible_rows::rows::delta_of` meets its contract: the count, and its negative for the way up. Assumes nothing.
use Rattle.lists.proofs.Kit.{◌∙◌, ap, arith}
use lib.IntN.{pos, neg_ℤ}
use Rattle.visible_rows.proofs.Signed.{read_pos, neg_asked, read_neg}
use Rattle.visible_rows.proofs.rows.delta_of.Goals as goal

pub negated-requires : goal.negated-requires
negated-requires c =
    neg_asked c.signed-n.result c.max.result (omega arith) c.signed-n.ensures

pub returns-then-down : goal.returns-then-down
returns-then-down c =
    rw c.if-down.true (read_pos c.signed-n.result c.max.result (omega arith) c.signed-n.ensures
    ∙ ap pos c.max.ensures)

pub returns-else-down : goal.returns-else-down
returns-else-down c =
    rw c.if-down.false
    (read_neg c.signed-n.result c.max.result (omega arith) c.signed-n.ensures _ c.negated.ensures ∙
    ap (λ x. neg_ℤ (pos x)) c.max.ensures)
