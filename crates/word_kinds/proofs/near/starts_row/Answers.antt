-- `word_kinds::near::starts_row` meets its contract, by the code point before the place. Assumes nothing.
use Rattle.lists.proofs.Kit.{refl, arith}
use Rattle.word_kinds.proofs.Back.{starts_first, starts_by}
use Rattle.word_kinds.proofs.near.starts_row.Goals as goal

pub returns-then-at-eq0 : goal.returns-then-at-eq0
returns-then-at-eq0 c =
    starts_first c.args.t.now c.args.p c.requires c.if-at-eq0.true

pub returns : goal.returns
returns c =
    starts_by c.args.t.now c.args.p c.requires _ (omega (arith, c.if-at-eq0.false)) refl
