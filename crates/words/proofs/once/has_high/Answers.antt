-- `words::once::has_high` meets its contract. The invariant of its loop: what was found, or will be. Assumes nothing.
use Rattle.lists.proofs.Kit.{refl, sym, rules}
use Rattle.lists.proofs.Any.{any_on, any_end}
use Rattle.word_kinds.specs.Lent.{is_high}
use Rattle.words.proofs.once.has_high.Goals as goal

pub loop-x-init : goal.loop-x-init
loop-x-init c = record { up_to = search rules; either = refl }

pub loop-x-preserved : goal.loop-x-preserved
loop-x-preserved c =
    let at_loop = c.loop-x in
    record {
      up_to = search rules;
      either = any_on is_high c.args.t.now at_loop.x-index at_loop.high c.loop-x-test.true at_loop.invariant.either;
    }

pub returns : goal.returns
returns c =
    let at_loop = c.loop-x in
    sym (any_end is_high c.args.t.now at_loop.x-index at_loop.high c.loop-x-test.false at_loop.invariant.either)
