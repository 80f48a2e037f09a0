-- `vim_words::flags::tell` meets its contract. The invariant of its loop: the token has been told of the codes below c.
-- Assumes nothing.
use Rattle.lists.proofs.Kit.{sym, ◌∙◌, arith, length-set}
use Rattle.vim_words.proofs.Telling.{telling_start, telling_said, telling_kept, telling_end}
use Rattle.vim_words.proofs.flags.tell.Goals as goal
use Rattle.vim_words.proofs.flags.tell.Goals.{then-speaks, else-speaks}

pub loop-c-init : goal.loop-c-init
loop-c-init c =
    record { up_to = omega arith; size = c.requires; so_far = telling_start c.args.t c.args.flags.now }

-- the token speaks of c, or does not
pub loop-c-preserved : goal.loop-c-preserved
loop-c-preserved c =
    let given = c.args in
    let in_loop = c.loop-c in
    let here = in_loop.invariant in
    elim c.if-speaks.branch [
      | then-speaks w ↦ rw w.flags-is (record {
        up_to = omega arith;
        size = length-set in_loop.flags in_loop.c _ ∙ here.size;
        so_far = telling_said given.t given.flags.now in_loop.c in_loop.flags here.so_far (omega (arith, here.size)) _
            c.said-flag.ensures (sym c.speaks.ensures ∙ w.if-speaks.true);
      })
      | else-speaks w ↦ rw w.flags-is (record {
        up_to = omega arith;
        size = here.size;
        so_far = telling_kept given.t given.flags.now in_loop.c in_loop.flags here.so_far (sym c.speaks.ensures ∙ w.if-speaks.false);
      })
    ]

pub returns : goal.returns
returns c =
    let at_loop = c.loop-c in
    let given = c.args in
    telling_end given.t given.flags.now at_loop.c at_loop.flags c.loop-c-test.false at_loop.invariant.size at_loop.invariant.so_far

pub speaks-requires : goal.speaks-requires
speaks-requires c = c.is_letter.ensures
