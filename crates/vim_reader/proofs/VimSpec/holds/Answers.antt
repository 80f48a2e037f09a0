-- `vim_reader::VimSpec::holds` meets its contract. The invariant of its loop: the tokens before the index have said `is`. Assumes nothing.
use Rattle.lists.proofs.Kit.{sym, ◌∙◌, arith}
use Rattle.vim_reader.proofs.TableLaws.{decided_said, decided_on, decided_past}
use Rattle.vim_reader.proofs.VimSpec.holds.Goals as goal
use Rattle.vim_reader.proofs.VimSpec.holds.Goals.{then-speaks, else-speaks}

pub loop-t-preserved : goal.loop-t-preserved
loop-t-preserved c =
    let at_loop = c.loop-t in
    let token_c = c.args.c in
    elim c.if-speaks.branch [
      -- the token speaks of c
      | then-speaks w ↦ rw w.is-is (record {
        within = omega arith;
        rest = at_loop.invariant.rest ∙ decided_said _ at_loop.t-index token_c at_loop.is c.loop-t-test.true (sym c.speaks.ensures ∙ w.if-speaks.true);
      })
      -- it does not
      | else-speaks w ↦ rw w.is-is (record {
        within = omega arith;
        rest = at_loop.invariant.rest ∙ decided_on _ at_loop.t-index token_c at_loop.is c.loop-t-test.true (sym c.speaks.ensures ∙ w.if-speaks.false);
      })
    ]

pub returns : goal.returns
returns c =
    let at_loop = c.loop-t in
    sym (at_loop.invariant.rest ∙ decided_past _ at_loop.t-index c.args.c at_loop.is c.loop-t-test.false)
