-- `machine::sign_of` meets its contract: `@`, or any other character. Assumes nothing.
use Rattle.lists.proofs.Kit.{eq-eqb, ne_eqb}
use Rattle.vim_reader.specs.Machine.{sign_token}
use Rattle.vim_reader.proofs.machine.sign_of.Goals as goal

pub returns-then-c-eq-AT : goal.returns-then-c-eq-AT
unfolding sign_token
returns-then-c-eq-AT c = rw (eq-eqb _ _ c.if-c-eq-AT.true)

pub returns : goal.returns
unfolding sign_token
returns c = rw (ne_eqb _ _ c.if-c-eq-AT.false) c.one_of.ensures
