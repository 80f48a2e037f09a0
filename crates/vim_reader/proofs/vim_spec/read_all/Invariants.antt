-- `vim_spec::read_all` meets its contract. The invariant of its loop: what is read is what was read before i, and then what is read from there on.
-- Assumes nothing.
use Rattle.vim_reader.proofs.RunLaws.{Run}
use Rattle.vim_reader.proofs.vim_spec.read_all.Given as goal

abbrev pub invariant-loop-i : goal.invariant-loop-i
invariant-loop-i l = Run l.list l.state l.i l.n l.spec
