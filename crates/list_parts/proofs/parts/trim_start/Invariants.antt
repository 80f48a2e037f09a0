-- `list_parts::parts::trim_start` meets its contract. The invariant of its loop: what stands before i is white space. Assumes nothing.
use Rattle.lists.proofs.Kit.{drop}
use Rattle.list_parts.specs.Parts.{trim_start}
use Rattle.list_parts.proofs.TrimLaws.{Trims}
use Rattle.list_parts.proofs.parts.trim_start.Given as goal

abbrev pub invariant-loop-i : goal.invariant-loop-i
invariant-loop-i l = Trims trim_start (λ j. drop j l.p) l.p l.i
