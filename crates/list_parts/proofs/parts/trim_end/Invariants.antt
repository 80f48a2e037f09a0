-- `list_parts::parts::trim_end` meets its contract. The invariant of its loop: what stands from i on is white space. Assumes nothing.
use Rattle.lists.proofs.Kit.{take}
use Rattle.list_parts.specs.Parts.{trim_end}
use Rattle.list_parts.proofs.TrimLaws.{Trims}
use Rattle.list_parts.proofs.parts.trim_end.Given as goal

abbrev pub invariant-loop-i : goal.invariant-loop-i
invariant-loop-i l = Trims trim_end (λ j. take j l.p) l.p l.i
