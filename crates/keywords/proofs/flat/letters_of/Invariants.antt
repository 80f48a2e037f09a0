-- `keywords::letters_of` meets its contract. The invariant of its loop: no token before the index holds every letter. Assumes nothing.
use Rattle.lists.proofs.Kit.{length, drop}
use Rattle.lists.proofs.Decides.{Decides}
use Rattle.keywords.specs.Flat.{any_alpha}
use Rattle.keywords.proofs.flat.letters_of.Given as goal

abbrev pub invariant-loop-t : goal.invariant-loop-t
invariant-loop-t l = Decides (any_alpha l.t-items) (λ j. any_alpha (drop j l.t-items)) (length l.t-items) l.t-index
