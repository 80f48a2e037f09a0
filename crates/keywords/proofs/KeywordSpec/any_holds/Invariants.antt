-- `keywords::KeywordSpec::any_holds` meets its contract. The invariant of its loop: the tokens before the index do not hold c. Assumes nothing.
use Rattle.lists.proofs.Kit.{length, drop}
use Rattle.lists.proofs.Decides.{Decides}
use Rattle.list_tokens.specs.Tokens.{any_token}
use Rattle.keywords.proofs.KeywordSpec.any_holds.Given as goal

abbrev pub invariant-loop-t : goal.invariant-loop-t
invariant-loop-t l = Decides (any_token l.t-items l.c) (λ j. any_token (drop j l.t-items) l.c) (length l.t-items) l.t-index
