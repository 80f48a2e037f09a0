-- `keywords::keyword_spec::list_holds` meets its contract. The invariant of its loop: the parts before `from` do not hold c. The measure is how
-- far `from` is from past the list's end. Assumes nothing.
use Rattle.lists.proofs.Kit.{◌+◌, ◌-◌, length}
use Rattle.list_tokens.specs.Tokens.{in_list, tokens_in, any_token}
use Rattle.lists.proofs.Decides.{Decides}
use Rattle.lists.proofs.Splits.{split_from}
use Rattle.keywords.proofs.keyword_spec.list_holds.Given as goal

abbrev pub invariant-loop-from : goal.invariant-loop-from
invariant-loop-from l = Decides (in_list l.list l.c) (λ i. any_token (tokens_in (split_from 44 l.list i)) l.c) (length l.list + 1) l.from

abbrev pub decreases-loop-from : goal.decreases-loop-from
decreases-loop-from l = length l.list + 1 - l.from
