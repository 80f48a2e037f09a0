-- `keywords::keyword_spec::read_all` meets its contract. The invariant of its loop: the table holds the tokens of the parts before `from`. The
-- measure is how far `from` is from past the list's end. Assumes nothing.
use Rattle.lists.proofs.Kit.{◌+◌, ◌-◌, length}
use Rattle.keywords.proofs.TableLaws.{Reading}
use Rattle.keywords.proofs.keyword_spec.read_all.Given as goal

abbrev pub invariant-loop-from : goal.invariant-loop-from
invariant-loop-from l = Reading l.list l.spec l.from

abbrev pub decreases-loop-from : goal.decreases-loop-from
decreases-loop-from l = length l.list + 1 - l.from
