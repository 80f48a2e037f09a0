-- `words::once::needs_letters` meets its contract: a long text, or one that was looked through. Assumes nothing.
use Rattle.lists.proofs.Kit.{◌∙◌, lt-ltb, le-ltb}
use Rattle.words.specs.Prepared.{needs_letters}
use Rattle.words.proofs.once.needs_letters.Goals as goal

pub returns-then-t-gt-LONG : goal.returns-then-t-gt-LONG
unfolding needs_letters
returns-then-t-gt-LONG c = rw (lt-ltb _ _ c.if-t-gt-LONG.true)

pub returns : goal.returns
unfolding needs_letters
returns c = c.has_high.ensures ∙ rw (le-ltb _ _ c.if-t-gt-LONG.false)
