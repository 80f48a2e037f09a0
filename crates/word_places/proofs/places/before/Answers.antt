use borrow.Author.Tests.{lt-ltb, le-ltb}
use Rattle.word_places.proofs.places.before.Goals as goal

pub returns-then-i-end : goal.returns-then-i-end
returns-then-i-end c = rw (lt-ltb _ _ c.if-i-end.true)

pub returns : goal.returns
returns c = rw (le-ltb _ _ c.if-i-end.false)
