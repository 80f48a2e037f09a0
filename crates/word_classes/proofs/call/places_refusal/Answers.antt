use borrow.Author.Tests.{lt-ltb, le-ltb}
use Rattle.word_classes.specs.Call.{places_refusal}
use Rattle.word_classes.proofs.call.places_refusal.Goals as goal

pub returns-then-t-classes : goal.returns-then-t-classes
unfolding places_refusal
returns-then-t-classes c = rw (lt-ltb _ _ c.if-t-classes.true)

pub returns : goal.returns
unfolding places_refusal
returns c = rw (le-ltb _ _ c.if-t-classes.false)
