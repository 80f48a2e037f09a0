use Rattle.word_classes.specs.Classes.{end_class}
use Rattle.word_classes.proofs.classes.end_class.Goals as goal

pub returns-then-first : goal.returns-then-first
unfolding end_class
returns-then-first c = rw c.if-first.true

pub returns : goal.returns
unfolding end_class
returns c = rw c.if-first.false
