-- `word_classes::classes::write_classes` meets its contract. The invariant of its loop: the places before i are written. Assumes nothing.
use Rattle.list_tokens.specs.Tokens.{any_token}
use Rattle.keywords.specs.Table.{kept}
use Rattle.word_classes.proofs.Writing.{Writing}
use Rattle.word_classes.proofs.classes.write_classes.Given as goal

abbrev pub invariant-loop-i : goal.invariant-loop-i
invariant-loop-i l = Writing (any_token (kept l.spec)) l.t l.initial.classes l.classes l.first l.i
