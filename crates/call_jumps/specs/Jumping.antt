-- The reply of the call that makes jumps: the caret at the end, as six numbers. Cited by `call_jumps` and `exports`. Assumes nothing.
use Rattle.std.specs.Prelude.{ℕ, List}
use Rattle.motions.specs.declared.Caret.{Caret}
use Rattle.call_bytes.specs.Reply.{Reply}
use Rattle.call_texts.specs.Carets.{moved_six}
use Rattle.jumps.specs.Jumps.{jumps_of}

abbrev pub jumping : List ℕ → ℕ → Caret → List ℕ → List ℕ → List ℕ → List ℕ → List ℕ → Reply
jumping starts content k pairs answers t folds list = moved_six (jumps_of t starts content folds list k pairs answers)
