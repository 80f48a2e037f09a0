-- The reply of the call that writes the classes of a text, and the slice after it. Cited by `call_classes::written`. Assumes nothing.
use Rattle.std.specs.Prelude.{ℕ, List}
use Rattle.call_bytes.specs.declared.Told.{Told}
use Rattle.call_bytes.specs.declared.Told.TheVariants.{Value, Refused}
use Rattle.call_bytes.specs.Reply.{Reply, told}
use Rattle.word_classes.specs.declared.Written.{Written}
use Rattle.word_classes.specs.declared.Written.TheVariants.{Made, Refused as Written-as-Refused}
use Rattle.word_classes.specs.Call.{write_refusal, written_of, sliced_by}

-- how many there are, or a refusal's number
abbrev pub told_written : Written → Told
told_written (Made n) = Value n
told_written (Written-as-Refused f) = Refused f

abbrev pub classing : List ℕ → List ℕ → List ℕ → Reply
classing t list room = told (told_written (written_of t list room))

abbrev pub classes_in : List ℕ → List ℕ → List ℕ → List ℕ
classes_in t list room = sliced_by (write_refusal t list room) t list room
