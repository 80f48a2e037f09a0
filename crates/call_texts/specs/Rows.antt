-- The replies of calls on the rows of a text. Cited by `call_texts::rows`. Assumes nothing.
use Rattle.std.specs.Prelude.{ℕ, List}
use Rattle.text.specs.Text.{content_row_count}
use Rattle.text.specs.declared.Counted.{Counted}
use Rattle.text.specs.declared.Counted.TheVariants.{Rows, Refused}
use Rattle.call_bytes.specs.declared.Told.{Told}
use Rattle.call_bytes.specs.declared.Told.TheVariants.{Value, Refused as Told-as-Refused}
use Rattle.call_bytes.specs.Reply.{Reply, told}

-- the number and value of `content_row_count`: the rows, or a refusal's number
abbrev pub told_rows : Counted → Told
told_rows (Rows n) = Value n
told_rows (Refused f) = Told-as-Refused f

-- the reply of `content_row_count`
abbrev pub row_count : List ℕ → Reply
row_count t = told (told_rows (content_row_count t))
