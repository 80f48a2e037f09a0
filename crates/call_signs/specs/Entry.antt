-- The replies of the entry of a list, by the number that stands for each; a refusal has its place in the high half. Cited by
-- `call_signs::entry`. Assumes nothing.
use Rattle.std.specs.Prelude.{ℕ, ◌+◌, ◌*◌, List, [], ◌∷◌, cond, eqb}
use Rattle.chars.specs.Scalar.{is_scalar}
use Rattle.keywords.specs.Table.{matches_of}
use Rattle.keywords.specs.declared.Matched.{Matched}
use Rattle.keywords.specs.declared.Matched.TheVariants.{Is, Refused as Matched-as-Refused}
use Rattle.call_bytes.specs.Reply.{Reply, answer, refused, bit}
use Rattle.list_signs.specs.declared.Entered.{Entered}
use Rattle.list_signs.specs.Plain.{entry_of}
use Rattle.call_signs.specs.declared.Placed.{Placed}
use Rattle.call_signs.specs.declared.Placed.TheVariants.{Value, Refused}

-- a number in the low 32 bits and a place above them
abbrev pub placed : ℕ → ℕ → ℕ
placed n place = place * 4294967296 + n

abbrev pub placed_reply : Placed → Reply
placed_reply (Value n) = answer (n ∷ [])
placed_reply (Refused f) = refused f

abbrev pub placed_matched : Matched → Placed
placed_matched (Is b) = Value (bit b)
placed_matched (Matched-as-Refused f) = Refused f

-- how many tokens of a list are kept
unfoldable pub entered_count : List ℕ → Placed
entered_count list =
    cond (eqb (entry_of list).refusal 0) (Value (entry_of list).spec.len) (Refused (placed (entry_of list).refusal (entry_of list).place))

-- whether the table of an entered list holds x
unfoldable pub by_entry : Entered → ℕ → Placed
by_entry e x = cond (eqb e.refusal 0) (placed_matched (matches_of e.spec x)) (Refused (placed e.refusal e.place))

-- 2 comes before what entering the list gives
unfoldable pub entered_matches : List ℕ → ℕ → Placed
entered_matches list x = cond (is_scalar x) (by_entry (entry_of list) x) (Refused 2)

-- what a number stands for; 100 where it stands for nothing
unfoldable pub entering : ℕ → ℕ → List ℕ → Placed
entering op x list = cond (eqb op 0) (entered_count list) (cond (eqb op 1) (entered_matches list x) (Refused 100))
