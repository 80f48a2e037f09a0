-- The reply of the call that writes a list without its retired signs; what it leaves is `plain_in` of `list_signs`. Cited by `call_signs::plain`.
-- Assumes nothing.
use Rattle.std.specs.Prelude.{ℕ, List, cond, eqb, length}
use Rattle.call_bytes.specs.declared.Told.{Told}
use Rattle.call_bytes.specs.declared.Told.TheVariants.{Value, Refused}
use Rattle.list_signs.specs.Plain.{plain, plain_refusal}

-- how many code points, or 7, then 14
unfoldable pub plain_told : List ℕ → List ℕ → Told
plain_told written list = cond (eqb (plain_refusal list written) 0) (Value (length (plain list))) (Refused (plain_refusal list written))
