-- The flag `TSIVAREZA_WIDE`, 256, which a host adds to the number of a call on widths: class A is wide. Document 02, #107.
-- Cited by `call_rows::flags`. Definitions only. Assumes nothing.
use Rattle.std.specs.Prelude.{ℕ, ◌-◌, cond, ltb}
use Rattle.widths.specs.declared.Ambiguous.{Ambiguous}
use Rattle.widths.specs.declared.Ambiguous.TheVariants.{Narrow, Wide}

-- the setting by a number with or without the flag, and the number without it
abbrev pub setting_of : ℕ → Ambiguous
setting_of op = cond (ltb op 256) Narrow Wide

abbrev pub plain_of : ℕ → ℕ
plain_of op = cond (ltb op 256) op (op - 256)
