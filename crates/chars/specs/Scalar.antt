-- What the contracts of `is_scalar` and `all_scalar` cite. Document 01, refusal 2. Definitions only. Assumes nothing.
use Rattle.std.specs.Prelude.{ℕ, Bool, not, ◌&&◌, ◌||◌, leb, ltb}

-- neither above 0x10FFFF nor in 0xD800..0xDFFF
abbrev pub is_scalar : ℕ → Bool
is_scalar x = leb x 0x10ffff && (ltb x 0xd800 || ltb 0xdfff x)

abbrev pub not_scalar : ℕ → Bool
not_scalar x = not (is_scalar x)
