-- Characters by their codes: digits, and quoted texts. Definitions only. Assumes nothing.
use Rattle.std.specs.Prelude.{ℕ, List, [], ◌∷◌, Bool, ◌&&◌, leb}
use Prim.Native.Char.{code}
use Prim.Native.String.{String, [] as ended, ◌∷◌ as ◌then◌}

-- 0 to 9
abbrev pub is_digit : ℕ → Bool
is_digit x = leb 48 x && leb x 57

-- the codes of a quoted text; of ASCII characters they are its bytes too
unfoldable pub codes : String → List ℕ
codes ended = []
codes (c then s) = code c ∷ codes s
