-- A Vim list's tokens as a flag for each code up to 255, and what they say of the letters above. That the two hold what the tokens hold is
-- `flags_hold` in `proofs/Above.antt`. Document 02, #108. Definitions only. Assumes nothing.
use Rattle.std.specs.Prelude.{ℕ, ◌≤◌, ◌<◌, ◌≡◌, List, [], ◌∷◌, Bool, true, cond, not, ◌&&◌, eqb, leb, length, get_or}
use Rattle.vim_grammar.specs.declared.VimToken.{VimToken}
use Rattle.vim_grammar.specs.Tokens.{speaks, in_vim}
use Rattle.vim_reader.specs.declared.VimSpec.{VimSpec}
use Rattle.vim_reader.specs.Table.{kept}

-- no token has an end above 255, as every list of the grammar has it
unfoldable pub low_ends : List VimToken → Bool
low_ends [] = true
low_ends (t ∷ ts) = leb t.hi 255 && low_ends ts

-- a table that was read: not too long, and no end above 255
pub record LowTable (spec : VimSpec) : Type 0 where
  pub short : spec.len ≤ 128
  pub low : low_ends (kept spec) ≡ true

-- whether letters count: what the last `@` or `^@` says, and b where there is none
unfoldable pub last_letters : Bool → List VimToken → Bool
last_letters b [] = b
last_letters b (t ∷ ts) = last_letters (cond (eqb t.kind 1) (not t.out) b) ts

-- the flag of what a token says: 0 where it excludes
abbrev pub flag_of : Bool → ℕ
flag_of out = cond out 0 1

-- flags before and after one more token: each code that it speaks of has what it says
pub record Told (t : VimToken) (old new : List ℕ) : Type 0 where
  pub size : length new ≡ 256
  pub each : (c : ℕ) → c < 256 → get_or new c 0 ≡ cond (speaks t c) (flag_of t.out) (get_or old c 0)

-- the flags of tokens
abbrev pub Flags : List VimToken → List ℕ → Type 0
Flags ts flags = (c : ℕ) → c < 256 → not (eqb (get_or flags c 0) 0) ≡ in_vim ts c
