-- The tokens of Vim's lists, and the set of characters that they hold: the last token that speaks of a character decides.
-- Document 02, #108. Definitions only; that the last one decides is `last_decides` in `proofs/TokenLaws.antt`. Assumes nothing.
use Rattle.std.specs.Prelude.{ℕ, List, [], ◌∷◌, Bool, false, cond, not, ◌&&◌, eqb, leb}
use Rattle.letters.specs.Letters.{is_letter}
use Rattle.vim_grammar.specs.declared.VimToken.{VimToken}

abbrev pub no_token : VimToken
no_token = record { out = false; kind = 0; lochar = false; lo = 0; hichar = false; hi = 0 }

-- `@`: every letter, in or out
abbrev pub letters : Bool → VimToken
letters out = record { out = out; kind = 1; lochar = false; lo = 0; hichar = false; hi = 0 }

-- one code, as a character or as a number
abbrev pub one : Bool → Bool → ℕ → VimToken
one out char c = record { out = out; kind = 2; lochar = char; lo = c; hichar = char; hi = c }

-- the codes from one end to another, both in
abbrev pub range : Bool → Bool → ℕ → Bool → ℕ → VimToken
range out lochar lo hichar hi = record { out = out; kind = 3; lochar = lochar; lo = lo; hichar = hichar; hi = hi }

-- the token speaks of c
abbrev pub speaks : VimToken → ℕ → Bool
speaks t c = cond (eqb t.kind 0) false (cond (eqb t.kind 1) (is_letter c) (leb t.lo c && leb c t.hi))

-- whether c is in, after the tokens before said b
unfoldable pub decided : Bool → List VimToken → ℕ → Bool
decided b [] c = b
decided b (t ∷ ts) c = decided (cond (speaks t c) (not t.out) b) ts c

-- the set of characters of a list's tokens; out where none speaks
abbrev pub in_vim : List VimToken → ℕ → Bool
in_vim ts c = decided false ts c
