-- The lists that both readers read alike: those of Vim's grammar of which every token is common. Document 02, #108.
-- Definitions only; the proof is `both_alike` in `proofs/Common.antt`. Assumes nothing.
use Rattle.std.specs.Prelude.{ℕ, ◌≡◌, List, [], ◌∷◌, Bool, true, false, cond, ◌&&◌, eqb}
use Rattle.chars.specs.White.{is_white}
use Rattle.list_tokens.specs.Tokens.{in_list}
use Rattle.vim_grammar.specs.declared.VimToken.{VimToken}
use Rattle.vim_grammar.specs.Tokens.{in_vim}
use Rattle.vim_grammar.specs.Grammar.{Reads}

-- it doesn't exclude, and is `@`, a number, a range of two numbers, or a character that is neither white space, which the first reader trims away,
-- nor a comma, which ends a part there
unfoldable pub is_common : VimToken → Bool
is_common t =
    cond t.out false
    (cond (eqb t.kind 1) true
    (cond (eqb t.kind 2) (cond t.lochar (cond (is_white t.lo) false (cond (eqb t.lo 44) false true)) true)
    (cond t.lochar false (cond t.hichar false true))))

unfoldable pub all_common : List VimToken → Bool
all_common [] = true
all_common (t ∷ ts) = is_common t && all_common ts

-- then both hold the same characters
abbrev pub BothAlike : Type 0
BothAlike = (l : List ℕ) (ts : List VimToken) → Reads l ts → all_common ts ≡ true → (c : ℕ) → in_list l c ≡ in_vim ts c
