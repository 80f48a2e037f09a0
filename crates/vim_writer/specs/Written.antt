-- A table of Vim's tokens as a list, each end as it was spelt, and what `write` answers and leaves. Document 02, #108.
-- Definitions only; the laws are in `proofs/`, and that reading what was written gives the same tokens is in `vim_laws`. Assumes nothing.
use Rattle.std.specs.Prelude.{ℕ, List, [], ◌∷◌, ◌++◌, Bool, cond, eqb, leb, length, drop}
use Rattle.print.specs.Print.{decimal}
use Rattle.vim_grammar.specs.declared.VimToken.{VimToken}
use Rattle.vim_reader.specs.declared.VimSpec.{VimSpec}
use Rattle.vim_reader.specs.Table.{kept}
use Rattle.vim_writer.specs.declared.VimWritten.{VimWritten}
use Rattle.vim_writer.specs.declared.VimWritten.TheVariants.{Made, Refused}

-- an end: the character itself, or the number without leading zeros
unfoldable pub end_text : Bool → ℕ → List ℕ
end_text char c = cond char (c ∷ []) (decimal c)

-- a token without its `^`
unfoldable pub item_text : VimToken → List ℕ
item_text t =
    cond (eqb t.kind 0) []
    (cond (eqb t.kind 1) (64 ∷ [])
    (cond (eqb t.kind 2) (end_text t.lochar t.lo) (end_text t.lochar t.lo ++ (45 ∷ end_text t.hichar t.hi))))

unfoldable pub token_text : VimToken → List ℕ
token_text t = cond t.out (94 ∷ item_text t) (item_text t)

-- tokens, each with a comma before it
unfoldable pub behind : List VimToken → List ℕ
behind [] = []
behind (t ∷ ts) = 44 ∷ (token_text t ++ behind ts)

-- tokens with commas between them
unfoldable pub written : List VimToken → List ℕ
written [] = []
written (t ∷ ts) = token_text t ++ behind ts

-- 8 for a table with a length above 128, then 14 for too little room
unfoldable pub write_refusal : VimSpec → List ℕ → ℕ
write_refusal spec room = cond (leb spec.len 128) (cond (leb (length (written (kept spec))) (length room)) 0 14) 8

-- the answer
unfoldable pub written_of : VimSpec → List ℕ → VimWritten
written_of spec room = let f = write_refusal spec room in cond (eqb f 0) (Made (length (written (kept spec)))) (Refused f)

-- what it leaves: the list at the front, what stood past it as it was; on a refusal all as it was
unfoldable pub written_in : VimSpec → List ℕ → List ℕ
written_in spec room = cond (eqb (write_refusal spec room) 0) (written (kept spec) ++ drop (length (written (kept spec))) room) room
