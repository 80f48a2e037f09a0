-- Laws of the table: one token more, its tokens again, and whether they hold a character, token after token. Assumes nothing.
use Rattle.lists.proofs.Kit.{◌≡◌, ap, sym, ◌∙◌, List, [], ◌∷◌, ◌++◌, Bool, true, false, cond, not, ℕ, ◌+◌, ◌-◌, ◌≤◌, ◌<◌, arith, length, get_or, take, drop}
use Rattle.lists.proofs.Kit.{replicate, length-append, drop_of_length-le, take-append_seam, length-take-le}
use Rattle.lists.proofs.Lists.{drop_at_of as drop_at}
use Rattle.list_tokens.proofs.Lists.{fill_push}
use Rattle.vim_grammar.specs.declared.VimToken.{VimToken}
use Rattle.vim_grammar.specs.Tokens.{no_token, speaks, decided}
use Rattle.vim_reader.specs.Table.{table, kept, pushed}

pub table_push : (ts : List VimToken) (t : VimToken) → length ts < 128 → pushed (table ts) t ≡ table (ts ++ (t ∷ []))
table_push ts t h = λ i. record { tokens = fill_push 128 no_token ts t h i; len = sym (length-append ts (t ∷ [])) i }

pub table_kept : (ts : List VimToken) → kept (table ts) ≡ ts
table_kept ts = take-append_seam ts (replicate (128 - length ts) no_token)

-- a token, and those behind it
module _ (ts : List VimToken) (i c : ℕ) (b : Bool) (h : i < length ts) where
  pub decided_said : speaks (get_or ts i no_token) c ≡ true → decided b (drop i ts) c ≡ decided (not (get_or ts i no_token).out) (drop (i + 1) ts) c
  unfolding decided
  decided_said e = ap (λ (l : List VimToken). decided b l c) (drop_at ts i no_token h)
      ∙ ap (λ (s : Bool). decided (cond s (not (get_or ts i no_token).out) b) (drop (i + 1) ts) c) e

  pub decided_on : speaks (get_or ts i no_token) c ≡ false → decided b (drop i ts) c ≡ decided b (drop (i + 1) ts) c
  unfolding decided
  decided_on e = ap (λ (l : List VimToken). decided b l c) (drop_at ts i no_token h)
      ∙ ap (λ (s : Bool). decided (cond s (not (get_or ts i no_token).out) b) (drop (i + 1) ts) c) e

-- behind the last one
pub decided_past : (ts : List VimToken) (i c : ℕ) (b : Bool) → length ts ≤ i → decided b (drop i ts) c ≡ b
unfolding decided
decided_past ts i c b h = rw (drop_of_length-le ts {i = i} h)

pub decided_end : (ts : List VimToken) (n i c : ℕ) (b : Bool) → n ≤ i → n ≤ length ts → decided b (drop i (take n ts)) c ≡ b
unfolding decided
decided_end ts n i c b h m = rw (drop_of_length-le (take n ts) {i = i} (omega (arith, length-take-le n ts m)))
