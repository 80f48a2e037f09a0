-- Laws of the table: a token pushed on it, a test of its tokens, and the reading of a list into it. Assumes nothing.
use Rattle.lists.proofs.Kit.{◌≡◌, ap, sym, ◌∙◌, List, [], ◌∷◌, ◌++◌, append-nil, append_assoc, ℕ, ◌+◌, ◌-◌, ◌≤◌, ◌<◌, arith, length, length-append, replicate}
use Rattle.lists.proofs.Kit.{Bool, false, ◌||◌, get_or, drop, drop_of_length-le, take-append_seam}
use Rattle.lists.specs.Lists.{any}
use Rattle.lists.proofs.Lists.{drop_at_of as drop_at}
use Rattle.list_tokens.specs.declared.Token.{Token}
use Rattle.list_tokens.specs.declared.tokens.Step.{Step}
use Rattle.keywords.specs.declared.KeywordSpec.{KeywordSpec}
use Rattle.list_tokens.specs.Grammar.{no_token}
use Rattle.list_tokens.specs.Tokens.{tokens, tokens_in, step_of}
use Rattle.keywords.specs.Table.{table, kept, pushed}
use Rattle.list_tokens.proofs.Lists.{fill_push}
use Rattle.lists.proofs.Splits.{split_from, split_from_start, split_from_end}
use Rattle.list_tokens.proofs.TokenLaws.{step_next, step_skip, step_keep}

pub table_push : (ts : List Token) (t : Token) → length ts < 128 → pushed (table ts) t ≡ table (ts ++ (t ∷ []))
table_push ts t h = λ i. record { tokens = fill_push 128 no_token ts t h i; len = sym (length-append ts (t ∷ [])) i }

pub table_kept : (ts : List Token) → kept (table ts) ≡ ts
table_kept ts = take-append_seam ts (replicate (128 - length ts) no_token)

-- a test of some token, at a place of a table's tokens and behind the last one
module _ (f : Token → Bool) (ts : List Token) (i : ℕ) where
  pub any_here : i < length ts → any f (drop i ts) ≡ (f (get_or ts i no_token) || any f (drop (i + 1) ts))
  unfolding any
  any_here h = rw (drop_at ts i no_token h)

  pub any_past : length ts ≤ i → any f (drop i ts) ≡ false
  unfolding any
  any_past h = rw (drop_of_length-le ts h)

-- reading so far: the table holds ts, and the parts from an index on have the rest of the list's tokens
pub record Reading (l : List ℕ) (spec : KeywordSpec) (i : ℕ) : Type 0 where
  pub inside : i ≤ length l + 1
  pub ts : List Token
  pub is : spec ≡ table ts
  pub few : length ts ≤ 128
  pub rest : tokens l ≡ ts ++ tokens_in (split_from 44 l i)

pub reading_start : (l : List ℕ) (spec : KeywordSpec) → spec ≡ table [] → Reading l spec 0
reading_start l spec e = record { inside = omega arith; ts = []; is = e; few = omega arith; rest = ap tokens_in (sym (split_from_start 44 l)) }

module _ {l : List ℕ} {spec : KeywordSpec} {i : ℕ} (g : Reading l spec i) where
  pub reading_length : spec.len ≡ length g.ts
  reading_length = ap (λ (x : KeywordSpec). x.len) g.is

  pub reading_end : length l < i → (spec ≡ table (tokens l)) × (length (tokens l) ≤ 128)
  unfolding tokens_in
  reading_end h =
      let tokens_is : tokens l ≡ g.ts = g.rest ∙ ap (λ (ps : List (List ℕ)). g.ts ++ tokens_in ps) (split_from_end 44 l i h) ∙ append-nil g.ts in
      (g.is ∙ ap table (sym tokens_is), omega (arith, ap length tokens_is, g.few))

  module _ (h : i ≤ length l) (s : Step) (w : s ≡ step_of l i) where
    pub reading_skip : s.token.kind ≡ 0 → Reading l spec s.next
    reading_skip z =
        record {
          inside = (step_next l i h s w).1;
          ts = g.ts;
          is = g.is;
          few = g.few;
          rest = g.rest ∙ ap (λ (r : List Token). g.ts ++ r) (step_skip l i h s w z);
        }

    kept_rest : (s.token.kind ≡ 0 → ⊥) → tokens l ≡ g.ts ++ (s.token ∷ tokens_in (split_from 44 l s.next))
    kept_rest z = g.rest ∙ ap (λ (r : List Token). g.ts ++ r) (step_keep l i h s w z)

    pub reading_keep : (s.token.kind ≡ 0 → ⊥) → (spec.len ≡ 128 → ⊥) → (r : KeywordSpec) → r ≡ pushed spec s.token → Reading l r s.next
    reading_keep z n r p =
        let size_below : length g.ts < 128 = omega (arith, g.few, reading_length) in
        record {
          inside = (step_next l i h s w).1;
          ts = g.ts ++ (s.token ∷ []);
          is = p ∙ ap (λ (x : KeywordSpec). pushed x s.token) g.is ∙ table_push g.ts s.token size_below;
          few = omega (arith, length-append g.ts (s.token ∷ []));
          rest = kept_rest z ∙ sym (append_assoc g.ts (s.token ∷ []) (tokens_in (split_from 44 l s.next)));
        }

    pub reading_full : (s.token.kind ≡ 0 → ⊥) → spec.len ≡ 128 → 128 < length (tokens l)
    reading_full z n = omega (arith, reading_length, ap length (kept_rest z), length-append g.ts (s.token ∷ tokens_in (split_from 44 l s.next)))
