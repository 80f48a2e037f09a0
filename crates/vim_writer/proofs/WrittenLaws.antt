-- Laws of a list as it is written: token after token, the first i tokens of a table and one more, and how long they are. Assumes nothing.
use Rattle.lists.proofs.Kit.{◌≡◌, refl, ap, sym, subst, ◌∙◌, List, [], ◌∷◌, ◌++◌, append-nil, append_assoc, ℕ, ◌+◌, ◌*◌, ◌-◌, ◌≤◌, ◌<◌, add-one, arith, length}
use Rattle.lists.proofs.Kit.{get_or, take, drop, length-append, take-suc, take-add, length-take-le}
use Rattle.vim_grammar.specs.declared.VimToken.{VimToken}
use Rattle.vim_grammar.specs.Tokens.{no_token}
use Rattle.vim_writer.specs.Written.{token_text, behind, written}
use Rattle.vim_writer.proofs.TokenLaws.{token_most}

-- tokens with a comma before each
behind_append : (ts us : List VimToken) → behind (ts ++ us) ≡ behind ts ++ behind us
unfolding behind
behind_append [] us = refl
behind_append (t ∷ ts) us =
    ap (λ (l : List ℕ). 44 ∷ l) (ap (λ (l : List ℕ). token_text t ++ l) (behind_append ts us) ∙ sym (append_assoc (token_text t) (behind ts) (behind us)))

behind_one : (t : VimToken) → behind (t ∷ []) ≡ 44 ∷ token_text t
unfolding behind
behind_one t = ap (λ (l : List ℕ). 44 ∷ l) (append-nil (token_text t))

pub written_one : (t : VimToken) → written (t ∷ []) ≡ token_text t
unfolding written behind
written_one t = append-nil (token_text t)

pub written_append : (ts us : List VimToken) → 0 < length ts → written (ts ++ us) ≡ written ts ++ behind us
unfolding written
written_append [] us h = absurd (omega arith)
written_append (t ∷ ts) us h = ap (λ (l : List ℕ). token_text t ++ l) (behind_append ts us) ∙ sym (append_assoc (token_text t) (behind ts) (behind us))

written_longer : (ts us : List VimToken) → length (written ts) ≤ length (written (ts ++ us))
unfolding written
written_longer [] us = omega arith
written_longer (t ∷ ts) us = omega (arith, ap length (written_append (t ∷ ts) us (omega arith)), length-append (written (t ∷ ts)) (behind us))

behind_most : (ts : List VimToken) → length (behind ts) ≤ 23 * length ts
unfolding behind
behind_most [] = omega arith
behind_most (t ∷ ts) = omega (arith, length-append (token_text t) (behind ts), token_most t, behind_most ts)

pub written_most : (ts : List VimToken) → length (written ts) ≤ 23 * length ts
unfolding written
written_most [] = omega arith
written_most (t ∷ ts) = omega (arith, length-append (token_text t) (behind ts), token_most t, behind_most ts)

-- the first i tokens of a table, and one more
module _ (ts : List VimToken) (i : ℕ) (h : i < length ts) where
  more : take (i + 1) ts ≡ take i ts ++ (get_or ts i no_token ∷ [])
  more = rw (add-one i) (take-suc ts i no_token h)

  pub written_first : i ≡ 0 → written (take (i + 1) ts) ≡ token_text (get_or ts i no_token)
  written_first z =
      let none : take i ts ≡ [] = rw z in
      ap written (more ∙ ap (λ (l : List VimToken). l ++ (get_or ts i no_token ∷ [])) none) ∙ written_one (get_or ts i no_token)

  pub written_next : (i ≡ 0 → ⊥) → written (take (i + 1) ts) ≡ written (take i ts) ++ (44 ∷ token_text (get_or ts i no_token))
  written_next n = ap written more ∙ written_append (take i ts) (get_or ts i no_token ∷ []) (omega (arith, length-take-le i ts (omega arith)))
      ∙ ap (λ (l : List ℕ). written (take i ts) ++ l) (behind_one (get_or ts i no_token))

  pub next_length : (i ≡ 0 → ⊥) → length (written (take (i + 1) ts)) ≡ length (written (take i ts)) + 1 + length (token_text (get_or ts i no_token))
  next_length n = ap length (written_next n) ∙ length-append (written (take i ts)) (44 ∷ token_text (get_or ts i no_token)) ∙ omega arith

pub written_none : (ts : List VimToken) (i : ℕ) → i ≡ 0 → length (written (take i ts)) ≡ 0
unfolding written
written_none ts i z = rw z

pub take_longer : (ts : List VimToken) (i n : ℕ) → i ≤ n → length (written (take i ts)) ≤ length (written (take n ts))
take_longer ts i n h =
    let n_is : n ≡ i + (n - i) = omega arith in
    let cut : take n ts ≡ take i ts ++ take (n - i) (drop i ts) = ap (λ (k : ℕ). take k ts) n_is ∙ take-add i (n - i) ts in
    subst (λ (l : List VimToken). length (written (take i ts)) ≤ length (written l)) (sym cut) (written_longer (take i ts) (take (n - i) (drop i ts)))

pub take_most : (ts : List VimToken) (i : ℕ) → i ≤ length ts → length (written (take i ts)) ≤ 23 * i
take_most ts i h = omega (arith, written_most (take i ts), length-take-le i ts h)
