-- Laws of a token as it is written: its ends, its item by its kind, and how long it is at most. Assumes nothing.
use Rattle.lists.proofs.Kit.{◌≡◌, refl, ap, ◌∙◌, [], ◌∷◌, ◌++◌, Bool, true, false, ℕ, ◌+◌, ◌≤◌, ℕ_discrete, arith, length, length-append, eq-eqb, ne_eqb}
use Rattle.print.specs.Print.{decimal}
use Rattle.print.proofs.Laws.{length_decimal}
use Rattle.vim_grammar.specs.declared.VimToken.{VimToken}
use Rattle.vim_writer.specs.Written.{end_text, item_text, token_text}

-- an end
pub end_char : (char : Bool) (c : ℕ) → char ≡ true → end_text char c ≡ c ∷ []
unfolding end_text
end_char char c e = rw e

pub end_number : (char : Bool) (c : ℕ) → char ≡ false → end_text char c ≡ decimal c
unfolding end_text
end_number char c e = rw e

pub end_most : (char : Bool) (c : ℕ) → length (end_text char c) ≤ 10
unfolding end_text
end_most true c = omega arith
end_most false c = length_decimal c

-- a token by its kind
module _ (t : VimToken) where
  pub item_none : t.kind ≡ 0 → item_text t ≡ []
  unfolding item_text
  item_none e = rw (eq-eqb t.kind 0 e)

  pub item_letters : t.kind ≡ 1 → item_text t ≡ 64 ∷ []
  unfolding item_text
  item_letters e = rw e

  pub item_one : t.kind ≡ 2 → item_text t ≡ end_text t.lochar t.lo
  unfolding item_text
  item_one e = rw e

  pub item_range : (t.kind ≡ 0 → ⊥) → (t.kind ≡ 1 → ⊥) → (t.kind ≡ 2 → ⊥) → item_text t ≡ end_text t.lochar t.lo ++ (45 ∷ end_text t.hichar t.hi)
  unfolding item_text
  item_range a b c = rw (ne_eqb t.kind 0 a, ne_eqb t.kind 1 b, ne_eqb t.kind 2 c)

  pub range_length : (t.kind ≡ 0 → ⊥) → (t.kind ≡ 1 → ⊥) → (t.kind ≡ 2 → ⊥) →
      length (item_text t) ≡ length (end_text t.lochar t.lo) + 1 + length (end_text t.hichar t.hi)
  range_length a b c = ap length (item_range a b c) ∙ length-append (end_text t.lochar t.lo) (45 ∷ end_text t.hichar t.hi) ∙ omega arith

  pub item_most : length (item_text t) ≤ 21
  item_most = go (ℕ_discrete t.kind 0) (ℕ_discrete t.kind 1) (ℕ_discrete t.kind 2)
    where
      go : Dec (t.kind ≡ 0) → Dec (t.kind ≡ 1) → Dec (t.kind ≡ 2) → length (item_text t) ≤ 21
      go (yes e) y z = omega (arith, ap length (item_none e))
      go (no a) (yes e) z = omega (arith, ap length (item_letters e))
      go (no a) (no b) (yes e) = omega (arith, ap length (item_one e), end_most t.lochar t.lo)
      go (no a) (no b) (no c) = omega (arith, range_length a b c, end_most t.lochar t.lo, end_most t.hichar t.hi)

  pub token_out : t.out ≡ true → token_text t ≡ 94 ∷ item_text t
  unfolding token_text
  token_out e = rw e

  pub token_in : t.out ≡ false → token_text t ≡ item_text t
  unfolding token_text
  token_in e = rw e

  pub token_most : length (token_text t) ≤ 22
  token_most = go t.out refl
    where
      go : (b : Bool) → t.out ≡ b → length (token_text t) ≤ 22
      go true e = omega (arith, ap length (token_out e), item_most)
      go false e = omega (arith, ap length (token_in e), item_most)
