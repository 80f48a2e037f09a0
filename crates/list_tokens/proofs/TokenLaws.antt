-- Laws of tokens: what a part is, and the tokens of one part more. Assumes nothing.
use Rattle.lists.proofs.Kit.{◌≡◌, refl, ap, ◌∙◌, List, [], ◌∷◌, Bool, false, ◌||◌, ℕ, ◌+◌, ◌-◌, ◌≤◌, ◌<◌, ℕ_discrete, arith, length, get_or, take, drop, Option}
use Rattle.lists.proofs.Kit.{length-drop, drop_of_length-le, take_all, length-take-le, eqb, eq-eqb, ne_eqb, le-ltb, lt-ltb}
use Rattle.list_tokens.specs.declared.Token.{Token}
use Rattle.list_tokens.specs.declared.tokens.Step.{Step}
use Rattle.list_parts.specs.Numbers.{number_of}
use Rattle.lists.specs.Lists.{up_to, any}
use Rattle.list_parts.specs.Parts.{trim}
use Rattle.list_tokens.specs.Grammar.{no_token, codes, is_at, single, between, range_of, token_of}
use Rattle.list_tokens.specs.Tokens.{tokens_in, token_holds, any_token, step_of}
use Rattle.list_tokens.proofs.Lists.{drop_at_take}
use Rattle.lists.proofs.Splits.{split_from, split_from_step, split_from_end, next_most}

pub single_not : (p : List ℕ) → (length p ≡ 1 → ⊥) → no_token ≡ single p
single_not [] h = refl
single_not (x ∷ []) h = absurd (h refl)
single_not (x ∷ y ∷ p) h = refl

pub single_one : (p : List ℕ) → length p ≡ 1 → codes (get_or p 0 0) (get_or p 0 0) ≡ single p
single_one [] h = absurd (omega arith)
single_one (x ∷ []) h = refl
single_one (x ∷ y ∷ p) h = absurd (omega arith)

pub at_not : (p : List ℕ) → (length p ≡ 1 → ⊥) → false ≡ is_at p
at_not [] h = refl
at_not (x ∷ []) h = absurd (h refl)
at_not (x ∷ y ∷ p) h = refl

pub at_one : (p : List ℕ) → length p ≡ 1 → eqb (get_or p 0 0) 64 ≡ is_at p
at_one [] h = absurd (omega arith)
at_one (x ∷ []) h = refl
at_one (x ∷ y ∷ p) h = absurd (omega arith)

-- d is the place of the first `-`, or the part's length
module _ (p : List ℕ) (d : ℕ) (k : d ≡ 0 + up_to 45 (drop 0 p)) where
  pub range_none : length p ≤ d → no_token ≡ range_of p
  range_none h = let up_to_is : up_to 45 p ≡ d = omega arith in rw (up_to_is, le-ltb _ _ h)

  pub range_is : d < length p → (a b : Option ℕ) → a ≡ number_of (take d p) → b ≡ number_of (take (length p - (d + 1)) (drop (d + 1) p)) → between a b ≡ range_of p
  range_is h a b f g =
      let up_to_is : up_to 45 p ≡ d = omega arith in
      let size_at_most : length (drop (d + 1) p) ≤ length p - (d + 1) = omega (arith, length-drop (d + 1) p) in
      let front_is : take (length p - (d + 1)) (drop (d + 1) p) ≡ drop (d + 1) p = take_all (length p - (d + 1)) (drop (d + 1) p) size_at_most in
      rw (up_to_is, lt-ltb _ _ h, f, g, front_is)

module _ (p : List ℕ) (ps : List (List ℕ)) where
  pub tokens_skip : (token_of (trim p)).kind ≡ 0 → tokens_in (p ∷ ps) ≡ tokens_in ps
  unfolding tokens_in
  tokens_skip e = rw (eq-eqb _ _ e)

  pub tokens_keep : ((token_of (trim p)).kind ≡ 0 → ⊥) → tokens_in (p ∷ ps) ≡ token_of (trim p) ∷ tokens_in ps
  unfolding tokens_in
  tokens_keep e = rw (ne_eqb _ _ e)

  -- what is no token holds nothing
  pub any_token_part : (c : ℕ) → any_token (tokens_in (p ∷ ps)) c ≡ (token_holds (token_of (trim p)) c || any_token (tokens_in ps) c)
  unfolding any
  any_token_part c = go (ℕ_discrete (token_of (trim p)).kind 0)
    where
      none : (t : Token) → t.kind ≡ 0 → token_holds t c ≡ false
      none t e = rw e

      go : Dec ((token_of (trim p)).kind ≡ 0) → any_token (tokens_in (p ∷ ps)) c ≡ (token_holds (token_of (trim p)) c || any_token (tokens_in ps) c)
      go (yes e) = rw (tokens_skip e, none (token_of (trim p)) e)
      go (no n) = rw (tokens_keep n)

-- the part that begins at i: s is its token and where the next begins
pub step_is : (l : List ℕ) (i e : ℕ) (t : Token) → e ≡ i + up_to 44 (drop i l) → t ≡ token_of (trim (take (e - i) (drop i l))) →
    record { token = t; next = e + 1 } ≡ step_of l i
step_is l i e t h w =
    let difference_is : e - i ≡ up_to 44 (drop i l) = omega arith in
    λ k. record { token = (w ∙ ap (λ (m : ℕ). token_of (trim (take m (drop i l)))) difference_is) k; next = h k + 1 }

module _ (l : List ℕ) (i : ℕ) (h : i ≤ length l) (s : Step) (w : s ≡ step_of l i) where
  pub step_next : (i < s.next) × (s.next ≤ length l + 1)
  step_next = let same_next = ap (λ (x : Step). x.next) w in (omega arith, omega (arith, next_most 44 l i h))

  pub step_skip : s.token.kind ≡ 0 → tokens_in (split_from 44 l i) ≡ tokens_in (split_from 44 l s.next)
  step_skip z = rw (w, split_from_step 44 l i h) (tokens_skip _ _ (rw w at z))

  pub step_keep : (s.token.kind ≡ 0 → ⊥) → tokens_in (split_from 44 l i) ≡ s.token ∷ tokens_in (split_from 44 l s.next)
  step_keep z = rw (w, split_from_step 44 l i h) (tokens_keep _ _ (rw w at z))

  pub step_any : (c : ℕ) → any_token (tokens_in (split_from 44 l i)) c ≡ (token_holds s.token c || any_token (tokens_in (split_from 44 l s.next)) c)
  step_any c = rw (w, split_from_step 44 l i h) (any_token_part _ _ c)

-- past the end there are no parts, and nothing is held
pub parts_none : (l : List ℕ) (i c : ℕ) → length l < i → any_token (tokens_in (split_from 44 l i)) c ≡ false
unfolding any tokens_in
parts_none l i c h = rw (split_from_end 44 l i h)

-- the tokens of a table's first n places, one after the other
module _ (f : Token → Bool) (ts : List Token) (n i : ℕ) where
  pub any_on : i < n → n ≤ length ts → any f (drop i (take n ts)) ≡ (f (get_or ts i no_token) || any f (drop (i + 1) (take n ts)))
  unfolding any
  any_on h l = rw (drop_at_take ts n i no_token h l)

  pub any_end : n ≤ i → n ≤ length ts → any f (drop i (take n ts)) ≡ false
  unfolding any
  any_end h l = rw (drop_of_length-le (take n ts) {i = i} (omega (arith, length-take-le n ts l)))
