-- The flags of a table, token by token, and of a token, code by code. Assumes nothing.
use Rattle.lists.proofs.Kit.{◌≡◌, refl, ap, sym, ◌∙◌, List, Bool, true, false, cond, not, ℕ, ◌+◌, ◌≤◌, ◌<◌, dec_lt, ℕ_discrete, arith, length, get_or, take, drop}
use Rattle.lists.proofs.Kit.{set, replicate, get_or-replicate, drop_of_length-le, length-take-le, get_or-set_same, get_or-set_other, eqb, ltb, lt-ltb, le-ltb}
use Rattle.list_tokens.proofs.Lists.{drop_at_take}
use Rattle.vim_grammar.specs.declared.VimToken.{VimToken}
use Rattle.vim_grammar.specs.Tokens.{no_token, speaks, decided, in_vim}
use Rattle.vim_reader.proofs.TableLaws.{decided_end}
use Rattle.vim_words.specs.Flags.{flag_of, Told, Flags, last_letters}

-- one token has been told of the codes below i
abbrev pub Telling : VimToken → ℕ → List ℕ → List ℕ → Type 0
Telling t i old new = (c : ℕ) → c < 256 → get_or new c 0 ≡ cond (ltb c i) (cond (speaks t c) (flag_of t.out) (get_or old c 0)) (get_or old c 0)

still : (c i : ℕ) → (c ≡ i → ⊥) → ltb c i ≡ ltb c (i + 1)
still c i n = go (dec_lt c i)
  where
    go : Dec (c < i) → ltb c i ≡ ltb c (i + 1)
    go (yes h) = rw (lt-ltb c i h, lt-ltb c (i + 1) (omega arith))
    go (no h) = rw (le-ltb c i (omega arith), le-ltb c (i + 1) (omega arith))

module _ (t : VimToken) (old : List ℕ) where
  pub telling_start : Telling t 0 old old
  telling_start c h = rw (le-ltb c 0 (omega arith))

  pub telling_end : (i : ℕ) (new : List ℕ) → 256 ≤ i → length new ≡ 256 → Telling t i old new → Told t old new
  telling_end i new h size so_far = record { size = size; each = λ c l. so_far c l ∙ rw (lt-ltb c i (omega arith)) }

  module _ (i : ℕ) (new : List ℕ) (so_far : Telling t i old new) where
    pub telling_said : i < length new → (f : ℕ) → f ≡ flag_of t.out → speaks t i ≡ true → Telling t (i + 1) old (set new i f)
    telling_said room f e hit c l = go (ℕ_discrete c i)
      where
        go : Dec (c ≡ i) → get_or (set new i f) c 0 ≡ cond (ltb c (i + 1)) (cond (speaks t c) (flag_of t.out) (get_or old c 0)) (get_or old c 0)
        go (yes z) = rw (z, lt-ltb i (i + 1) (omega arith), hit) (get_or-set_same new i f 0 room ∙ e)
        go (no n) = get_or-set_other new i c f 0 n ∙ so_far c l ∙ rw (still c i n)

    pub telling_kept : speaks t i ≡ false → Telling t (i + 1) old new
    telling_kept miss c l = go (ℕ_discrete c i)
      where
        go : Dec (c ≡ i) → get_or new c 0 ≡ cond (ltb c (i + 1)) (cond (speaks t c) (flag_of t.out) (get_or old c 0)) (get_or old c 0)
        go (yes z) = so_far c l ∙ rw (z, le-ltb i i (omega arith), lt-ltb i (i + 1) (omega arith), miss)
        go (no n) = so_far c l ∙ rw (still c i n)

-- the tokens before i have been told
abbrev pub Spoken : List VimToken → ℕ → List ℕ → Type 0
Spoken ts i flags = (c : ℕ) → c < 256 → in_vim ts c ≡ decided (not (eqb (get_or flags c 0) 0)) (drop i ts) c

pub spoken_start : (ts : List VimToken) → Spoken ts 0 (replicate 256 0)
spoken_start ts c h = rw (get_or-replicate {A = ℕ} 256 c 0 0 h)

-- what one more says of a flag
one_more : (s out : Bool) (f : ℕ) → not (eqb (cond s (flag_of out) f) 0) ≡ cond s (not out) (not (eqb f 0))
one_more true true f = refl
one_more true false f = refl
one_more false out f = refl

module _ (ts : List VimToken) (n i : ℕ) (m : n ≤ length ts) where
  pub spoken_next : i < n → (old new : List ℕ) → Spoken (take n ts) i old → Told (get_or ts i no_token) old new → Spoken (take n ts) (i + 1) new
  unfolding decided
  spoken_next h old new so_far told c l =
      let value = get_or ts i no_token in
      so_far c l ∙ ap (λ (us : List VimToken). decided (not (eqb (get_or old c 0) 0)) us c) (drop_at_take ts n i no_token h m)
      ∙ ap (λ (b : Bool). decided b (drop (i + 1) (take n ts)) c) (sym (one_more (speaks value c) value.out (get_or old c 0)))
      ∙ ap (λ (f : ℕ). decided (not (eqb f 0)) (drop (i + 1) (take n ts)) c) (sym (told.each c l))

  pub spoken_end : n ≤ i → (flags : List ℕ) → Spoken (take n ts) i flags → Flags (take n ts) flags
  spoken_end h flags so_far c l = sym (so_far c l ∙ decided_end ts n i c (not (eqb (get_or flags c 0) 0)) h m)

  -- and of the letters
  pub letters_said : i < n → (b : Bool) → eqb (get_or ts i no_token).kind 1 ≡ true →
      last_letters b (drop i (take n ts)) ≡ last_letters (not (get_or ts i no_token).out) (drop (i + 1) (take n ts))
  unfolding last_letters
  letters_said h b e = ap (last_letters b) (drop_at_take ts n i no_token h m)
      ∙ ap (λ (s : Bool). last_letters (cond s (not (get_or ts i no_token).out) b) (drop (i + 1) (take n ts))) e

  pub letters_on : i < n → (b : Bool) → eqb (get_or ts i no_token).kind 1 ≡ false → last_letters b (drop i (take n ts)) ≡ last_letters b (drop (i + 1) (take n ts))
  unfolding last_letters
  letters_on h b e = ap (last_letters b) (drop_at_take ts n i no_token h m)
      ∙ ap (λ (s : Bool). last_letters (cond s (not (get_or ts i no_token).out) b) (drop (i + 1) (take n ts))) e

  pub letters_end : n ≤ i → (b : Bool) → last_letters b (drop i (take n ts)) ≡ b
  unfolding last_letters
  letters_end h b = rw (drop_of_length-le (take n ts) {i = i} (omega (arith, length-take-le n ts m)))

-- where the loops stand: that over the codes, that over the tokens, and that over the tokens for the letters
pub record TellingTo (t : VimToken) (i : ℕ) (old new : List ℕ) : Type 0 where
  pub up_to : i ≤ 256
  pub size : length new ≡ 256
  pub so_far : Telling t i old new

pub record SpokenTo (ts : List VimToken) (n i : ℕ) (flags : List ℕ) : Type 0 where
  pub up_to : i ≤ n
  pub size : length flags ≡ 256
  pub so_far : Spoken ts i flags

pub record LettersTo (ts : List VimToken) (n : ℕ) (is : Bool) (i : ℕ) : Type 0 where
  pub up_to : i ≤ n
  pub so_far : last_letters false ts ≡ last_letters is (drop i ts)
