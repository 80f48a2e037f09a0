-- Laws of an input: when it is refused. Assumes nothing.
use Rattle.lists.proofs.Kit.{◌≡◌, refl, ◌∙◌, List, Bool, true, false, cond, not, ◌||◌, ℕ, ◌≤◌, ◌<◌, arith, length, ltb, lt-ltb, le-ltb, ltb-false, Some, None}
use Rattle.text.specs.Text.{rows}
use Rattle.utf8.specs.Decoding.{decoding}
use Rattle.session_input.specs.Parts.{has_stop, text_at, is_bad, is_refused, begin_of, stop_of}

-- when an input is refused
module _ (input : List ℕ) where
  pub begin_long : 16384 < length input → None ≡ begin_of input
  unfolding begin_of is_refused
  begin_long h = rw (lt-ltb 16384 (length input) h)

  pub begin_bad : length input ≤ 16384 → is_bad (decoding input) ≡ true → None ≡ begin_of input
  unfolding begin_of is_refused
  begin_bad h a = rw (le-ltb 16384 (length input) h, a)

  pub begin_stop : length input ≤ 16384 → is_bad (decoding input) ≡ false → stop_of input ≡ begin_of input
  unfolding begin_of is_refused stop_of
  begin_stop h a = rw (le-ltb 16384 (length input) h, a) (go (has_stop (rows input)))
    where
      go : (b : Bool) → cond b (Some (text_at (rows input))) None ≡ cond (not b) None (Some (text_at (rows input)))
      go true = refl
      go false = refl

  pub taken_short : is_refused input ≡ false → length input ≤ 16384
  unfolding is_refused
  taken_short = go (ltb 16384 (length input)) refl
    where
      go : (b : Bool) → ltb 16384 (length input) ≡ b → (b || (is_bad (decoding input) || not (has_stop (rows input)))) ≡ false → length input ≤ 16384
      go true p q = let never : ◌≡◌ {A = ℕ} 0 1 = cc in absurd (omega arith)
      go false p q = ltb-false 16384 (length input) p

  begin_cases : (b : Bool) → is_refused input ≡ b → begin_of input ≡ cond b None (Some (text_at (rows input)))
  unfolding begin_of
  begin_cases b e = rw e

  pub begin_refused : None ≡ begin_of input → is_refused input ≡ true
  begin_refused e = go (is_refused input) refl
    where
      go : (b : Bool) → is_refused input ≡ b → b ≡ true
      go true r = refl
      go false r =
          let bad : None ≡ Some (text_at (rows input)) = e ∙ begin_cases false r in
          let never : ◌≡◌ {A = ℕ} 0 1 = cc in
          absurd (omega arith)

  pub begin_taken : {i : ℕ} → Some i ≡ begin_of input → (is_refused input ≡ false) × (text_at (rows input) ≡ i)
  begin_taken {i} e = go (is_refused input) refl
    where
      go : (b : Bool) → is_refused input ≡ b → (b ≡ false) × (text_at (rows input) ≡ i)
      go true r =
          let bad : Some i ≡ None = e ∙ begin_cases true r in
          let never : ◌≡◌ {A = ℕ} 0 1 = cc in
          absurd (omega arith)
      go false r = let text_is : text_at (rows input) ≡ i = cc (begin_cases false r) in (refl, text_is)
