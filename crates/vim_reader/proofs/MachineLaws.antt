-- Laws of the machine, step by step: where a code point leads by the tests that the code makes. Long by the machine's states: a law for each. Assumes
-- nothing.
use Rattle.lists.proofs.Kit.{◌≡◌, refl, sym, Bool, true, false, ◌&&◌, and-false, true≢false, ℕ, ◌+◌, ◌*◌, ◌-◌, ◌≤◌, ◌<◌, arith, leb, eq-eqb, ne_eqb, le-leb}
use Rattle.lists.proofs.Kit.{lt-leb, leb-true}
use Rattle.lists.specs.Codes.{is_digit}
use Rattle.vim_reader.specs.declared.State.TheVariants.{Part, Caret, Number, Sign, Dash, Second, Done, Dead}
use Rattle.vim_reader.specs.Machine.{most_of, first_of, start_of, behind, number_step, second_of, dash_step, second_step, done_step}

-- a digit is from 48 to 57
pub digit_low : (x : ℕ) → is_digit x ≡ true → 48 ≤ x
digit_low x e = go (leb 48 x) refl e
  where
    go : (b : Bool) → leb 48 x ≡ b → (b && leb x 57) ≡ true → 48 ≤ x
    go true w f = leb-true 48 x w
    go false w f = absurd (true≢false (sym f))

pub digit_high : (x : ℕ) → is_digit x ≡ true → x ≤ 57
digit_high x e = go (leb x 57) refl e
  where
    go : (b : Bool) → leb x 57 ≡ b → (leb 48 x && b) ≡ true → x ≤ 57
    go true w f = leb-true x 57 w
    go false w f =
        let never : ◌≡◌ {A = Bool} false true = rw and-false at f in
        absurd (true≢false (sym never))

-- the greatest number
module _ (v : ℕ) where
  pub most_one : v ≡ 1 → most_of v ≡ 199
  unfolding most_of
  most_one e = rw (eq-eqb v 1 e)

  pub most_two : (v ≡ 1 → ⊥) → v ≤ 2 → most_of v ≡ 255
  unfolding most_of
  most_two n h = rw (ne_eqb v 1 n, le-leb v 2 h)

  pub most_mid : 2 < v → v ≤ 24 → most_of v ≡ v * 10 + 9
  unfolding most_of
  most_mid h k = rw (ne_eqb v 1 (λ w. omega arith), lt-leb v 2 h, le-leb v 24 k)

  pub most_last : v ≡ 25 → most_of v ≡ 255
  unfolding most_of
  most_last e = rw (ne_eqb v 1 (λ w. omega arith), lt-leb v 2 (omega arith), lt-leb v 24 (omega arith), eq-eqb v 25 e)

  pub most_else : 25 < v → most_of v ≡ v
  unfolding most_of
  most_else h = rw (ne_eqb v 1 (λ w. omega arith), lt-leb v 2 (omega arith), lt-leb v 24 (omega arith), ne_eqb v 25 (λ w. omega arith))

-- the first code point of an item
module _ (out : Bool) (x : ℕ) where
  pub first_digit : is_digit x ≡ true → first_of out x ≡ Number out (x - 48)
  unfolding first_of
  first_digit d = rw d

  pub first_sign_lem : is_digit x ≡ false → x ≤ 127 → first_of out x ≡ Sign out x
  unfolding first_of
  first_sign_lem d h = rw (d, le-leb x 127 h)

  pub first_dead : is_digit x ≡ false → 127 < x → first_of out x ≡ Dead
  unfolding first_of
  first_dead d h = rw (d, lt-leb x 127 h)

pub start_caret : (x : ℕ) → x ≡ 94 → start_of x ≡ Caret
unfolding start_of
start_caret x e = rw (eq-eqb x 94 e)

pub start_first : (x : ℕ) → (x ≡ 94 → ⊥) → start_of x ≡ first_of false x
unfolding start_of
start_first x n = rw (ne_eqb x 94 n)

-- behind a first end
module _ (out char : Bool) (lo x : ℕ) where
  pub behind_comma : x ≡ 44 → behind out char lo x ≡ Part
  unfolding behind
  behind_comma e = rw (eq-eqb x 44 e)

  pub behind_dash : (x ≡ 44 → ⊥) → x ≡ 45 → behind out char lo x ≡ Dash out char lo
  unfolding behind
  behind_dash n e = rw (ne_eqb x 44 n, eq-eqb x 45 e)

  pub behind_dead : (x ≡ 44 → ⊥) → (x ≡ 45 → ⊥) → behind out char lo x ≡ Dead
  unfolding behind
  behind_dead n m = rw (ne_eqb x 44 n, ne_eqb x 45 m)

-- in a first number
module _ (out : Bool) (v x : ℕ) where
  pub number_behind : is_digit x ≡ false → number_step out v x ≡ behind out false v x
  unfolding number_step
  number_behind d = rw d

  pub number_on : is_digit x ≡ true → v * 10 + (x - 48) ≤ 255 → number_step out v x ≡ Number out (v * 10 + (x - 48))
  unfolding number_step
  number_on d h = rw (d, le-leb (v * 10 + (x - 48)) 255 h)

  pub number_dead : is_digit x ≡ true → 255 < v * 10 + (x - 48) → number_step out v x ≡ Dead
  unfolding number_step
  number_dead d h = rw (d, lt-leb (v * 10 + (x - 48)) 255 h)

-- a second number
module _ (out char : Bool) (lo v : ℕ) where
  pub second_over : 255 < v → second_of out char lo v ≡ Dead
  unfolding second_of
  second_over h = rw (lt-leb v 255 h)

  pub second_below : v ≤ 255 → most_of v < lo → second_of out char lo v ≡ Dead
  unfolding second_of
  second_below h k = rw (le-leb v 255 h, lt-leb lo (most_of v) k)

  pub second_taken : v ≤ 255 → lo ≤ most_of v → second_of out char lo v ≡ Second out char lo v
  unfolding second_of
  second_taken h k = rw (le-leb v 255 h, le-leb lo (most_of v) k)

-- behind the minus
module _ (out char : Bool) (lo x : ℕ) where
  pub dash_digit : is_digit x ≡ true → dash_step out char lo x ≡ second_of out char lo (x - 48)
  unfolding dash_step
  dash_digit d = rw d

  pub dash_below : is_digit x ≡ false → x < lo → dash_step out char lo x ≡ Dead
  unfolding dash_step
  dash_below d h = rw (d, lt-leb lo x h)

  pub dash_above : is_digit x ≡ false → lo ≤ x → 127 < x → dash_step out char lo x ≡ Dead
  unfolding dash_step
  dash_above d h k = rw (d, le-leb lo x h, lt-leb x 127 k)

  pub dash_done : is_digit x ≡ false → lo ≤ x → x ≤ 127 → dash_step out char lo x ≡ Done out char lo x
  unfolding dash_step
  dash_done d h k = rw (d, le-leb lo x h, le-leb x 127 k)

-- in a second number
module _ (out char : Bool) (lo v x : ℕ) where
  pub in_second_digit : is_digit x ≡ true → second_step out char lo v x ≡ second_of out char lo (v * 10 + (x - 48))
  unfolding second_step
  in_second_digit d = rw d

  pub in_second_other : is_digit x ≡ false → (x ≡ 44 → ⊥) → second_step out char lo v x ≡ Dead
  unfolding second_step
  in_second_other d n = rw (d, ne_eqb x 44 n)

  pub in_second_below : is_digit x ≡ false → x ≡ 44 → v < lo → second_step out char lo v x ≡ Dead
  unfolding second_step
  in_second_below d e h = rw (d, eq-eqb x 44 e, lt-leb lo v h)

  pub in_second_comma : is_digit x ≡ false → x ≡ 44 → lo ≤ v → second_step out char lo v x ≡ Part
  unfolding second_step
  in_second_comma d e h = rw (d, eq-eqb x 44 e, le-leb lo v h)

pub done_comma : (x : ℕ) → x ≡ 44 → done_step x ≡ Part
unfolding done_step
done_comma x e = rw (eq-eqb x 44 e)

pub done_dead : (x : ℕ) → (x ≡ 44 → ⊥) → done_step x ≡ Dead
unfolding done_step
done_dead x n = rw (ne_eqb x 44 n)
