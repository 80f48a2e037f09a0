-- A trimmed part without its signs is the same token, has none left and is trimmed. Assumes nothing.
use Rattle.lists.proofs.Kit.{◌≡◌, refl, ap, sym, ◌∙◌, List, [], ◌∷◌, ◌++◌, Bool, true, false, cond, true≢false, ℕ, suc, ◌<◌, arith, length, get_or, length-append, Option, Some, None}
use Rattle.lists.proofs.Kit.{length-replicate, take-append_seam, drop-append-add, eqb, eqb-true, lt-ltb}
use Rattle.lists.specs.Lists.{up_to}
use Rattle.list_parts.specs.Numbers.{all_digits, number_of}
use Rattle.list_parts.specs.Parts.{trim_start, trim}
use Rattle.list_tokens.specs.Grammar.{codes, is_token, is_at, range_of, token_of}
use Rattle.list_signs.specs.Signs.{none, leading, is_value, kept_signs}
use Rattle.list_signs.specs.Plain.{without}

pub leading_length : (p : List ℕ) → length (leading p) ≡ length p
leading_length [] = refl
leading_length (x ∷ p) = ap suc (length-replicate (length p) false)

pub up_to_found : (x : ℕ) (l : List ℕ) → up_to x l < length l → get_or l (up_to x l) 0 ≡ x
unfolding up_to
up_to_found x [] h = absurd (omega arith)
up_to_found x (y ∷ l) h = go (eqb y x) refl (λ (m : up_to x l < length l). up_to_found x l m)
  where
    go : (b : Bool) → eqb y x ≡ b → (up_to x l < length l → get_or l (up_to x l) 0 ≡ x) → get_or (y ∷ l) (cond (eqb y x) 0 (suc (up_to x l))) 0 ≡ x
    go true e f = rw e (eqb-true y x e)
    go false e f = let one_more_below : suc (up_to x l) < suc (length l) = rw e at h in rw e (f (omega arith))

pub value_of : (n : Option ℕ) → is_value n ≡ true → (v : ℕ) × (n ≡ Some v)
value_of (Some v) e = (v, refl)
value_of None e = absurd (true≢false (sym e))

-- two numbers with a `-` between them
module _ (a b : List ℕ) (lo hi : ℕ) (u : up_to 45 (a ++ (45 ∷ b)) ≡ length a) (x : number_of a ≡ Some lo) (y : number_of b ≡ Some hi) where
  whole : List ℕ
  whole = a ++ (45 ∷ b)

  pub range_codes : range_of (a ++ (45 ∷ b)) ≡ codes lo hi
  range_codes =
      let inside : length a < length (a ++ (45 ∷ b)) = omega (arith, length-append a (45 ∷ b)) in
      rw (u, lt-ltb _ _ inside, take-append_seam a (45 ∷ b), drop-append-add a (45 ∷ b) 1, x, y)

  not_at : is_at (a ++ (45 ∷ b)) ≡ false
  not_at = go a x
    where
      go : (a : List ℕ) → number_of a ≡ Some lo → is_at (a ++ (45 ∷ b)) ≡ false
      go [] e = absurd (true≢false (sym (ap is_value e)))
      go (z ∷ []) e = refl
      go (z ∷ w ∷ c) e = refl

  pub range_token : token_of (a ++ (45 ∷ b)) ≡ codes lo hi
  range_token = rw (not_at, range_codes)

  pub range_signs : kept_signs (a ++ (45 ∷ b)) ≡ leading a ++ (false ∷ leading b)
  range_signs = rw (range_codes, u, take-append_seam a (45 ∷ b), drop-append-add a (45 ∷ b) 1)

-- a number, which is no range
number_not_at : (a : List ℕ) (n : ℕ) → number_of a ≡ Some n → is_at a ≡ false
unfolding all_digits
number_not_at [] n e = refl
number_not_at (x ∷ []) n e = go (eqb x 64) refl
  where
    go : (b : Bool) → eqb x 64 ≡ b → eqb x 64 ≡ false
    go false w = w
    go true w = absurd (true≢false (sym (ap is_value (ap (λ (z : ℕ). number_of (z ∷ [])) (sym (eqb-true x 64 w)) ∙ e))))
number_not_at (x ∷ y ∷ a) n e = refl

pub number_token : (a : List ℕ) (n : ℕ) → number_of a ≡ Some n → is_token (range_of a) ≡ false → token_of a ≡ codes n n
number_token a n e r = rw (number_not_at a n e, r, e)

-- t without its signs
pub record Same (t : List ℕ) : Type 0 where
  pub token : token_of (without t (kept_signs t)) ≡ token_of t
  pub bare : kept_signs (without t (kept_signs t)) ≡ none (without t (kept_signs t))
  pub trimmed : trim (without t (kept_signs t)) ≡ without t (kept_signs t)
  pub starts : trim_start (without t (kept_signs t)) ≡ without t (kept_signs t)
