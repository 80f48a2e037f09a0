-- Plain lists: a test of their values, where a value stands, what stands between separators, and whether two are the same.
-- Definitions only; the laws are in `proofs/`. Assumes nothing.
use Rattle.std.specs.Prelude.{ℕ, suc, List, [], ◌∷◌, Bool, true, false, cond, ◌&&◌, ◌||◌, eqb}

-- some value of the list is such
unfoldable pub any : {A : Type 0} → (A → Bool) → List A → Bool
any p [] = false
any p (x ∷ l) = p x || any p l

-- how many stand before the first x
unfoldable pub up_to : ℕ → List ℕ → ℕ
up_to x [] = 0
up_to x (y ∷ l) = cond (eqb y x) 0 (suc (up_to x l))

-- x in front of the first of the lists
unfoldable pub on_first : ℕ → List (List ℕ) → List (List ℕ)
on_first x [] = (x ∷ []) ∷ []
on_first x (p ∷ ps) = (x ∷ p) ∷ ps

-- what stands between the separators x: the empty list has one empty part. The rows of a text are `split 10` of it (`rows_split` of `text`)
unfoldable pub split : ℕ → List ℕ → List (List ℕ)
split x [] = [] ∷ []
split x (y ∷ l) = let ps = split x l in cond (eqb y x) ([] ∷ ps) (on_first y ps)

-- two lists are the same
unfoldable pub is_same : List ℕ → List ℕ → Bool
is_same [] [] = true
is_same [] (y ∷ b) = false
is_same (x ∷ a) [] = false
is_same (x ∷ a) (y ∷ b) = eqb x y && is_same a b
