-- Two width functions that agree on the characters of a list, of its parts, and of the rows of a text. Assumes nothing.
use Rattle.lists.proofs.Kit.{◌≡◌, refl, List, [], ◌∷◌, Bool, true, false, cond, ◌||◌, ℕ, zero, suc, arith, get_or, take, drop, eqb}
use Rattle.lists.specs.Lists.{any, on_first}
use Rattle.text.specs.Text.{rows, row_at}

abbrev pub Agree : (ℕ → ℕ) → (ℕ → ℕ) → List ℕ → Type 0
Agree w v [] = Unit
Agree w v (x ∷ l) = (w x ≡ v x) × Agree w v l

abbrev AgreeAll : (ℕ → ℕ) → (ℕ → ℕ) → List (List ℕ) → Type 0
AgreeAll w v [] = Unit
AgreeAll w v (l ∷ ls) = Agree w v l × AgreeAll w v ls

-- the tests of a list are false
none_left : (a b : Bool) → (a || b) ≡ false → a ≡ false
none_left true b e = e
none_left false b e = refl

none_right : (a b : Bool) → (a || b) ≡ false → b ≡ false
none_right true b e = absurd (let never : ◌≡◌ {A = ℕ} 0 1 = cc in omega arith)
none_right false b e = e

module _ (w v : ℕ → ℕ) where
  -- they agree where a test fails, and it fails on the list
  pub agree_without : (p : ℕ → Bool) → ((x : ℕ) → p x ≡ false → w x ≡ v x) → (l : List ℕ) → any p l ≡ false → Agree w v l
  unfolding any
  agree_without p h [] e = tt
  agree_without p h (x ∷ l) e = (h x (none_left (p x) (any p l) e), agree_without p h l (none_right (p x) (any p l) e))

  pub agree_drop : (n : ℕ) (l : List ℕ) → Agree w v l → Agree w v (drop n l)
  agree_drop zero l a = a
  agree_drop (suc n) [] a = tt
  agree_drop (suc n) (x ∷ l) a = agree_drop n l a.1

  pub agree_take : (n : ℕ) (l : List ℕ) → Agree w v l → Agree w v (take n l)
  agree_take zero l a = tt
  agree_take (suc n) [] a = tt
  agree_take (suc n) (x ∷ l) a = (a.0, agree_take n l a.1)

  on_first_lem : (x : ℕ) (ls : List (List ℕ)) → w x ≡ v x → AgreeAll w v ls → AgreeAll w v (on_first x ls)
  unfolding on_first
  on_first_lem x [] e a = ((e, tt), tt)
  on_first_lem x (l ∷ ls) e a = ((e, a.0), a.1)

  either : (b : Bool) (ls ms : List (List ℕ)) → AgreeAll w v ls → AgreeAll w v ms → AgreeAll w v (cond b ls ms)
  either true ls ms a c = a
  either false ls ms a c = c

  in_rows : (t : List ℕ) → Agree w v t → AgreeAll w v (rows t)
  unfolding rows
  in_rows [] a = (tt, tt)
  in_rows (x ∷ t) a =
      let later = in_rows t a.1 in
      either (eqb x 10) ([] ∷ rows t) (on_first x (rows t)) (tt, later) (on_first_lem x (rows t) a.0 later)

  in_one : (ls : List (List ℕ)) (r : ℕ) → AgreeAll w v ls → Agree w v (get_or ls r [])
  in_one [] r a = tt
  in_one (l ∷ ls) zero a = a.0
  in_one (l ∷ ls) (suc r) a = in_one ls r a.1

  pub agree_row : (t : List ℕ) (r : ℕ) → Agree w v t → Agree w v (row_at t r)
  agree_row t r a = in_one (rows t) r (in_rows t a)
