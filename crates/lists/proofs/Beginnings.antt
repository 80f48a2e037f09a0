-- Laws of beginnings: a shorter one begins what a longer one does, and an input goes wrong at one place. Assumes nothing.
use Rattle.lists.proofs.Kit.{◌≡◌, subst, ◌∙◌, ap, List, ◌++◌, append_assoc, ℕ, ◌+◌, ◌-◌, ◌≤◌, ◌<◌, dec_lt, arith, take, drop, take-add}
use Rattle.lists.specs.Beginnings.{Begins, Place}

module _ (Accepted : List ℕ → Type 0) (b : List ℕ) where
  pub begins_shorter : (m n : ℕ) → m ≤ n → Begins Accepted (take n b) → Begins Accepted (take m b)
  begins_shorter m n h (rest, a) =
      let n_is : n ≡ m + (n - m) = omega arith in
      let cut : take n b ≡ take m b ++ take (n - m) (drop m b) = ap (λ (i : ℕ). take i b) n_is ∙ take-add m (n - m) b in
      let whole : take n b ++ rest ≡ take m b ++ (take (n - m) (drop m b) ++ rest) =
      ap (λ (l : List ℕ). l ++ rest) cut ∙ append_assoc (take m b) (take (n - m) (drop m b)) rest in
      (take (n - m) (drop m b) ++ rest, subst Accepted whole a)

  below : (m n : ℕ) → Place Accepted b m → Place Accepted b n → m < n → ⊥
  below m n p q h = p.longest (omega (arith, q.inside)) (begins_shorter (m + 1) n (omega arith) q.begins)

  pub place_one : (m n : ℕ) → Place Accepted b m → Place Accepted b n → m ≡ n
  place_one m n p q = go (dec_lt m n) (dec_lt n m)
    where
      go : Dec (m < n) → Dec (n < m) → m ≡ n
      go (yes h) d = absurd (below m n p q h)
      go (no h) (yes k) = absurd (below n m q p k)
      go (no h) (no k) = omega arith
