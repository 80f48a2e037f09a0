-- The rules of a block, one after another, as `layout::breaks` tests them. Assumes nothing.
use Rattle.lists.proofs.Kit.{◌≡◌, refl, sym, ◌∙◌, List, [], ◌∷◌, Bool, true, false, not, ◌&&◌, ℕ, zero, suc, ◌+◌, ◌*◌, ◌-◌, ◌≤◌, ◌<◌, arith, take, drop, eqb}
use Rattle.lists.proofs.Kit.{ltb, eq-eqb, ne_eqb, lt-ltb, le-ltb}
use Rattle.lists.specs.Lists.{any}
use Rattle.fold_blocks.specs.Listed.{number_of, count_of, total_of}
use Rattle.fold_blocks.specs.Layout.{is_used, breaks}

-- the part from m to n, cut off at either end first
drop_take : (m n : ℕ) (l : List ℕ) → drop m (take n l) ≡ take (n - m) (drop m l)
drop_take zero n l = let n_less_zero : n - 0 ≡ n = omega arith in rw n_less_zero
drop_take (suc m) zero l = let difference_is : 0 - suc m ≡ 0 = omega arith in rw difference_is
drop_take (suc m) (suc n) [] = take_none (suc n - suc m)
  where
    take_none : (i : ℕ) → ◌≡◌ {A = List ℕ} [] (take i [])
    take_none zero = refl
    take_none (suc i) = refl
drop_take (suc m) (suc n) (x ∷ l) = let difference_is : suc n - suc m ≡ n - m = omega arith in rw difference_is (drop_take m n l)

module _ (many n k : ℕ) (b : List ℕ) where
  pub breaks_number : (x : ℕ) → x ≡ number_of b → (x ≡ k → ⊥) → true ≡ breaks many n k b
  unfolding breaks
  breaks_number x e h = rw (ne_eqb (number_of b) k (λ z. h (e ∙ z)))

  module _ (x : ℕ) (e : x ≡ number_of b) (number : x ≡ k) (c : ℕ) (q : c ≡ count_of b) where
    pub breaks_many : 56 < c → true ≡ breaks many n k b
    unfolding breaks
    breaks_many h = rw (eq-eqb (number_of b) k (sym e ∙ number), lt-ltb 56 (count_of b) (omega arith))

    module _ (few : c ≤ 56) where
      pub breaks_full : (ltb (k + 1) many && not (eqb c 56)) ≡ true → true ≡ breaks many n k b
      unfolding breaks
      breaks_full h = rw (eq-eqb (number_of b) k (sym e ∙ number), le-ltb 56 (count_of b) (omega arith), ← q, h)

      module _ (full : (ltb (k + 1) many && not (eqb c 56)) ≡ false) where
        pub breaks_some : (ltb 1 many && eqb c 0) ≡ true → true ≡ breaks many n k b
        unfolding breaks
        breaks_some h = rw (eq-eqb (number_of b) k (sym e ∙ number), le-ltb 56 (count_of b) (omega arith), ← q, full, h)

        module _ (some : (ltb 1 many && eqb c 0) ≡ false) where
          pub breaks_unused : (u : Bool) → u ≡ any is_used (take (508 - (4 + 9 * c)) (drop (4 + 9 * c) b)) → u ≡ true → true ≡ breaks many n k b
          unfolding breaks
          breaks_unused u p h =
              rw (eq-eqb (number_of b) k (sym e ∙ number), le-ltb 56 (count_of b) (omega arith), ← q, full, some, drop_take (4 + 9 * c) 508 b, ← p, h)

          pub breaks_total : (u : Bool) → u ≡ any is_used (take (508 - (4 + 9 * c)) (drop (4 + 9 * c) b)) → u ≡ false → (y : ℕ) → y ≡ total_of b →
              not (eqb y n) ≡ breaks many n k b
          unfolding breaks
          breaks_total u p h y r =
              rw (eq-eqb (number_of b) k (sym e ∙ number), le-ltb 56 (count_of b) (omega arith), ← q, full, some, drop_take (4 + 9 * c) 508 b, ← p, h, ← r)
