-- The rules of the layout as statements: what it means that a block breaks none, and so no block of a file. Assumes nothing.
use Rattle.lists.proofs.Kit.{◌≡◌, refl, List, [], ◌∷◌, Bool, true, false, not, ◌&&◌, ◌||◌, ℕ, zero, suc, ◌+◌, ◌*◌, ◌≤◌, ◌<◌, arith, length, take, drop}
use Rattle.lists.proofs.Kit.{length-append, eqb, ltb, not-false, ltb-true, ltb-false, eqb-true, eqb-false, lt-ltb, le-ltb, eq-eqb, ne_eqb}
use Rattle.lists.specs.Lists.{any}
use Rattle.fold_blocks.specs.Bytes.{entries_in}
use Rattle.fold_blocks.specs.Listed.{number_of, count_of, total_of, listed}
use Rattle.fold_blocks.specs.Layout.{is_used, breaks, broken}

-- block k of so many, in a file of n folds, keeps each rule
pub record Keeps (many n k : ℕ) (b : List ℕ) : Type 0 where
  pub number : number_of b ≡ k
  pub few : count_of b ≤ 56
  pub full : k + 1 < many → count_of b ≡ 56
  pub some : 1 < many → 0 < count_of b
  pub unused : any is_used (drop (4 + 9 * count_of b) (take 508 b)) ≡ false
  pub total : total_of b ≡ n

pub or_parts : (a b : Bool) → (a || b) ≡ false → (a ≡ false) × (b ≡ false)
or_parts true b e = let never : ◌≡◌ {A = ℕ} 0 1 = cc in absurd (omega arith)
or_parts false b e = (refl, e)

-- a test that holds only under another
under : (a b : Bool) → (a && b) ≡ false → a ≡ true → b ≡ false
under true b e t = e
under false b e t = let never : ◌≡◌ {A = ℕ} 0 1 = cc in absurd (omega arith)

under_false : (a b : Bool) → (a ≡ true → b ≡ false) → (a && b) ≡ false
under_false true b h = h refl
under_false false b h = refl

module _ (many n k : ℕ) (b : List ℕ) where
  pub keeps : breaks many n k b ≡ false → Keeps many n k b
  unfolding breaks
  keeps e =
      let by_or_parts = or_parts _ _ e in
      let or_parts_here = or_parts _ _ by_or_parts.1 in
      let or_parts_so = or_parts _ _ or_parts_here.1 in
      let by_or_parts_2 = or_parts _ _ or_parts_so.1 in
      let by_or_parts_3 = or_parts _ _ by_or_parts_2.1 in
      record {
        number = eqb-true _ _ (not-false _ by_or_parts.0);
        few = ltb-false _ _ or_parts_here.0;
        full = λ h. eqb-true _ _ (not-false _ (under _ _ or_parts_so.0 (lt-ltb (k + 1) many h)));
        some = λ h. let by_eqb_false = eqb-false _ _ (under _ _ by_or_parts_2.0 (lt-ltb 1 many h)) in some_of _ by_eqb_false;
        unused = by_or_parts_3.0;
        total = eqb-true _ _ (not-false _ by_or_parts_3.1);
      }
    where
      some_of : (m : ℕ) → (m ≡ 0 → ⊥) → 0 < m
      some_of zero h = absurd (h refl)
      some_of (suc m) h = omega arith

  pub kept : Keeps many n k b → breaks many n k b ≡ false
  unfolding breaks
  kept w = rw (
    eq-eqb _ _ w.number,
    le-ltb 56 (count_of b) w.few,
    under_false (ltb (k + 1) many) (not (eqb (count_of b) 56)) (λ t. rw (eq-eqb (count_of b) 56 (w.full (ltb-true _ _ t)))),
    under_false (ltb 1 many) (eqb (count_of b) 0) (λ t. ne_eqb (count_of b) 0 (λ z. omega (arith, w.some (ltb-true _ _ t)))),
    w.unused,
    eq-eqb _ _ w.total,
  )

-- the first block, and those behind it
pub broken_first : (many n k : ℕ) (b : List ℕ) (l : List (List ℕ)) → broken many n k (b ∷ l) ≡ false → Keeps many n k b × (broken many n (k + 1) l ≡ false)
unfolding broken
broken_first many n k b l e = let by_or_parts = or_parts (breaks many n k b) _ e in (keeps many n k b by_or_parts.0, by_or_parts.1)

pub length_entries_in : (n : ℕ) (b : List ℕ) → length (entries_in n b) ≡ 3 * n
unfolding entries_in
length_entries_in zero b = refl
length_entries_in (suc n) b = omega (arith, length_entries_in n (drop 9 b))

-- at most 56 folds in each
pub listed_most : (many n k : ℕ) (l : List (List ℕ)) → broken many n k l ≡ false → length (listed l) ≤ 168 * length l
unfolding listed
listed_most many n k [] e = omega arith
listed_most many n k (b ∷ l) e =
    let by_broken_first = broken_first many n k b l e in
    let first = entries_in (count_of b) (drop 4 b) in
    omega (
      arith,
      length-append first (listed l),
      length_entries_in (count_of b) (drop 4 b),
      by_broken_first.0.few,
      listed_most many n (k + 1) l by_broken_first.1,
    )
