-- A file that is refused by none of 18 to 20, and what follows for its folds. Assumes nothing.
use Rattle.lists.proofs.Kit.{◌≡◌, refl, ap, List, Bool, true, false, cond, ℕ, zero, suc, ◌/◌, ◌%◌, ◌≤◌, ◌<◌, arith, length, drop, not-false, ltb-false}
use Rattle.lists.proofs.Kit.{eqb-true, eqb-false}
use Rattle.lists.specs.Lists.{any}
use Rattle.fold_blocks.specs.Listed.{cut, blocks_of, folds_in, count_all}
use Rattle.fold_blocks.specs.Layout.{is_uncut, is_torn, is_broken, layout_refusal}
use Rattle.fold_blocks.proofs.Rules.{or_parts, listed_most}

-- a file that is refused by none of 18 to 20
pub record Whole (f : List ℕ) : Type 0 where
  pub blocks : length f % 512 ≡ 0
  pub some : 0 < length f
  pub short : length f ≤ 2560
  pub sums : any is_torn (blocks_of f) ≡ false
  pub laid : is_broken f ≡ false

pub uncut_false : (f : List ℕ) → is_uncut f ≡ false → (length f % 512 ≡ 0) × (0 < length f) × (length f ≤ 2560)
unfolding is_uncut
uncut_false f e =
    let by_or_parts = or_parts _ _ e in
    let or_parts_here = or_parts _ _ by_or_parts.1 in
    (eqb-true _ _ (not-false _ by_or_parts.0), some_of (length f) (eqb-false _ _ or_parts_here.0), ltb-false _ _ or_parts_here.1)
  where
    some_of : (m : ℕ) → (m ≡ 0 → ⊥) → 0 < m
    some_of zero h = absurd (h refl)
    some_of (suc m) h = omega arith

pub layout_whole : (f : List ℕ) → layout_refusal f ≡ 0 → Whole f
unfolding layout_refusal
layout_whole f e = go (is_uncut f) (any is_torn (blocks_of f)) (is_broken f) refl refl refl e
  where
    go : (a b c : Bool) → is_uncut f ≡ a → any is_torn (blocks_of f) ≡ b → is_broken f ≡ c → ◌≡◌ {A = ℕ} (cond a 18 (cond b 19 (cond c 20 0))) 0 → Whole f
    go true b c p q r h = absurd (omega arith)
    go false true c p q r h = absurd (omega arith)
    go false false true p q r h = absurd (omega arith)
    go false false false p q r h =
        let by_uncut_false = uncut_false f p in
        record { blocks = by_uncut_false.0; some = by_uncut_false.1; short = by_uncut_false.2; sums = q; laid = r }

pub length_cut : (n : ℕ) (f : List ℕ) → length (cut n f) ≡ n
unfolding cut
length_cut zero f = refl
length_cut (suc n) f = ap suc (length_cut n (drop 512 f))

-- at most 840 numbers
pub folds_most : (f : List ℕ) → Whole f → length (folds_in f) ≤ 840
folds_most f w = omega (arith, listed_most (length f / 512) (count_all (blocks_of f)) 0 (blocks_of f) w.laid, length_cut (length f / 512) f, w.short)
