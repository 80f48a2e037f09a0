-- The file of folds keeps every rule, and the folds that it lists are those it was written of. Assumes nothing.
use Rattle.lists.proofs.Kit.{◌≡◌, refl, ap, ◌∙◌, List, ℕ, zero, suc, ◌+◌, ◌*◌, ◌/◌, ◌%◌, ◌≤◌, ◌<◌, arith, length, eq-eqb, ne_eqb, le-ltb}
use Rattle.fold_blocks.specs.Files.{count_in, blocks_for, blocks, file_of}
use Rattle.fold_blocks.specs.Listed.{cut, blocks_of, folds_in, listed, count_all}
use Rattle.fold_blocks.specs.Layout.{is_uncut, layout_refusal}
use Rattle.fold_blocks.proofs.Files.{length_file, blocks_few, blocks_some, blocks_none}
use Rattle.fold_laws.proofs.Numbers.{Small}
use Rattle.fold_laws.proofs.Written.{written_whole, written_count, written_listed, written_kept}

module _ (l : List ℕ) (h : count_in l ≤ 280) where
  fits : (count_in l ≤ 56 * blocks_for (count_in l)) × (1 < blocks_for (count_in l) → 56 * blocks_for (count_in l) < count_in l + 56)
  fits = go (count_in l) refl
    where
      go : (n : ℕ) → count_in l ≡ n → (count_in l ≤ 56 * blocks_for (count_in l)) × (1 < blocks_for (count_in l) → 56 * blocks_for (count_in l) < count_in l + 56)
      go zero e = let one = blocks_none (count_in l) e in (omega arith, λ x. omega arith)
      go (suc n) e = let some = blocks_some (count_in l) (omega arith) in (omega arith, λ x. omega arith)

  file_blocks : length (file_of l) / 512 ≡ blocks_for (count_in l)
  file_blocks = omega (arith, length_file l)

  file_is : file_of l ≡ blocks (count_in l) 0 (blocks_for (count_in l)) l
  unfolding file_of
  file_is = refl

  pub file_cut : blocks_of (file_of l) ≡ cut (blocks_for (count_in l)) (blocks (count_in l) 0 (blocks_for (count_in l)) l)
  unfolding file_of
  file_cut = ap (λ (m : ℕ). cut m (file_of l)) file_blocks

  pub file_taken : layout_refusal (file_of l) ≡ 0
  unfolding layout_refusal is_uncut
  file_taken =
      let few = blocks_few (count_in l) h in
      let size = length_file l in
      let the_blocks = blocks_for (count_in l) in
      let whole : length (file_of l) % 512 ≡ 0 = omega arith in
      let counted : count_all (blocks_of (file_of l)) ≡ count_in l = ap count_all file_cut ∙ written_count (count_in l) 0 the_blocks l fits.0 in
      rw (
        eq-eqb (length (file_of l) % 512) 0 whole,
        ne_eqb (length (file_of l)) 0 (λ z. omega arith),
        le-ltb 2560 (length (file_of l)) (omega arith),
        counted,
        file_blocks,
        ap (cut the_blocks) file_is,
        written_whole (count_in l) 0 the_blocks l,
        written_kept the_blocks (count_in l) 0 the_blocks l (omega arith) (omega arith) (omega arith) fits.0 (λ x y. fits.1 x),
      )

  pub file_listed : Small l → folds_in (file_of l) ≡ l
  file_listed s = ap listed file_cut ∙ written_listed (count_in l) 0 (blocks_for (count_in l)) l s fits.0
