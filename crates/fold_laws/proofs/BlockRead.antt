-- A block that keeps every rule is that of the folds that it lists. Assumes nothing.
use Rattle.lists.proofs.Kit.{◌≡◌, ap, sym, ◌∙◌, List, ◌++◌, false, ℕ, ◌+◌, ◌*◌, ◌-◌, ◌%◌, ◌≤◌, arith, length, take, drop, replicate, length-drop}
use Rattle.lists.proofs.Kit.{take-append-drop, take_all, take-add, take-take, get_or-drop, length-take-le, not-false, eqb-true}
use Rattle.fold_blocks.specs.Bytes.{two, two_at, entries, entries_in, sum}
use Rattle.fold_blocks.specs.Files.{count_in, body, block}
use Rattle.fold_blocks.specs.Listed.{count_of, sum_of}
use Rattle.fold_blocks.specs.Layout.{is_torn}
use Rattle.fold_blocks.proofs.Rules.{Keeps, length_entries_in}
use Rattle.fold_laws.proofs.Numbers.{Bytes, bytes_drop, two_of}
use Rattle.fold_laws.proofs.Entries.{entries_of, zeros_of}

-- two bytes at an index
two_back : (b : List ℕ) (i : ℕ) → Bytes b → i + 2 ≤ length b → two (two_at b i) ≡ take 2 (drop i b)
two_back b i w h =
    let zeroth : i + 0 ≡ i = omega arith in
    let same : two_at (drop i b) 0 ≡ two_at b i = rw (get_or-drop i b 0 0, get_or-drop i b 1 0, zeroth) in
    ap two (sym same) ∙ two_of (drop i b) (bytes_drop i b w) (omega (arith, length-drop i b))

module _ (many n k : ℕ) (b : List ℕ) (size : length b ≡ 512) (w : Bytes b) (r : Keeps many n k b) where
  folds : List ℕ
  folds = entries_in (count_of b) (drop 4 b)

  counted : count_in folds ≡ count_of b
  unfolding folds
  counted = omega (arith, length_entries_in (count_of b) (drop 4 b))

  -- the first 510 bytes, part by part
  body_back : body n k folds ≡ take 510 b
  unfolding body folds
  body_back =
      let the_count = count_of b in
      let rest = drop (4 + 9 * the_count) (take 508 b) in
      let left : length rest ≡ 504 - 9 * the_count = omega (arith, length-drop (4 + 9 * the_count) (take 508 b), length-take-le 508 b (omega arith), r.few) in
      let number : two k ≡ take 2 b = ap two (sym r.number) ∙ two_back b 0 w (omega arith) in
      let count : two (count_in (entries_in the_count (drop 4 b))) ≡ take 2 (drop 2 b) = ap two counted ∙ two_back b 2 w (omega arith) in
      let listing : entries (entries_in the_count (drop 4 b)) ≡ take (9 * the_count) (drop 4 b) =
      entries_of the_count (drop 4 b) (bytes_drop 4 b w) (omega (arith, length-drop 4 b, r.few)) in
      let zeros : replicate (504 - 9 * count_in (entries_in the_count (drop 4 b))) 0 ≡ rest =
      ap (λ (m : ℕ). replicate (504 - 9 * m) 0) counted ∙ ap (λ (m : ℕ). replicate m 0) (sym left) ∙ sym (zeros_of rest r.unused) in
      let total : two n ≡ take 2 (drop 508 b) = ap two (sym r.total) ∙ two_back b 508 w (omega arith) in
      let first : two k ++ two (count_in (entries_in the_count (drop 4 b))) ≡ take 4 b = (λ i. number i ++ count i) ∙ sym (take-add 2 2 b) in
      let second : two k ++ two (count_in (entries_in the_count (drop 4 b))) ++ entries (entries_in the_count (drop 4 b)) ≡ take (4 + 9 * the_count) (take 508 b) =
      (λ i. first i ++ listing i) ∙ sym (take-add 4 (9 * the_count) b) ∙ sym (take-take (4 + 9 * the_count) 508 b (omega (arith, r.few))) in
      let third :
      two k ++ two (count_in (entries_in the_count (drop 4 b))) ++ entries (entries_in the_count (drop 4 b))
      ++ replicate (504 - 9 * count_in (entries_in the_count (drop 4 b))) 0 ≡ take 508 b =
      (λ i. second i ++ zeros i) ∙ take-append-drop (4 + 9 * the_count) (take 508 b) in
      (λ i. third i ++ total i) ∙ sym (take-add 508 2 b)

  pub block_back : is_torn b ≡ false → block n k (entries_in (count_of b) (drop 4 b)) ≡ b
  unfolding block folds is_torn
  block_back e =
      let fits : sum_of b ≡ sum (take 510 b) % 65536 = eqb-true _ _ (not-false _ e) in
      let stored : two (sum (body n k folds) % 65536) ≡ take 2 (drop 510 b) =
      ap (λ (s : List ℕ). two (sum s % 65536)) body_back ∙ ap two (sym fits) ∙ two_back b 510 w (omega arith) in
      rw (stored, body_back, ← take-add 510 2 b) (take_all 512 b (omega arith))
