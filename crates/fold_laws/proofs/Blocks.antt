-- A block taken apart: what it says of itself is what was put into it. Assumes nothing.
use Rattle.lists.proofs.Kit.{◌≡◌, refl, List, ◌++◌, append_assoc, false, ℕ, ◌+◌, ◌*◌, ◌-◌, ◌/◌, ◌%◌, ◌≤◌, ◌<◌, arith, length, take, drop, get_or, replicate}
use Rattle.lists.proofs.Kit.{length-append, length-replicate, take_at, drop_at, get_or-append-add, eq-eqb}
use Rattle.lists.specs.Lists.{any}
use Rattle.fold_blocks.specs.Bytes.{two, entries, entries_in, sum}
use Rattle.fold_blocks.specs.Files.{count_in, body, block}
use Rattle.fold_blocks.specs.Listed.{number_of, count_of, total_of, sum_of}
use Rattle.fold_blocks.specs.Layout.{is_used, is_torn}
use Rattle.fold_blocks.proofs.Files.{length_entries, length_body}
use Rattle.fold_laws.proofs.Numbers.{Small}
use Rattle.fold_laws.proofs.Entries.{entries_back, zeros_unused}

-- behind a beginning of m values
behind : (p q : List ℕ) (m j : ℕ) → length p ≡ m → get_or (p ++ q) (m + j) 0 ≡ get_or q j 0
behind p q m j e = rw (← e) (get_or-append-add p q j 0)

module _ (n k : ℕ) (l : List ℕ) (h : length l ≤ 168) where
  -- the entries and the zeros behind them, with the number and the count before them: 508 bytes
  abbrev front : List ℕ
  front = two k ++ two (count_in l) ++ entries l

  abbrev head : List ℕ
  head = front ++ replicate (504 - 9 * count_in l) 0

  length_front : length front ≡ 4 + 9 * count_in l
  length_front = omega (arith, length_entries l)

  length_head : length head ≡ 508
  length_head = simp (length-append, length-replicate) (omega (arith, length_entries l))

  abbrev check : ℕ
  check = sum (body n k l) % 65536

  -- the head, the total and the sum
  block_parts : block n k l ≡ head ++ (two n ++ two check)
  unfolding block body
  block_parts = append_assoc head (two n) (two check)

  pub block_number : k < 65536 → number_of (block n k l) ≡ k
  unfolding block body
  block_number m = omega arith

  pub block_count : count_of (block n k l) ≡ count_in l
  unfolding block body
  block_count = omega arith

  pub block_total : n < 65536 → total_of (block n k l) ≡ n
  block_total m = rw (block_parts, behind head (two n ++ two check) 508 0 length_head, behind head (two n ++ two check) 508 1 length_head) (omega arith)

  body_first : take 510 (block n k l) ≡ body n k l
  unfolding block
  body_first = take_at (body n k l) (two check) 510 (length_body n k l h)

  check_back : check % 256 + 256 * (check / 256 % 256) ≡ check
  check_back =
      let small : check < 65536 = omega arith in
      let high : check / 256 % 256 ≡ check / 256 = omega (arith, small) in
      omega (arith, high)

  pub block_whole : is_torn (block n k l) ≡ false
  unfolding is_torn
  block_whole =
      let stored : sum_of (block n k l) ≡ check =
      rw (block_parts, behind head (two n ++ two check) 508 2 length_head, behind head (two n ++ two check) 508 3 length_head) check_back in
      rw (stored, body_first, eq-eqb check check refl)

  pub block_unused : any is_used (drop (4 + 9 * count_of (block n k l)) (take 508 (block n k l))) ≡ false
  block_unused = rw (
    block_count,
    block_parts,
    take_at head (two n ++ two check) 508 length_head,
    drop_at front (replicate (504 - 9 * count_in l) 0) (4 + 9 * count_in l) length_front,
  ) (zeros_unused (504 - 9 * count_in l))

  pub block_entries : Small l → entries_in (count_of (block n k l)) (drop 4 (block n k l)) ≡ l
  unfolding block body
  block_entries s = rw (block_count, append_assoc, append_assoc) (entries_back l _ (count_in l) s refl)
