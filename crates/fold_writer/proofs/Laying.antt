-- One block after another: how far the writing has come. Assumes nothing.
use Rattle.lists.proofs.Kit.{◌≡◌, ◌∙◌, List, [], ◌++◌, ℕ, zero, suc, ◌+◌, ◌-◌, ◌≤◌, ◌<◌, arith, length, take, drop, length-take}
use Rattle.print.specs.Print.{Wrote}
use Rattle.fold_blocks.specs.Files.{count_in, blocks_for, block, blocks, file_of}
use Rattle.fold_blocks.proofs.Files.{length_blocks}
use Rattle.fold_blocks.proofs.Toward.{Toward, toward_start, toward_on, toward_end}
use Rattle.fold_writer.specs.Writing.{Ends}
use Rattle.fold_writer.proofs.Writes.{ends_part, ends_rest}

-- the folds before index `from` are written, in k blocks of so many
pub record Laying (room folds : List ℕ) (many : ℕ) (out : List ℕ) (at from k : ℕ) : Type 0 where
  pub within : from ≤ length folds
  pub most : k ≤ many
  pub toward : Toward room 0 (file_of folds) out at (blocks (count_in folds) k (many - k) (drop from folds))

pub laying_start : (room folds : List ℕ) (many : ℕ) → many ≡ blocks_for (count_in folds) → Laying room folds many room 0 0 0
unfolding file_of
laying_start room folds many e =
    let all : many - 0 ≡ blocks_for (count_in folds) = omega arith in
    record { within = omega arith; most = omega arith; toward = rw all (toward_start room 0 (file_of folds)) }

blocks_next : (n k left : ℕ) (l : List ℕ) → 0 < left → blocks n k left l ≡ block n k (take 168 l) ++ blocks n (k + 1) (left - 1) (drop 168 l)
unfolding blocks
blocks_next n k zero l h = absurd (omega arith)
blocks_next n k (suc left) l h = let back : suc left - 1 ≡ left = omega arith in rw back

blocks_done : (n k left : ℕ) (l : List ℕ) → left ≡ 0 → blocks n k left l ≡ []
unfolding blocks
blocks_done n k left l e = rw e

module _ {room folds out : List ℕ} {many at from k : ℕ} (w : Laying room folds many out at from k) where
  pub laying_room : k < many → length (file_of folds) ≤ length room → at + 512 ≤ length out
  laying_room h r = omega (arith, w.toward.total, w.toward.size, length_blocks (count_in folds) k (many - k) (drop from folds))

  pub laying_on : k < many → {to : ℕ} {p : List ℕ} {c : ℕ} → Ends from (length folds) to →
      Wrote out at (block (count_in folds) k (take (to - from) (drop from folds))) c p → Laying room folds many p c to (k + 1)
  laying_on h {to} {p} {c} e v =
      let n = count_in folds in
      let part = take (to - from) (drop from folds) in
      let less : many - k - 1 ≡ many - (k + 1) = omega arith in
      let next : blocks n k (many - k) (drop from folds) ≡ block n k part ++ blocks n (k + 1) (many - (k + 1)) (drop to folds) =
      blocks_next n k (many - k) (drop from folds) (omega arith) ∙ rw (less, ends_part folds from to e, ends_rest folds from to e) in
      record {
        within = e.within;
        most = omega arith;
        toward = toward_on (block n k part) (blocks n (k + 1) (many - (k + 1)) (drop to folds)) w.toward next v;
      }

  pub laying_end : many ≤ k → Wrote room 0 (file_of folds) at out
  laying_end h = toward_end w.toward (blocks_done (count_in folds) k (many - k) (drop from folds) (omega arith))

pub part_most : (l : List ℕ) (from to : ℕ) → Ends from (length l) to → length (take (to - from) (drop from l)) ≤ 168
part_most l from to e = omega (arith, length-take (to - from) (drop from l), e.most)
