-- Laws of what the writer lays down: zeros, the bytes that a sum is taken of, and the folds of a block. Assumes nothing.
use Rattle.lists.proofs.Kit.{◌≡◌, refl, sym, subst, ◌∙◌, List, ◌++◌, append_assoc, ℕ, ◌+◌, ◌*◌, ◌-◌, ◌%◌, ◌≤◌, ◌<◌, dec_lt, arith, length, take, drop}
use Rattle.lists.proofs.Kit.{replicate, length-replicate, length-drop, drop_of_length-le, sets-eq, take_at}
use Rattle.lists.proofs.Kit.{drop_at, take_all, drop-drop, length-take-le}
use borrow.Rule.Slice.PartMut.{put_mid, same_len_mid}
use Rattle.print.specs.Print.{Wrote}
use Rattle.print.proofs.Laws.{wrote_then}
use Rattle.fold_blocks.specs.Bytes.{two, sum}
use Rattle.fold_blocks.specs.Files.{count_in, body, block}
use Rattle.fold_writer.specs.Writing.{Ends}

-- zeros filled in
pub wrote_fill : (out : List ℕ) (at n k m : ℕ) {x : List ℕ} → at + n ≤ length out → k ≡ n → m ≡ n → x ≡ replicate m 0 →
    Wrote out at (replicate n 0) (at + n) (put_mid at k out x)
wrote_fill out at n k m h few many e =
    let zeros : List ℕ = replicate n 0 in
    let size : length zeros ≡ n = length-replicate n 0 in
    let part : length (take n (drop at out)) ≡ n = length-take-le n (drop at out) (omega (arith, length-drop at out)) in
    rw (e, many, few) (
    record {
      next = omega (arith, size);
      left = rw (drop-drop n at out, sets-eq zeros out at (omega (arith, size)), size, append_assoc (take at out) zeros (drop (at + n) out));
      size = same_len_mid at n out zeros (size ∙ sym part);
    }
    )

-- what was written stands there
pub wrote_part : {out o s : List ℕ} {at r : ℕ} → Wrote out at s r o → at + length s ≤ length out → take (r - at) (drop at o) ≡ s
wrote_part {out} {o} {s} {at} {r} w h =
    let size : r - at ≡ length s = omega (arith, w.next) in
    let front : length (take at out) ≡ at = length-take-le at out (omega arith) in
    let rest = drop (at + length s) out in
    rw (w.left, size, sets-eq s out at h, append_assoc (take at out) s rest, drop_at (take at out) (s ++ rest) at front) (take_at s rest (length s) refl)

-- the zeros behind the entries of a block
pub length_zeros : (folds : List ℕ) → length (replicate {A = ℕ} (504 - 9 * count_in folds) 0) ≡ 504 - 9 * count_in folds
length_zeros folds = length-replicate _ _

-- a block with its sum
pub wrote_block : (n k : ℕ) (folds : List ℕ) (x : ℕ) {out o p : List ℕ} {at b c : ℕ} → Wrote out at (body n k folds) b o → x ≡ sum (body n k folds) →
    Wrote o b (two (x % 65536)) c p → Wrote out at (block n k folds) c p
unfolding block
wrote_block n k folds x {out} {o} {p} {at} {b} {c} w e v = wrote_then w (subst (λ (y : ℕ). Wrote o b (two (y % 65536)) c p) e v)

-- the folds of a block, and those behind it
module _ (l : List ℕ) (from to : ℕ) (w : Ends from (length l) to) where
  pub ends_part : take (to - from) (drop from l) ≡ take 168 (drop from l)
  ends_part = go (dec_lt to (from + 168))
    where
      go : Dec (to < from + 168) → take (to - from) (drop from l) ≡ take 168 (drop from l)
      go (yes h) = take_all (to - from) (drop from l) (omega (arith, length-drop from l, w.all h, w.after))
          ∙ sym (take_all 168 (drop from l) (omega (arith, length-drop from l, w.all h, w.after)))
      go (no h) = let difference_is : to - from ≡ 168 = omega (arith, w.most) in rw difference_is

  pub ends_rest : drop to l ≡ drop 168 (drop from l)
  ends_rest = go (dec_lt to (from + 168))
    where
      go : Dec (to < from + 168) → drop to l ≡ drop 168 (drop from l)
      go (yes h) =
          drop_of_length-le l {i = to} (omega (arith, w.all h)) ∙ sym (drop_of_length-le (drop from l) {i = 168} (omega (arith, length-drop from l, w.all h)))
      go (no h) = let to_is : to ≡ from + 168 = omega (arith, w.most) in rw (to_is, drop-drop 168 from l)
