-- Laws of the walk through a sequence: one byte more of it, its end, and each way that it goes wrong. Assumes nothing.
use Rattle.lists.proofs.Kit.{◌≡◌, ap, ◌∙◌, List, ℕ, zero, suc, ◌+◌, ◌*◌, ◌-◌, ◌≤◌, ◌<◌, arith, length, get_or, drop, drop_of_length-le}
use Rattle.lists.proofs.Lists.{drop_at}
use Rattle.utf8.specs.Decoding.{Reading, bad, onto, ended, reading, reading_from}
use Rattle.utf8.specs.Sequences.{bits_below, Begun}
use Rattle.utf8.proofs.Readings.{reading_fresh, tail_on, tail_low, tail_high}

-- the bits stay small
pub bits_on : (left value b : ℕ) → 0 < left → left ≤ 3 → value < bits_below left → b ≤ 0xbf → value * 64 + (b - 0x80) < bits_below (left - 1)
unfolding bits_below
bits_on zero value b p m h k = absurd (omega arith)
bits_on (suc zero) value b p m h k = omega arith
bits_on (suc (suc zero)) value b p m h k = omega arith
bits_on (suc (suc (suc zero))) value b p m h k = omega arith
bits_on (suc (suc (suc (suc left)))) value b p m h k = absurd (omega arith)

pub bits_most : (left : ℕ) → bits_below left ≤ 0x200000
unfolding bits_below
bits_most zero = omega arith
bits_most (suc zero) = omega arith
bits_most (suc (suc zero)) = omega arith
bits_most (suc (suc (suc left))) = omega arith

-- where `follow` stands in b: what is read is what is read from here on
pub record Follows (b : List ℕ) (r : Reading) (from at left least most value : ℕ) : Type 0 where
  pub begun : Begun at (length b) left least most value
  pub onward : from ≤ at
  pub same : r ≡ ended left value (reading left least most value at (drop at b))

module _ {b : List ℕ} {r : Reading} {from at left least most value : ℕ} (w : Follows b r from at left least most value) where
  more : 0 < left → left ≡ suc (left - 1)
  more h = omega arith

  same_more : 0 < left → r ≡ reading (suc (left - 1)) least most value at (drop at b)
  unfolding ended
  same_more h = rw (more h) at w.same

  pub follows_cut : 0 < left → length b ≤ at → r ≡ bad at
  unfolding reading
  follows_cut h k = same_more h ∙ rw (drop_of_length-le b k)

  module _ (h : 0 < left) (k : at < length b) where
    pub follows_low : get_or b at 0 < least → r ≡ bad at
    follows_low l = same_more h ∙ rw (drop_at b at k) (tail_low at (get_or b at 0) (drop (at + 1) b) (left - 1) least most value l)

    pub follows_high : most < get_or b at 0 → r ≡ bad at
    follows_high l = same_more h ∙ rw (drop_at b at k) (tail_high at (get_or b at 0) (drop (at + 1) b) (left - 1) least most value l)

    pub follows_on : least ≤ get_or b at 0 → get_or b at 0 ≤ most → Follows b r from (at + 1) (left - 1) 0x80 0xbf (value * 64 + (get_or b at 0 - 0x80))
    follows_on l m =
        record {
          begun =
              record {
                within = omega arith;
                few = omega (arith, w.begun.few);
                low = omega arith;
                high = omega arith;
                small = bits_on left value (get_or b at 0) h w.begun.few w.begun.small (omega (arith, w.begun.high));
              };
          onward = omega (arith, w.onward);
          same = same_more h ∙ rw (drop_at b at k) (tail_on at (get_or b at 0) (drop (at + 1) b) (left - 1) least most value l m);
        }

  pub follows_end : left ≤ 0 → r ≡ onto value (reading_from at (drop at b))
  unfolding ended
  follows_end h =
      let left_is : left ≡ 0 = omega arith in
      (rw left_is at w.same) ∙ ap (onto value) (reading_fresh least most value at (drop at b))
