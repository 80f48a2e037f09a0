-- What a replacement leaves of a buffer: by a shorter text, written first and the rest closed up; by a longer one, written into a gap.
-- And of a replacement: it is a delete and an insert, and it can be taken back. On plain lists. Assumes nothing.
use Rattle.lists.proofs.Kit.{◌≡◌, ap, sym, ◌∙◌, List, [], ◌∷◌, ◌++◌, append-nil, ℕ, zero, suc, ◌+◌, ◌-◌, ◌≤◌, max, arith, length, take, drop, take-append-drop}
use Rattle.lists.proofs.Kit.{take-nil, length-take-le, take-take, length-slice}
use Rattle.edit_places.specs.Replaced.{replaced, zeros, refilled, Refilled, Over, Deleted}
use Rattle.edit_places.proofs.Parts.{replaced_front, replaced_rest, replaced_through, replaced_behind, replaced_length, over_behind}
use Rattle.edit_places.proofs.Closing.{opened}

-- a part, cut at its end first or at its start first
pub drop_take : (b len : ℕ) (l : List ℕ) → drop b (take len l) ≡ take (len - b) (drop b l)
drop_take zero len l =
    let len_less_zero : len - 0 ≡ len = omega arith in
    rw len_less_zero
drop_take (suc b) zero l =
    let difference_is : 0 - suc b ≡ 0 = omega arith in
    rw difference_is
drop_take (suc b) (suc len) [] = sym (take-nil (suc len - suc b))
drop_take (suc b) (suc len) (x ∷ l) =
    let difference_is : suc len - suc b ≡ len - b = omega arith in
    rw difference_is (drop_take b len l)

no_zeros : (n : ℕ) (l r : List ℕ) → n ≡ 0 → l ++ zeros n ++ r ≡ l ++ r
unfolding zeros
no_zeros n l r e = rw (e, append-nil l)

module _ (e : List ℕ) (len a b : ℕ) (c : List ℕ) (a_b : a ≤ b) (b_len : b ≤ len) (fits : len ≤ length e) where
  pub new_length : length (replaced (take len e) a b c) ≡ len - (b - a) + length c
  new_length =
      let size_is : length (take len e) ≡ len = length-take-le len e fits in
      replaced_length (take len e) a b c (omega arith) ∙ omega arith

  -- by the lengths alone
  filled : {buf' : List ℕ} → buf' ≡ replaced (take len e) a b c ++ zeros (b - a - length c) ++ drop (len + (length c - (b - a))) e →
      length buf' ≡ length e → Refilled e len (replaced (take len e) a b c) buf'
  unfolding refilled
  filled whole size =
      let by_new_length = new_length in
      let difference_is : b - a - length c ≡ len - length (replaced (take len e) a b c) = omega arith in
      let sum_is : len + (length c - (b - a)) ≡ max len (length (replaced (take len e) a b c)) = omega arith in
      record { left = whole ∙ rw (difference_is, sum_is); size = size }

  module _ {buf buf' : List ℕ} where
    pub refilled_shorter : Over e a c buf → {at : ℕ} → Deleted buf len at b buf' → at ≡ a + length c → at ≤ b →
        Refilled e len (replaced (take len e) a b c) buf'
    unfolding replaced
    refilled_shorter u {at} v at_is h =
        let sum_is : a + length c + (b - at) ≡ b = omega arith in
        let len_is : a + length c + (len - at) ≡ len = omega arith in
        let difference_is : b - at ≡ b - a - length c = omega arith in
        let same_sum : len + (length c - (b - a)) ≡ len = omega arith in
        let behind : drop b buf ≡ drop b e = rw sum_is at (over_behind u (omega arith) (b - at)) in
        let rest : drop len buf ≡ drop len e = rw len_is at (over_behind u (omega arith) (len - at)) in
        let front : take at (take len buf) ≡ take a (take len e) ++ c =
        take-take at len buf (omega arith) ∙ rw (at_is, u.left, take-take a len e (omega arith)) (replaced_through e a (a + length c) c (omega arith)) in
        let last : drop b (take len buf) ≡ drop b (take len e) =
        drop_take b len buf ∙ ap (take (len - b)) behind ∙ sym (drop_take b len e) in
        filled (v.left ∙ rw (front, append-nil (take a (take len e) ++ c), last, rest, difference_is, same_sum)) (v.size ∙ u.size)

    pub refilled_longer : {at : ℕ} → Over e at (drop b (take len e)) buf → Over buf a c buf' → at ≡ a + length c → b - a ≤ length c →
        len - (b - a) + length c ≤ length e → Refilled e len (replaced (take len e) a b c) buf'
    unfolding replaced
    refilled_longer u v at_is h room =
        let size_is : length (drop b (take len e)) ≡ len - b = length-slice b len e fits in
        let end = len + (length c - (b - a)) in
        let whole = opened e len a (drop b (take len e)) fits (omega arith) {end = end} u v at_is (omega arith) (omega arith) in
        filled (whole ∙ sym (no_zeros (b - a - length c) (replaced (take len e) a b c) (drop end e) (omega arith))) (v.size ∙ u.size)

-- a replacement is a delete and then an insert
pub replaced_twice : (t : List ℕ) (a b : ℕ) (c : List ℕ) → a ≤ length t → replaced t a b c ≡ replaced (replaced t a b []) a a c
unfolding replaced
replaced_twice t a b c h = rw (replaced_front t a b [] h a (omega arith), replaced_rest t a b [] h)

-- what was replaced, put back
pub replaced_back : (t : List ℕ) (a b : ℕ) (c : List ℕ) → a ≤ b → b ≤ length t → replaced (replaced t a b c) a (a + length c) (drop a (take b t)) ≡ t
unfolding replaced
replaced_back t a b c h k =
    let sum_is : a + length c + 0 ≡ a + length c = omega arith in
    let b_plus_zero : b + 0 ≡ b = omega arith in
    let rest : drop (a + length c) (replaced t a b c) ≡ drop b t = rw (sum_is, b_plus_zero) at (replaced_behind t a b c (omega arith) 0) in
    let mid : take a t ++ drop a (take b t) ≡ take b t = rw (← take-take a b t h) (take-append-drop a (take b t)) in
    rw (replaced_front t a b c (omega arith) a (omega arith), rest, mid) (take-append-drop b t)
