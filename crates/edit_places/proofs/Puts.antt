-- Laws of writing over a part of a list, place by place: upwards (`Up`) and downwards (`Down`). They are the invariants of the loops.
-- Assumes nothing.
use Rattle.lists.proofs.Kit.{◌≡◌, refl, ap, sym, ◌∙◌, List, ◌∷◌, ◌++◌, append_assoc, append-nil, ℕ, suc, ◌+◌, ◌-◌, ◌≤◌, ◌<◌, add-zero, add-suc, add-one, arith}
use Rattle.lists.proofs.Kit.{length, get_or, set, take, drop, length-set, length-replicate, get_or-replicate, take-append-drop, get_or-append, take-suc}
use Rattle.lists.proofs.Kit.{drop-cons, append_snoc, set_at, take_all, length-take-le, drop-length, get_or-append-add, get_or-take, get_or-drop, paste-zero}
use Rattle.lists.proofs.Kit.{paste-suc, length_paste_head}
use Rattle.edit_places.specs.Replaced.{replaced, zeros, Over}

-- the first k of s stand in e from place at on
pub record Up (e : List ℕ) (at : ℕ) (s : List ℕ) (k : ℕ) (buf : List ℕ) : Type 0 where
  pub some : k ≤ length s
  pub fits : at + length s ≤ length e
  pub left : buf ≡ replaced e at (at + k) (take k s)
  pub size : length buf ≡ length e

pub up_none : (e : List ℕ) (at : ℕ) (s : List ℕ) → at + length s ≤ length e → Up e at s 0 e
unfolding replaced
up_none e at s h = record { some = omega arith; fits = h; left = paste-zero e at s; size = refl }

module _ {e s buf : List ℕ} {at k : ℕ} (u : Up e at s k buf) where
  pub up_next : {v : ℕ} → k < length s → v ≡ get_or s k 0 → Up e at s (k + 1) (set buf (at + k) v)
  unfolding replaced
  up_next {v} h q =
      record {
        some = omega arith;
        fits = u.fits;
        left = rw (u.left, q, add-one k) (paste-suc e at s k 0 (omega (arith, u.fits)) h);
        size = length-set buf (at + k) v ∙ u.size;
      }

  pub up_all : length s ≤ k → Over e at s buf
  unfolding replaced
  up_all h =
      let k_is : k ≡ length s = omega (arith, u.some) in
      record { left = rw (k_is, take_all (length s) s (omega arith)) at u.left; size = u.size }

  -- what lies behind is as it was
  pub up_read : (j : ℕ) → at + k ≤ j → get_or buf j 0 ≡ get_or e j 0
  unfolding replaced
  up_read j h =
      let joined = take at e ++ take k s in
      let size_is : length joined ≡ at + k = length_paste_head e at s k (omega (arith, u.fits)) u.some in
      let j_is : j ≡ length joined + (j - (at + k)) = omega arith in
      let sum_is : j ≡ (at + k) + (j - (at + k)) = omega arith in
      rw u.left (
      ap (λ (i : ℕ). get_or (joined ++ drop (at + k) e) i 0) j_is ∙ get_or-append-add joined (drop (at + k) e) (j - (at + k)) 0
      ∙ get_or-drop (at + k) e (j - (at + k)) 0 ∙ ap (λ (i : ℕ). get_or e i 0) (sym sum_is)
      )

-- s stands in e from place at on, but for its first k
pub record Down (e : List ℕ) (at : ℕ) (s : List ℕ) (k : ℕ) (buf : List ℕ) : Type 0 where
  pub some : k ≤ length s
  pub fits : at + length s ≤ length e
  pub left : buf ≡ take (at + k) e ++ drop k s ++ drop (at + length s) e
  pub size : length buf ≡ length e

pub down_none : (e : List ℕ) (at : ℕ) (s : List ℕ) (k : ℕ) → k ≡ length s → at + length s ≤ length e → Down e at s k e
down_none e at s k q h =
    record {
      some = omega arith;
      fits = h;
      left = rw (q, drop-length s, append-nil (take (at + length s) e)) (sym (take-append-drop (at + length s) e));
      size = refl;
    }

-- a store below what is written already
set_below : (e s r : List ℕ) (at j : ℕ) → j < length s → at + length s ≤ length e →
    set (take (at + suc j) e ++ drop (suc j) s ++ r) (at + j) (get_or s j 0) ≡ take (at + j) e ++ drop j s ++ r
set_below e s r at j h k =
    let front = take (at + j) e in
    let value = get_or e (at + j) 0 in
    let value_there = get_or s j 0 in
    let rest = drop (suc j) s in
    rw (
      add-suc at j,
      take-suc e (at + j) 0 (omega arith),
      drop-cons s j 0 h,
      append_snoc front value rest,
      append_assoc front (value ∷ rest) r,
      append_assoc front (value_there ∷ rest) r,
    ) (set_at front value (rest ++ r) value_there (at + j) (length-take-le (at + j) e (omega arith)))

module _ {e s buf : List ℕ} {at k : ℕ} (d : Down e at s k buf) where
  pub down_next : {v : ℕ} → 0 < k → v ≡ get_or s (k - 1) 0 → Down e at s (k - 1) (set buf (at + (k - 1)) v)
  down_next {v} h q =
      let k_is : k ≡ suc (k - 1) = omega arith in
      record {
        some = omega (arith, d.some);
        fits = d.fits;
        left = rw (d.left, q) (
            ap (λ (i : ℕ). set (take (at + i) e ++ drop i s ++ drop (at + length s) e) (at + (k - 1)) (get_or s (k - 1) 0)) k_is
            ∙ set_below e s (drop (at + length s) e) at (k - 1) (omega (arith, d.some)) d.fits
            );
        size = length-set buf (at + (k - 1)) v ∙ d.size;
      }

  pub down_all : k ≤ 0 → Over e at s buf
  unfolding replaced
  down_all h =
      let k_is : k ≡ 0 = omega arith in
      record { left = rw (k_is, add-zero at) at d.left; size = d.size }

  -- what lies before is as it was
  pub down_read : (j : ℕ) → j < at + k → get_or buf j 0 ≡ get_or e j 0
  down_read j h =
      let by_length_take_le = length-take-le (at + k) e (omega (arith, d.some, d.fits)) in
      rw (d.left, append_assoc (take (at + k) e) (drop k s) (drop (at + length s) e)) (
      get_or-append (take (at + k) e) (drop k s ++ drop (at + length s) e) 0 j (omega arith) ∙ get_or-take (at + k) e j 0 h
      )

-- what stands at place k of a part
pub part_read : (e : List ℕ) (len b k : ℕ) → b + k < len → get_or (drop b (take len e)) k 0 ≡ get_or e (b + k) 0
part_read e len b k h = get_or-drop b (take len e) k 0 ∙ get_or-take len e (b + k) 0 h

pub length_zeros : (n : ℕ) → length (zeros n) ≡ n
unfolding zeros
length_zeros n = length-replicate n 0

pub zeros_read : (n k : ℕ) → k < n → 0 ≡ get_or (zeros n) k 0
unfolding zeros
zeros_read n k h = sym (get_or-replicate n k 0 0 h)
