-- Laws of reading a row of numbers, byte by byte, and of where a row ends. Long by the kinds of bytes: a law for each. Assumes nothing.
use Rattle.lists.proofs.Kit.{◌≡◌, refl, ap, sym, ◌∙◌, List, [], ◌++◌, append_assoc, append-nil, Bool, true, false, cond, ◌&&◌, ◌||◌, ℕ, suc, ◌+◌, ◌-◌, ◌≤◌, ◌<◌, Some, None}
use Rattle.lists.proofs.Kit.{arith, length, get_or, take, drop, replicate, length-replicate, drop_of_length-le, paste}
use Rattle.lists.proofs.Kit.{take-paste, length-paste, take_all, le-leb, lt-leb, ne_eqb}
use Rattle.lists.proofs.Lists.{drop_at}
use Rattle.replay_rows.specs.declared.Reader.{Reader}
use Rattle.replay_rows.specs.Rows.{Read, these, malformed, onto, ends, step, fresh, read_from, read_row, RowRead, Filled, row_length}

-- all places are filled
module _ (d : List ℕ) (from times x : ℕ) (h : from + times ≤ length d) where
  all_length : length (replicate times x) ≡ times
  all_length = length-replicate times x

  pub fill_all : (room : List ℕ) → room ≡ paste d from (replicate times x) times → Filled d from times x room
  fill_all room e =
      record {
        room_left = e;
        front = ap (take (from + times)) e ∙ take-paste d from (replicate times x) times (omega arith) (omega (arith, all_length))
            ∙ ap (λ (l : List ℕ). take from d ++ l) (take_all times (replicate times x) (omega (arith, all_length)));
        kept = ap length e ∙ length-paste d from (replicate times x) times h (omega (arith, all_length));
      }

onto_onto : (a b : List ℕ) (m : Read) → onto a (onto b m) ≡ onto (a ++ b) m
unfolding onto
onto_onto a b (these m) = rw append_assoc
onto_onto a b malformed = refl

onto_nil : (m : Read) → onto [] m ≡ m
unfolding onto
onto_nil (these m) = refl
onto_nil malformed = refl

module _ (s : List ℕ) (i most : ℕ) (r : Reader) (h : i < length s) where
  -- a number ends at i
  pub read_unbegun : ends (get_or s i 0) ≡ true → r.begun ≡ false → read_from most r (drop i s) ≡ malformed
  unfolding read_from
  read_unbegun e b = rw (drop_at s i h, e, b)

  pub read_full : ends (get_or s i 0) ≡ true → most < r.times → read_from most r (drop i s) ≡ malformed
  unfolding read_from
  read_full e t = rw (drop_at s i h, e, lt-leb r.times most t) (go r.begun)
    where
      go : (b : Bool) → cond (b && false) (onto (replicate r.times r.value) (read_from (most - r.times) fresh (drop (i + 1) s))) malformed ≡ malformed
      go true = refl
      go false = refl

  pub read_ended : ends (get_or s i 0) ≡ true → r.begun ≡ true → r.times ≤ most →
      read_from most r (drop i s) ≡ onto (replicate r.times r.value) (read_from (most - r.times) fresh (drop (i + 1) s))
  unfolding read_from
  read_ended e b t = rw (drop_at s i h, e, b, le-leb r.times most t)

  -- a byte of a number stands at i
  pub read_spoilt : ends (get_or s i 0) ≡ false → (step r (get_or s i 0)).ok ≡ false → read_from most r (drop i s) ≡ malformed
  unfolding read_from
  read_spoilt e o = rw (drop_at s i h, e, o)

  pub read_on : ends (get_or s i 0) ≡ false → (step r (get_or s i 0)).ok ≡ true → read_from most r (drop i s) ≡ read_from most (step r (get_or s i 0)) (drop (i + 1) s)
  unfolding read_from
  read_on e o = rw (drop_at s i h, e, o)

-- the row ends
pub read_cut : (s : List ℕ) (i most : ℕ) (r : Reader) → length s ≤ i → (r.begun || r.many) ≡ true → read_from most r (drop i s) ≡ malformed
unfolding read_from
read_cut s i most r h e = rw (drop_of_length-le s {i = i} h, e)

pub read_whole : (s : List ℕ) (i most : ℕ) (r : Reader) → length s ≤ i → (r.begun || r.many) ≡ false → read_from most r (drop i s) ≡ these []
unfolding read_from
read_whole s i most r h e = rw (drop_of_length-le s {i = i} h, e)

-- the numbers before i stand at the front of the room, and reading goes on from r
pub record Reading (row room₀ room : List ℕ) (n : ℕ) (r : Reader) (i : ℕ) : Type 0 where
  pub inside : i ≤ length row
  pub kept : length room ≡ length room₀
  pub within : n ≤ length room
  pub so_far : read_row (length room₀) row ≡ onto (take n room) (read_from (length room₀ - n) r (drop i row))

pub reading_start : (row room : List ℕ) → Reading row room room 0 fresh 0
reading_start row room =
    let size_less_zero : length room - 0 ≡ length room = omega arith in
    record { inside = omega arith; kept = refl; within = omega arith; so_far = rw size_less_zero (sym (onto_nil _)) }

module _ {row room₀ room : List ℕ} {n : ℕ} {r : Reader} {i : ℕ} (so : Reading row room₀ room n r i) where
  pub reading_malformed : read_from (length room₀ - n) r (drop i row) ≡ malformed → RowRead row room₀ None room
  unfolding onto
  reading_malformed e = record { numbers = sym (so.so_far ∙ ap (onto (take n room)) e); kept = so.kept; within = omega arith }

  pub reading_whole : read_from (length room₀ - n) r (drop i row) ≡ these [] → RowRead row room₀ (Some n) room
  unfolding onto
  reading_whole e =
      let by_append_nil = so.so_far ∙ ap (onto (take n room)) e ∙ ap these (append-nil (take n room)) in
      record { numbers = sym by_append_nil; kept = so.kept; within = so.within }

  pub reading_on : i < length row → {q : Reader} → read_from (length room₀ - n) r (drop i row) ≡ read_from (length room₀ - n) q (drop (i + 1) row) →
      Reading row room₀ room n q (i + 1)
  reading_on h e = record { inside = omega arith; kept = so.kept; within = so.within; so_far = so.so_far ∙ ap (onto (take n room)) e }

  -- a number is put into the room as often as it stands there
  pub reading_ended : i < length row → {room' : List ℕ} → Filled room n r.times r.value room' → n + r.times ≤ length room →
      read_from (length room₀ - n) r (drop i row)
      ≡ onto (replicate r.times r.value) (read_from (length room₀ - n - r.times) fresh (drop (i + 1) row)) →
      Reading row room₀ room' (n + r.times) fresh (i + 1)
  reading_ended h {room'} f t e =
      let difference_is : length room₀ - n - r.times ≡ length room₀ - (n + r.times) = omega arith in
      record {
        inside = omega arith;
        kept = f.kept ∙ so.kept;
        within = omega (arith, f.kept);
        so_far = so.so_far ∙ ap (onto (take n room)) e ∙ onto_onto (take n room) _ _ ∙ rw (← f.front, difference_is) refl;
      }

-- where a row ends
module _ (s : List ℕ) (i : ℕ) where
  pub row_end_here : i < length s → get_or s i 0 ≡ 10 → row_length (drop i s) ≡ 1
  unfolding row_length
  row_end_here h e = rw (drop_at s i h, e)

  pub row_end_on : i < length s → (get_or s i 0 ≡ 10 → ⊥) → row_length (drop i s) ≡ suc (row_length (drop (i + 1) s))
  unfolding row_length
  row_end_on h e = rw (drop_at s i h, ne_eqb (get_or s i 0) 10 e)

  pub row_end_cut : length s ≤ i → row_length (drop i s) ≡ 0
  unfolding row_length
  row_end_cut h = rw (drop_of_length-le s {i = i} h)
