-- Laws of the parts of a list with a part replaced, and of one write behind another (`Over`). On plain lists. Assumes nothing.
use Rattle.lists.proofs.Kit.{◌≡◌, refl, ap, sym, ◌∙◌, List, [], ◌++◌, append_assoc, append-nil, ℕ, ◌+◌, ◌-◌, ◌≤◌, arith, length, get_or, take, drop}
use Rattle.lists.proofs.Kit.{length-append, length-drop, take-append-drop, take_at, drop_at, length-take-le, take-take, drop-drop, take-append-le, get_or-drop}
use Rattle.edit_places.specs.Replaced.{replaced, Over}

-- the parts of a list with a part replaced: before it, from it on, up to its end, and j behind its end
module _ (e : List ℕ) (a b : ℕ) (c : List ℕ) (fits : a ≤ length e) where
  front_length : length (take a e) ≡ a
  front_length = length-take-le a e fits

  through_length : length (take a e ++ c) ≡ a + length c
  through_length = length-append (take a e) c ∙ ap (λ (n : ℕ). n + length c) front_length

  pub replaced_front : (x : ℕ) → x ≤ a → take x (replaced e a b c) ≡ take x e
  unfolding replaced
  replaced_front x h =
      let by_front_length = front_length in
      rw (append_assoc (take a e) c (drop b e)) (take-append-le x (take a e) (c ++ drop b e) (omega arith) ∙ take-take x a e h)

  pub replaced_rest : drop a (replaced e a b c) ≡ c ++ drop b e
  unfolding replaced
  replaced_rest = rw (append_assoc (take a e) c (drop b e)) (drop_at (take a e) (c ++ drop b e) a front_length)

  pub replaced_through : take (a + length c) (replaced e a b c) ≡ take a e ++ c
  unfolding replaced
  replaced_through = take_at (take a e ++ c) (drop b e) (a + length c) through_length

  pub replaced_behind : (j : ℕ) → drop (a + length c + j) (replaced e a b c) ≡ drop (b + j) e
  unfolding replaced
  replaced_behind j = sym (drop-drop j (a + length c) (take a e ++ c ++ drop b e))
      ∙ ap (drop j) (drop_at (take a e ++ c) (drop b e) (a + length c) through_length) ∙ drop-drop j b e

  pub replaced_length : length (replaced e a b c) ≡ a + length c + (length e - b)
  unfolding replaced
  replaced_length =
      length-append (take a e ++ c) (drop b e) ∙ ap (λ (n : ℕ). n + length (drop b e)) through_length ∙ ap (λ (n : ℕ). a + length c + n) (length-drop b e)

-- one write after another: the second begins where the first ends
module _ {e d buf : List ℕ} {at : ℕ} (u : Over e at d buf) (fits : at ≤ length e) where
  pub over_behind : (j : ℕ) → drop (at + length d + j) buf ≡ drop (at + length d + j) e
  over_behind j = rw u.left (replaced_behind e at (at + length d) d fits j)

  pub over_read : (j : ℕ) → at + length d ≤ j → get_or buf j 0 ≡ get_or e j 0
  over_read j h =
      let i = j - (at + length d) in
      let sum_is : at + length d + i ≡ j = omega arith in
      let j_plus_zero : j + 0 ≡ j = omega arith in
      let rest : drop j buf ≡ drop j e = rw sum_is at (over_behind i) in
      rw j_plus_zero at (sym (get_or-drop j buf 0 0)) ∙ ap (λ (l : List ℕ). get_or l 0 0) rest ∙ rw j_plus_zero at (get_or-drop j e 0 0)

  pub over_then : {v buf' : List ℕ} {end : ℕ} → Over buf end v buf' → end ≡ at + length d → Over e at (d ++ v) buf'
  unfolding replaced
  over_then {v} {buf'} {end} w q =
      let front : take (at + length d) buf ≡ take at e ++ d = rw u.left (replaced_through e at (at + length d) d fits) in
      let sum_is : at + length (d ++ v) ≡ at + length d + length v = omega (arith, length-append d v) in
      record {
        left = w.left
            ∙ rw (q, front, over_behind (length v), sum_is) (ap (λ (l : List ℕ). l ++ drop (at + length d + length v) e) (append_assoc (take at e) d v));
        size = w.size ∙ u.size;
      }

pub over_none : (e : List ℕ) (at : ℕ) → Over e at [] e
unfolding replaced
over_none e at =
    let at_plus_zero : at + 0 ≡ at = omega arith in
    record { left = rw (at_plus_zero, append-nil (take at e)) (sym (take-append-drop at e)); size = refl }
