-- Laws of the loops over marks: the first that is true, and what has none, from an index on. Assumes nothing.
use Rattle.lists.proofs.Kit.{◌≡◌, refl, ap, sym, ◌∙◌, List, [], ◌∷◌, ◌++◌, Bool, true, false, ℕ, suc, ◌+◌, ◌≤◌, ◌<◌, zero-add, add-one, arith, length, get_or}
use Rattle.lists.proofs.Kit.{take, drop, set, drop_of_length-le, length-drop, length-set, drop-drop, get_or-drop, take-length, paste-suc}
use Rattle.lists.proofs.Lists.{drop_at_of as drop_at}
use Rattle.list_signs.specs.Plain.{first_in, without}

module _ (l : List ℕ) (ms : List Bool) (i : ℕ) where
  pub first_hit : i < length l → i < length ms → get_or ms i false ≡ true → first_in (drop i l) (drop i ms) ≡ 0
  unfolding first_in
  first_hit h k e = rw (drop_at l i 0 h, drop_at ms i false k, e)

  pub first_on : i < length l → i < length ms → get_or ms i false ≡ false → first_in (drop i l) (drop i ms) ≡ first_in (drop (i + 1) l) (drop (i + 1) ms) + 1
  unfolding first_in
  first_on h k e = rw (drop_at l i 0 h, drop_at ms i false k, e) (sym (add-one _))

  pub first_end : length l ≤ i → first_in (drop i l) (drop i ms) ≡ 0
  unfolding first_in
  first_end h = rw (drop_of_length-le l h)

  pub without_skip : i < length l → i < length ms → get_or ms i false ≡ true → without (drop i l) (drop i ms) ≡ without (drop (i + 1) l) (drop (i + 1) ms)
  unfolding without
  without_skip h k e = rw (drop_at l i 0 h, drop_at ms i false k, e)

  pub without_keep : i < length l → i < length ms → get_or ms i false ≡ false →
      without (drop i l) (drop i ms) ≡ get_or l i 0 ∷ without (drop (i + 1) l) (drop (i + 1) ms)
  unfolding without
  without_keep h k e = rw (drop_at l i 0 h, drop_at ms i false k, e)

  pub without_end : length l ≤ i → without (drop i l) (drop i ms) ≡ []
  unfolding without
  without_end h = rw (drop_of_length-le l h)

length_some : {A : Type 0} (l : List A) (n : ℕ) (x : A) (r : List A) → drop n l ≡ x ∷ r → n < length l
length_some l n x r e = omega (arith, ap length e, length-drop n l)

next_drop : {A : Type 0} (l : List A) (n : ℕ) (x : A) (r : List A) → drop n l ≡ x ∷ r → drop (n + 1) l ≡ r
next_drop {A = A} l n x r e = sym (drop-drop 1 n l) ∙ ap (λ (q : List A). drop 1 q) e

this_drop : (l : List ℕ) (n x : ℕ) (r : List ℕ) → drop n l ≡ x ∷ r → get_or l n 0 ≡ x
this_drop l n x r e =
    let n_plus_zero : n + 0 ≡ n = omega arith in ap (λ (k : ℕ). get_or l k 0) (sym n_plus_zero) ∙ sym (get_or-drop n l 0 0) ∙ ap (λ (q : List ℕ). get_or q 0 0) e

-- the loop that copies: n are written, i are read
module _ (l : List ℕ) (ms : List Bool) (room : List ℕ) where
  pub record Writing (left : List ℕ) (n i : ℕ) : Type 0 where
    pub few : n ≤ length (without l ms)
    pub rest : drop n (without l ms) ≡ without (drop i l) (drop i ms)
    pub is : left ≡ take n (without l ms) ++ drop n room
    pub same : length left ≡ length room

  pub writing_start : Writing room 0 0
  writing_start = record { few = omega arith; rest = refl; is = refl; same = refl }

  module _ (left : List ℕ) (n i : ℕ) (w : Writing left n i) (h : i < length l) (k : i < length ms) where
    pub writing_skip : get_or ms i false ≡ true → Writing left n (i + 1)
    writing_skip e = record { few = w.few; rest = w.rest ∙ without_skip l ms i h k e; is = w.is; same = w.same }

    module _ (e : get_or ms i false ≡ false) where
      go : drop n (without l ms) ≡ get_or l i 0 ∷ without (drop (i + 1) l) (drop (i + 1) ms)
      go = w.rest ∙ without_keep l ms i h k e

      pub writing_room : n < length (without l ms)
      writing_room = length_some (without l ms) n _ _ go

      pub writing_keep : length (without l ms) ≤ length room → Writing (set left n (get_or l i 0)) (n + 1) (i + 1)
      writing_keep r =
          let value_is : get_or (without l ms) n 0 ≡ get_or l i 0 = this_drop (without l ms) n _ _ go in
          let step : set (take n (without l ms) ++ drop (0 + n) room) (0 + n) (get_or (without l ms) n 0) ≡ take (suc n) (without l ms) ++ drop (0 + suc n) room =
          paste-suc room 0 (without l ms) n 0 (omega (arith, writing_room)) writing_room in
          let changed_is : set (take n (without l ms) ++ drop n room) n (get_or (without l ms) n 0) ≡ take (n + 1) (without l ms) ++ drop (n + 1) room =
          rw (add-one n) (rw (zero-add n, zero-add (suc n)) at step) in
          record {
            few = omega (arith, writing_room);
            rest = next_drop (without l ms) n _ _ go;
            is = rw (w.is, ← value_is) changed_is;
            same = length-set left n (get_or l i 0) ∙ w.same;
          }

  pub writing_end : (left : List ℕ) (n i : ℕ) → Writing left n i → length l ≤ i → left ≡ without l ms ++ drop (length (without l ms)) room
  writing_end left n i w h =
      let rest_is : drop n (without l ms) ≡ [] = w.rest ∙ without_end l ms i h in
      let n_is : n ≡ length (without l ms) = omega (arith, ap length rest_is, length-drop n (without l ms), w.few) in
      w.is ∙ rw (n_is, take-length (without l ms))
