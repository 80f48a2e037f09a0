-- Laws of folds moved to the front of their buffer: what one turn of the loop does, for a fold that is lost and for one that is kept (`Moved`).
-- On plain lists. Assumes nothing.
use Rattle.lists.proofs.Kit.{◌≡◌, refl, ap, sym, ◌∙◌, List, [], ◌∷◌, ◌++◌, append_assoc, append-nil, true, false, cond, ℕ, suc, ◌+◌, ◌-◌, ◌*◌, ◌≤◌, ◌<◌, max}
use Rattle.lists.proofs.Kit.{arith, length, get_or, set, take, drop, length-append, drop_of_length-le, drop-cons, length-take-le, get_or-take, sets-eq, length-sets}
use Rattle.edit_places.specs.Replaced.{replaced, zeros, refilled, Over}
use Rattle.edit_folds.specs.Folds.{kept_folds, is_lost, FoldsKept, FoldsMapped}
use Rattle.edit_places.proofs.Parts.{over_none, over_read, over_then}
use Rattle.edit_places.proofs.Closing.{closed}

-- three stores in a row
pub over_three : (l : List ℕ) (at x y z : ℕ) → at + 3 ≤ length l → Over l at (x ∷ y ∷ z ∷ []) (set (set (set l at x) (at + 1) y) (at + 2) z)
unfolding replaced
over_three l at x y z h =
    let at_plus_one : at + 1 ≡ suc at = omega arith in
    let at_plus_two : at + 2 ≡ suc (suc at) = omega arith in
    record { left = rw (at_plus_one, at_plus_two) (sets-eq (x ∷ y ∷ z ∷ []) l at h); size = rw (at_plus_one, at_plus_two) (length-sets l at (x ∷ y ∷ z ∷ [])) }

drop_three : (t : List ℕ) (j : ℕ) → j + 3 ≤ length t → drop j t ≡ get_or t j 0 ∷ get_or t (j + 1) 0 ∷ get_or t (j + 2) 0 ∷ drop (j + 3) t
drop_three t j h =
    let j_plus_one : j + 1 ≡ suc j = omega arith in
    let j_plus_two : j + 2 ≡ suc (suc j) = omega arith in
    let j_plus_three : j + 3 ≡ suc (suc (suc j)) = omega arith in
    rw (j_plus_one, j_plus_two, j_plus_three, drop-cons t j 0 (omega arith), drop-cons t (suc j) 0 (omega arith), drop-cons t (suc (suc j)) 0 (omega arith))

-- of n folds in e the first i are passed, and the w of them that are kept stand at the front of buf, as `done` says
pub record Moved (f : ℕ → ℕ) (e : List ℕ) (n i w : ℕ) (buf : List ℕ) : Type 0 where
  pub done : List ℕ
  pub inside : i ≤ n
  pub few : w ≤ i
  pub fits : 3 * n ≤ length e
  pub count : length done ≡ 3 * w
  pub front : Over e 0 done buf
  pub all : kept_folds f (take (3 * n) e) ≡ done ++ kept_folds f (drop (3 * i) (take (3 * n) e))

pub moved_none : (f : ℕ → ℕ) (e : List ℕ) (n : ℕ) → 3 * n ≤ length e → Moved f e n 0 0 e
moved_none f e n h =
    record { done = []; inside = omega arith; few = omega arith; fits = h; count = refl; front = over_none e 0; all = refl }

module _ {f : ℕ → ℕ} {e buf : List ℕ} {n i w : ℕ} (m : Moved f e n i w buf) where
  pub moved_read : (j : ℕ) → 3 * i ≤ j → get_or buf j 0 ≡ get_or e j 0
  moved_read j h = over_read m.front (omega arith) j (omega (arith, m.count, m.few))

  module _ (h : i < n) where
    -- the next fold
    next_is : kept_folds f (drop (3 * i) (take (3 * n) e)) ≡ (let value = get_or buf (3 * i) 0 in
        let value_there = get_or buf (3 * i + 1) 0 in
        let r = kept_folds f (drop (3 * (i + 1)) (take (3 * n) e)) in
        cond (is_lost value value_there (f value) (f value_there)) r (f value ∷ f value_there ∷ get_or buf (3 * i + 2) 0 ∷ r))
    unfolding kept_folds
    next_is =
        let size_is : length (take (3 * n) e) ≡ 3 * n = length-take-le (3 * n) e m.fits in
        let product_is : 3 * (i + 1) ≡ 3 * i + 3 = omega arith in
        rw (
          product_is,
          drop_three (take (3 * n) e) (3 * i) (omega arith),
          get_or-take (3 * n) e (3 * i) 0 (omega arith),
          get_or-take (3 * n) e (3 * i + 1) 0 (omega arith),
          get_or-take (3 * n) e (3 * i + 2) 0 (omega arith),
          moved_read (3 * i) (omega arith),
          moved_read (3 * i + 1) (omega arith),
          moved_read (3 * i + 2) (omega arith),
        )

    module _ {x y : ℕ} (x_is : x ≡ f (get_or buf (3 * i) 0)) (y_is : y ≡ f (get_or buf (3 * i + 1) 0)) where
      pub moved_lost : is_lost (get_or buf (3 * i) 0) (get_or buf (3 * i + 1) 0) x y ≡ true → Moved f e n (i + 1) w buf
      moved_lost lost =
          let here = rw (x_is, y_is) at lost in
          record {
            done = m.done;
            inside = omega arith;
            few = omega (arith, m.few);
            fits = m.fits;
            count = m.count;
            front = m.front;
            all = m.all ∙ ap (λ (l : List ℕ). m.done ++ l) (next_is ∙ rw here);
          }

      pub moved_kept : is_lost (get_or buf (3 * i) 0) (get_or buf (3 * i + 1) 0) x y ≡ false → {buf' : List ℕ} →
          Over buf (3 * w) (x ∷ y ∷ get_or buf (3 * i + 2) 0 ∷ []) buf' → Moved f e n (i + 1) (w + 1) buf'
      moved_kept kept {buf'} o =
          let here = rw (x_is, y_is) at kept in
          let value = get_or buf (3 * i + 2) 0 in
          let r = kept_folds f (drop (3 * (i + 1)) (take (3 * n) e)) in
          let longer = x ∷ y ∷ value ∷ [] in
          record {
            done = m.done ++ longer;
            inside = omega arith;
            few = omega (arith, m.few);
            fits = m.fits;
            count = omega (arith, length-append m.done longer, m.count);
            front = over_then m.front (omega arith) o (omega (arith, m.count));
            all = m.all ∙ ap (λ (l : List ℕ). m.done ++ l) (next_is ∙ rw (here, ← x_is, ← y_is)) ∙ sym (append_assoc m.done longer r);
          }

  pub moved_all : n ≤ i → FoldsKept f e n w buf
  unfolding kept_folds
  moved_all h =
      let size_is : length (take (3 * n) e) ≡ 3 * n = length-take-le (3 * n) e m.fits in
      let kept_folds_is : kept_folds f (take (3 * n) e) ≡ m.done =
      m.all ∙ rw (drop_of_length-le (take (3 * n) e) {i = 3 * i} (omega arith)) (append-nil m.done) in
      record { count = ap length kept_folds_is ∙ m.count; front = rw kept_folds_is m.front; fewer = omega (arith, m.few, m.inside) }

-- and zeros behind those that are kept
pub folds_mapped : {f : ℕ → ℕ} {e buf buf' : List ℕ} {n r at z : ℕ} → FoldsKept f e n r buf → Over buf at (zeros z) buf' → 3 * n ≤ length e →
    at ≡ 3 * r → z ≡ 3 * n - 3 * r → FoldsMapped f e n r buf'
unfolding refilled
folds_mapped {f} {e} {buf} {buf'} {n} {r} {at} {z} k o h at_is count =
    let kept_folds_lem = kept_folds f (take (3 * n) e) in
    let its_count = k.count in
    let fewer = k.fewer in
    let z_is : z ≡ 3 * n - length kept_folds_lem = omega arith in
    let thrice_n : 3 * n ≡ max (3 * n) (length kept_folds_lem) = omega arith in
    let whole = closed e (3 * n) 0 kept_folds_lem h (omega arith) k.front o (omega arith) (omega arith) (omega arith) in
    record {
      count = its_count;
      folds = record { left = whole ∙ rw (z_is, ← thrice_n); size = o.size ∙ k.front.size };
    }
