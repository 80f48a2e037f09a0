-- The invariant of the loop over the jumps: the places of the first i numbers are written, and what is left from the place reached is what is left of all.
-- Assumes nothing.
use Rattle.lists.proofs.Kit.{◌≡◌, refl, ap, sym, subst, ◌∙◌, List, [], ◌∷◌, ℕ, ◌+◌, ◌≤◌, ◌<◌, ℕ_discrete, arith, length, get_or, drop, length-drop, get_or-drop}
use Rattle.lists.proofs.Kit.{drop-drop}
use Rattle.text.specs.declared.Position.{Position}
use Rattle.edit_places.specs.Replaced.{Over}
use Rattle.edit_places.proofs.Puts.{Up, up_none, up_next, up_all}
use Rattle.jumps.specs.Jumps.{kind_refusal}
use Rattle.word_kinds.specs.declared.Spot.{Spot}
use Rattle.word_kinds.specs.Spots.{place_of, IsSpot}
use Rattle.fold_stretches.specs.declared.Stretch.{Stretch}
use Rattle.fold_stretches.specs.Stretches.{NoFold}
use Rattle.jumps.specs.Leaps.{two_places, leapt, leap_places, leap_end, Ran}
use Rattle.jumps.proofs.Pairs.{pair_at, none_left, kinds_odd}
use Rattle.jumps.proofs.Single.{kinds_first, kinds_one}

-- what a rest that begins with two numbers says of its list
module _ (l : List ℕ) (i x y : ℕ) (r : List ℕ) (e : drop i l ≡ x ∷ y ∷ r) where
  two_inside : i + 1 < length l
  two_inside = omega (arith, length-drop i l, ap length e)

  first_read : x ≡ get_or l i 0
  first_read =
      let i_plus_zero : i + 0 ≡ i = omega arith in
      ap (λ (q : List ℕ). get_or q 0 0) (sym e) ∙ rw i_plus_zero at (get_or-drop i l 0 0)

  second_read : y ≡ get_or l (i + 1) 0
  second_read = ap (λ (q : List ℕ). get_or q 1 0) (sym e) ∙ get_or-drop i l 1 0

  two_rest : drop (i + 2) l ≡ r
  two_rest = sym (drop-drop 2 i l) ∙ ap (drop 2) e

module _ (t folds : List ℕ) (class : ℕ → ℕ) where
  -- two places for each jump
  pub places_length : (jumps : List ℕ) (p : Position) → kind_refusal jumps ≡ 0 → length (leap_places t folds class jumps p) ≡ length jumps
  unfolding leap_places
  places_length [] p z = refl
  places_length (kind ∷ []) p z = absurd (kinds_one kind z)
  places_length (kind ∷ count ∷ jumps) p z = omega (arith, places_length jumps (leapt t folds class kind count p) (kinds_first kind count jumps z).1)

  pub record Running (jumps answers : List ℕ) (p : Position) (i : ℕ) (buf : List ℕ) (q : Position) : Type 0 where
    pub written : Up answers 0 (leap_places t folds class jumps p) i buf
    pub rest : drop i (leap_places t folds class jumps p) ≡ leap_places t folds class (drop i jumps) q
    pub end : leap_end t folds class jumps p ≡ leap_end t folds class (drop i jumps) q
    pub kinds : kind_refusal (drop i jumps) ≡ 0
    pub inside : i ≤ length jumps
    pub room : length jumps ≤ length buf

  pub running_first : (jumps answers : List ℕ) (p : Position) → kind_refusal jumps ≡ 0 → length jumps ≤ length answers → Running jumps answers p 0 answers p
  running_first jumps answers p z h =
      record {
        written = up_none answers 0 (leap_places t folds class jumps p) (omega (arith, places_length jumps p z));
        rest = refl;
        end = refl;
        kinds = z;
        inside = omega arith;
        room = h;
      }

module _ {t folds : List ℕ} {class : ℕ → ℕ} {jumps answers : List ℕ} {p : Position} {i : ℕ} {buf : List ℕ} {q : Position}
    (at : Running t folds class jumps answers p i buf q) where
  -- a kind and a count are left
  pub running_two : i < length jumps → i + 1 < length jumps
  running_two h = go (ℕ_discrete (i + 1) (length jumps))
    where
      go : Dec (i + 1 ≡ length jumps) → i + 1 < length jumps
      go (yes e) = absurd (omega (arith, kinds_odd jumps i e, at.kinds))
      go (no n) = omega (arith, n)

  module _ (h : i + 1 < length jumps) {next : Position} (to : next ≡ leapt t folds class (get_or jumps i 0) (get_or jumps (i + 1) 0) q) where
    left : kind_refusal (get_or jumps i 0 ∷ get_or jumps (i + 1) 0 ∷ drop (i + 2) jumps) ≡ 0
    left = ap kind_refusal (sym (pair_at jumps i h)) ∙ at.kinds

    places : drop i (leap_places t folds class jumps p) ≡ next.row ∷ next.col ∷ leap_places t folds class (drop (i + 2) jumps) next
    unfolding leap_places
    places = at.rest ∙ rw (pair_at jumps i h, to)

    ends : leap_end t folds class jumps p ≡ leap_end t folds class (drop (i + 2) jumps) next
    unfolding leap_end
    ends = at.end ∙ rw (pair_at jumps i h, to)

    pub running_next : {buf' : List ℕ} → buf' ≡ two_places buf i next → Running t folds class jumps answers p (i + 2) buf' next
    running_next {buf'} e =
        let all = leap_places t folds class jumps p in
        let more = two_inside all i _ _ _ places in
        let one = up_next at.written (omega arith) (first_read all i _ _ _ places) in
        let two = up_next one (omega arith) (second_read all i _ _ _ places) in
        let sum_is : i + 1 + 1 ≡ i + 2 = omega arith in
        let zero_plus_i : 0 + i ≡ i = omega arith in
        let i_plus_one_is : 0 + (i + 1) ≡ i + 1 = omega arith in
        let wrote : Up answers 0 all (i + 2) (two_places buf i next) = rw (zero_plus_i, i_plus_one_is, sum_is) at two in
        record {
          written = rw e wrote;
          rest = two_rest all i _ _ _ places;
          end = ends;
          kinds = (kinds_first _ _ _ left).1;
          inside = omega arith;
          room = rw e (omega (arith, wrote.size, at.written.size, at.room));
        }

  pub running_places : length jumps ≤ i → Over answers 0 (leap_places t folds class jumps p) buf
  unfolding leap_places
  running_places h =
      let none : drop i (leap_places t folds class jumps p) ≡ [] = at.rest ∙ rw (none_left jumps i h) in
      up_all at.written (omega (arith, length-drop i (leap_places t folds class jumps p), ap length none))

  pub running_end : length jumps ≤ i → leap_end t folds class jumps p ≡ q
  unfolding leap_end
  running_end h = at.end ∙ rw (none_left jumps i h)

-- and in the code: a spot at the place reached, and a stretch of rows without closed folds
pub record OnTheWay (t folds : List ℕ) (class : ℕ → ℕ) (jumps answers : List ℕ) (from : Spot) (n i : ℕ) (buf : List ℕ) (cur : Spot) (w : Stretch) : Type 0 where
  pub running : Running t folds class jumps answers (place_of t from) i buf (place_of t cur)
  pub spot : IsSpot t cur
  pub bare : NoFold folds w
  pub all : n ≡ length jumps

-- by another class function that is the same
pub ran_as : {t folds jumps answers answers' : List ℕ} {class other : ℕ → ℕ} {p : Position} {r : Spot} → class ≡ other →
    Ran t folds class jumps answers p r answers' → Ran t folds other jumps answers p r answers'
ran_as {t} {folds} {jumps} {answers} {answers'} {class} {other} {p} {r} e ran = subst (λ (f : ℕ → ℕ). Ran t folds f jumps answers p r answers') e ran
