-- Laws of the code points of a byte string, for `decode`, `decode_two` and what `exports` says of them.
-- Assumes nothing.
use Rattle.lists.proofs.Kit.{◌≡◌, refl, ap, sym, ◌∙◌, List, [], ◌∷◌, ◌++◌, append-nil, ℕ, zero, suc, ◌+◌, ◌*◌, ◌/◌, ◌-◌, ◌≤◌, ◌<◌, add-one, arith, length, get_or}
use Rattle.lists.proofs.Kit.{take, drop, set, length-take, length-drop, length-append, drop_of_length-le, drop-cons, set_at, take-suc, append_snoc}
use Rattle.lists.proofs.Kit.{length-take-le, take_at, take_all, drop-drop}
use lib.Seq.{drop_at as drop_seam}
use Rattle.call_points.specs.Points.{points, word, filled, filled_two, filled_all, Two, Three}

pub length_points : (s : List ℕ) → length (points s) ≡ length s / 4
unfolding points
length_points [] = refl
length_points (a ∷ []) = refl
length_points (a ∷ b ∷ []) = refl
length_points (a ∷ b ∷ c ∷ []) = refl
length_points (a ∷ b ∷ c ∷ d ∷ s) = omega (arith, length_points s)

-- four bytes on
skip : (a b c d : ℕ) (s : List ℕ) (m n : ℕ) → m ≡ 4 + n → get_or (a ∷ b ∷ c ∷ d ∷ s) m 0 ≡ get_or s n 0
skip a b c d s m n e =
    let m_is : m ≡ suc (suc (suc (suc n))) = omega arith in
    rw m_is

-- the code point at an index
pub point_at : (s : List ℕ) (i : ℕ) → i < length s / 4 →
    get_or (points s) i 0 ≡ word (get_or s (4 * i) 0) (get_or s (4 * i + 1) 0) (get_or s (4 * i + 2) 0) (get_or s (4 * i + 3) 0)
unfolding points
point_at [] i h = absurd (omega arith)
point_at (a ∷ []) i h = absurd (omega arith)
point_at (a ∷ b ∷ []) i h = absurd (omega arith)
point_at (a ∷ b ∷ c ∷ []) i h = absurd (omega arith)
point_at (a ∷ b ∷ c ∷ d ∷ s) zero h = refl
point_at (a ∷ b ∷ c ∷ d ∷ s) (suc i) h = rw (
  skip a b c d s (4 * suc i) (4 * i) (omega arith),
  skip a b c d s (4 * suc i + 1) (4 * i + 1) (omega arith),
  skip a b c d s (4 * suc i + 2) (4 * i + 2) (omega arith),
  skip a b c d s (4 * suc i + 3) (4 * i + 3) (omega arith),
) (point_at s i (omega arith))

-- storing the next code point
pub fill_on : (p d room : List ℕ) (i : ℕ) → room ≡ take i p ++ drop i d → i < length p → i < length d →
    set room i (get_or p i 0) ≡ take (i + 1) p ++ drop (i + 1) d
fill_on p d room i e hp hd =
    let size_is : length (take i p) ≡ i = length-take-le i p (omega arith) in
    rw (e, add-one, drop-cons d i 0 hd, set_at (take i p) (get_or d i 0) (drop (suc i) d) (get_or p i 0) i size_is, take-suc p i 0 hp)
    (sym (append_snoc (take i p) (get_or p i 0) (drop (suc i) d)))

pub fill_length : (p d : List ℕ) (i : ℕ) → i ≤ length p → i ≤ length d → length (take i p ++ drop i d) ≡ length d
fill_length p d i hp hd = simp (length-append, length-take, length-drop) (omega arith)

-- all are stored
pub filled_all_lem : (s d room : List ℕ) → room ≡ take (length s / 4) (points s) ++ drop (length s / 4) d → room ≡ filled s d
filled_all_lem s d room e = e ∙ ap (λ (l : List ℕ). l ++ drop (length s / 4) d) (take_all (length s / 4) (points s) (omega (arith, length_points s)))

pub take_filled : (s d room : List ℕ) → room ≡ filled s d → take (length s / 4) room ≡ points s
take_filled s d room e = rw e (take_at (points s) (drop (length s / 4) d) (length s / 4) (length_points s))

-- more decoded behind a first list, by f: xs is the room after the first, ys its rest after f
module _ (s room xs ys : List ℕ) (r : ℕ) (f : List ℕ → List ℕ) (count : r ≡ length s / 4) (ex : xs ≡ filled s room)
    (ey : ys ≡ f (take (length xs - r) (drop r xs))) where
  front_is : take r xs ≡ points s
  front_is = rw count (take_filled s room xs ex)

  rest_is : drop r xs ≡ drop r room
  rest_is = rw (ex, count) (drop_seam (points s) (drop (length s / 4) room) (length s / 4) (length_points s))

  all_is : take (length xs - r) (drop r xs) ≡ drop r xs
  all_is = take_all (length xs - r) (drop r xs) (omega (arith, length-drop r xs))

  none_is : drop (length xs - r) (drop r xs) ≡ []
  none_is = drop_of_length-le (drop r xs) {i = length xs - r} (omega (arith, length-drop r xs))

  behind_is : ys ≡ f (drop (length s / 4) room)
  behind_is = ey ∙ ap f (all_is ∙ rest_is ∙ ap (λ (n : ℕ). drop n room) count)

  pub whole_is : take r xs ++ (ys ++ drop (length xs - r) (drop r xs)) ≡ points s ++ f (drop (length s / 4) room)
  whole_is = rw (none_is, append-nil ys, front_is, behind_is)

-- the parts of a room in which lists stand one after the other
module _ (s p room : List ℕ) (e : room ≡ points s ++ p) where
  part_first : take (length s / 4) room ≡ points s
  part_first = rw e (take_at (points s) p (length s / 4) (length_points s))

  part_rest : drop (length s / 4) room ≡ p
  part_rest = rw e (drop_seam (points s) p (length s / 4) (length_points s))

  part_length : length room ≡ length s / 4 + length p
  part_length = rw e (simp (length-append, length_points))

pub two_is : (s u room room' : List ℕ) → room' ≡ points s ++ filled u (drop (length s / 4) room) → length s / 4 + length u / 4 ≤ length room →
    Two s u room room'
two_is s u room room' w h =
    let rest = filled u (drop (length s / 4) room) in
    let last = drop (length u / 4) (drop (length s / 4) room) in
    let ls = length-drop (length s / 4) room in
    let lu = length-drop (length u / 4) (drop (length s / 4) room) in
    record {
      room_left = w ∙ ap (λ (l : List ℕ). points s ++ (points u ++ l)) (drop-drop (length u / 4) (length s / 4) room);
      within = omega (arith, part_length s rest room' w, part_length u last rest refl, ls, lu);
      first = part_first s rest room' w;
      second = rw (part_rest s rest room' w) (part_first u last rest refl);
    }

pub three_is : (s u v room room' : List ℕ) → room' ≡ points s ++ filled_two u v (drop (length s / 4) room) →
    length s / 4 + (length u / 4 + length v / 4) ≤ length room → Three s u v room room'
unfolding filled_all
three_is s u v room room' w h =
    let rest = filled_two u v (drop (length s / 4) room) in
    let by_part_rest = part_rest s rest room' w in
    let last = drop (length u / 4 + length v / 4) (drop (length s / 4) room) in
    let joined_is : drop (length u / 4) (drop (length s / 4) room') ≡ points v ++ last = rw by_part_rest (part_rest u (points v ++ last) rest refl) in
    let ls = length-drop (length s / 4) room in
    let luv = length-drop (length u / 4 + length v / 4) (drop (length s / 4) room) in
    record {
      room_left = w ∙ ap (λ (l : List ℕ). points s ++ (points u ++ (points v ++ l))) (sym (drop-drop (length v / 4) (length u / 4) (drop (length s / 4) room)));
      within = omega (arith, part_length s rest room' w, part_length u (points v ++ last) rest refl, part_length v last (points v ++ last) refl, ls, luv);
      first = part_first s rest room' w;
      second = rw by_part_rest (part_first u (points v ++ last) rest refl);
      third = rw (sym (drop-drop (length u / 4) (length s / 4) room'), joined_is) (part_first v last (points v ++ last) refl);
    }
