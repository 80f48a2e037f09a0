-- Laws of the second pass: the writing goes on by a code point, and ends with all of them written. Assumes nothing.
use Rattle.lists.proofs.Kit.{◌≡◌, refl, ap, sym, ◌∙◌, List, [], ◌∷◌, ◌++◌, false, ℕ, ◌+◌, ◌-◌, ◌≤◌, ◌<◌, add-one, dec_lt, arith, length, get_or, take, drop, set}
use Rattle.lists.proofs.Kit.{length-set, length-drop, drop_of_length-le, take-append-drop, take-suc, take-suc-set, take_all, drop-set-lt, drop-drop}
use Rattle.lists.specs.Lists.{any}
use Rattle.lists.proofs.Lists.{drop_at}
use Rattle.std.proofs.Common.{Result, Ok, Err}
use Rattle.std.specs.Result.{IsOk}
use Rattle.utf8.specs.declared.BadAt.{BadAt}
use Rattle.utf8.specs.declared.Spot.{Spot}
use Rattle.utf8.specs.Encoding.{is_above}
use Rattle.utf8.specs.Decoding.{Reading, text, bad, onto, reading, reading_from}
use Rattle.utf8.specs.Sequences.{Stepped}
use Rattle.utf8.specs.Walks.{points_of, Holds, Wrote}

-- the first of a text that is read
onto_text : (x : ℕ) (r : Reading) (l : List ℕ) → text l ≡ onto x r → (u : List ℕ) × (r ≡ text u) × (l ≡ x ∷ u)
unfolding onto
onto_text x (text u) l e = let l_is : l ≡ x ∷ u = cc in (u, refl, l_is)
onto_text x (bad n) l e = let never : ◌≡◌ {A = ℕ} 0 1 = cc in absurd (omega arith)

drop_first : (t : List ℕ) (n x : ℕ) (u : List ℕ) → drop n t ≡ x ∷ u → (n < length t) × (get_or t n 0 ≡ x) × (drop (n + 1) t ≡ u)
drop_first t n x u e = go (dec_lt n (length t))
  where
    go : Dec (n < length t) → (n < length t) × (get_or t n 0 ≡ x) × (drop (n + 1) t ≡ u)
    go (yes h) =
        let list_is : get_or t n 0 ∷ drop (n + 1) t ≡ x ∷ u = sym (drop_at t n h) ∙ e in
        let value_is : get_or t n 0 ≡ x = cc in
        let rest_is : drop (n + 1) t ≡ u = cc in
        (h, value_is, rest_is)
    go (no h) =
        let value_is : [] ≡ x ∷ u = sym (drop_of_length-le t {i = n} (omega arith)) ∙ e in
        let never : ◌≡◌ {A = ℕ} 0 1 = cc in
        absurd (omega arith)

drop_more : (n : ℕ) (p q : List ℕ) → drop n p ≡ drop n q → drop (n + 1) p ≡ drop (n + 1) q
drop_more n p q e = sym (drop-drop 1 n p) ∙ ap (drop 1) e ∙ drop-drop 1 n q

-- where a loop of the second pass stands: room is what the places held before it, with so many code points
pub record Going (b room : List ℕ) (before at n : ℕ) (points : List ℕ) : Type 0 where
  pub holds : Holds b at n points
  pub onward : before ≤ n
  pub kept : drop n points ≡ drop n room
  pub size : length points ≡ length room

-- and the bytes up to `until` are ASCII
pub record Widening (b room : List ℕ) (before until at n : ℕ) (points : List ℕ) : Type 0 where
  pub going : Going b room before at n points
  pub ascii : any is_above (take (until - at) (drop at b)) ≡ false

pub going_start : {b room : List ℕ} {at n : ℕ} → Holds b at n room → Going b room n at n room
going_start h = record { holds = h; onward = omega arith; kept = refl; size = refl }

pub going_wrote : {b room points : List ℕ} {before at n until : ℕ} → Going b room before at n points → until ≤ at →
    Wrote b room before until (record { at = at; count = n }) points
going_wrote g h = record { holds = g.holds; reached = h; onward = g.onward; kept = g.kept; size = g.size }

-- one stretch after another
pub going_then :
    {b room points : List ℕ} {before at n until : ℕ} {r : Spot} {points' : List ℕ} → Going b room before at n points → Wrote b points n until r points' →
    Going b room before r.at r.count points'
going_then {b} {room} {points} {before} {at} {n} {until} {r} {points'} g w =
    let count = r.count in
    let m_is : count ≡ n + (count - n) = omega (arith, w.onward) in
    let same : drop count points ≡ drop count room =
    ap (λ (k : ℕ). drop k points) m_is ∙ sym (drop-drop (count - n) n points) ∙ ap (drop (count - n)) g.kept ∙ drop-drop (count - n) n room
    ∙ ap (λ (k : ℕ). drop k room) (sym m_is) in
    record { holds = w.holds; onward = omega (arith, w.onward, g.onward); kept = w.kept ∙ same; size = w.size ∙ g.size }

module _ {b room points : List ℕ} {before at n : ℕ} (g : Going b room before at n points) where
  module _ (x next : ℕ) (e : reading_from at (drop at b) ≡ onto x (reading_from next (drop next b))) where
    found : (u : List ℕ) × (reading_from next (drop next b) ≡ text u) × (drop n (points_of b) ≡ x ∷ u)
    found = onto_text x (reading_from next (drop next b)) (drop n (points_of b)) (sym g.holds.rest ∙ e)

    next_is : (n < length (points_of b)) × (get_or (points_of b) n 0 ≡ x) × (drop (n + 1) (points_of b) ≡ found.0)
    next_is = drop_first (points_of b) n x found.0 found.2

    -- there is a place for it
    pub going_room : n < length points
    going_room = omega (arith, next_is.0, g.holds.room)

    pub going_on_lem : next ≤ length b → Going b room before next (n + 1) (set points n x)
    going_on_lem h =
        record {
          holds =
              record {
                within = h;
                rest = found.1 ∙ ap text (sym next_is.2);
                most = omega (arith, next_is.0);
                front = rw (add-one n, take-suc-set points n x going_room, take-suc (points_of b) n 0 next_is.0, g.holds.front, next_is.1);
                room = simp length-set g.holds.room;
              };
          onward = omega (arith, g.onward);
          kept = drop-set-lt (n + 1) points n x (omega arith) ∙ drop_more n points room g.kept;
          size = length-set points n x ∙ g.size;
        }

  -- no sequence goes wrong
  going_bad : {place : ℕ} → reading_from at (drop at b) ≡ bad place → ⊥
  going_bad e =
      let rest = g.holds.rest in
      let never : ◌≡◌ {A = ℕ} 0 1 = cc in
      omega arith

  pub going_ok : (q : Result (ℕ × ℕ) BadAt) → Stepped b (at + 1) (reading_from at (drop at b)) q → IsOk q
  going_ok (Ok s) w = refl
  going_ok (Err e) w = absurd (going_bad w)

-- all are written
pub going_end : {b room points : List ℕ} {at n : ℕ} → Going b room 0 at n points → length b ≤ at → points ≡ points_of b ++ drop (length (points_of b)) room
unfolding reading
going_end {b} {room} {points} {at} {n} g h =
    let the_points = points_of b in
    let none : text [] ≡ text (drop n the_points) = sym (ap (reading_from at) (drop_of_length-le b h)) ∙ g.holds.rest in
    let empty : [] ≡ drop n the_points = cc in
    let all : n ≡ length the_points = omega (arith, g.holds.most, ap length empty, length-drop n the_points) in
    let front : take n points ≡ the_points = g.holds.front ∙ take_all n the_points (omega arith) in
    sym (take-append-drop n points) ∙ rw (front, g.kept, all)
