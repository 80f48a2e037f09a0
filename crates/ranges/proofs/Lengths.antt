-- Laws of ranges by starts and lengths: their bounds ascend, and so do their starts; the last range that starts at x or before says whether
-- x lies in one. Assumes nothing.
use Rattle.lists.proofs.Kit.{◌≡◌, refl, ap, List, [], ◌∷◌, Bool, true, false, ◌&&◌, and-false, or-false, ℕ, zero, suc, ◌+◌, ◌-◌, ◌≤◌, ◌<◌, not-suc-le-zero}
use Rattle.lists.proofs.Kit.{dec_lt, arith, length, get_or, T, leb, ltb, ltb→lt, lt→ltb, le-ltb, lt-ltb, le-leb, lt-leb}
use Rattle.ranges.specs.Ranges.{in_table, climbs, ascending, UpTo}
use Rattle.ranges.specs.Lengths.{bounds_of, before, apart}
use Rattle.ranges.proofs.Ascending.{and_left, and_right}
use Rattle.ranges.proofs.Bounds.{none}

-- what the rule says of the first range and the rest
record First (s n : ℕ) (starts lengths : List ℕ) : Type 0 where
  some : 0 < n
  ends : T (before (s + n) starts)
  rest : T (apart starts lengths)

apart_first : (s n : ℕ) (starts lengths : List ℕ) → T (apart (s ∷ starts) (n ∷ lengths)) → First s n starts lengths
apart_first s n starts lengths t =
    let by_and_right = and_right (ltb 0 n) (before (s + n) starts && apart starts lengths) t in
    record {
      some = ltb→lt 0 n (and_left (ltb 0 n) (before (s + n) starts && apart starts lengths) t);
      ends = and_left (before (s + n) starts) (apart starts lengths) by_and_right;
      rest = and_right (before (s + n) starts) (apart starts lengths) by_and_right;
    }

both : (a b : Bool) → T a → T b → T (a && b)
both true b t u = u
both false b t u = t

climbs_from : (s n : ℕ) (starts : List ℕ) → T (before (s + n) starts) → T (ascending starts) → T (climbs s starts)
climbs_from s n [] e u = tt
climbs_from s n (a ∷ starts) e u = both (ltb s a) (climbs a starts) (lt→ltb s a (omega (arith, ltb→lt (s + n) a e))) u

pub apart_starts : (starts lengths : List ℕ) → T (apart starts lengths) → T (ascending starts)
apart_starts [] lengths t = tt
apart_starts (s ∷ starts) [] t = absurd t
apart_starts (s ∷ starts) (n ∷ lengths) t =
    let by_apart_first = apart_first s n starts lengths t in
    climbs_from s n starts by_apart_first.ends (apart_starts starts lengths by_apart_first.rest)

pub apart_length : (starts lengths : List ℕ) → T (apart starts lengths) → length lengths ≡ length starts
apart_length [] [] t = refl
apart_length [] (n ∷ lengths) t = absurd t
apart_length (s ∷ starts) [] t = absurd t
apart_length (s ∷ starts) (n ∷ lengths) t = ap suc (apart_length starts lengths (apart_first s n starts lengths t).rest)

climbs_on : (e : ℕ) (starts lengths : List ℕ) → T (before e starts) → T (ascending (bounds_of starts lengths)) → T (climbs e (bounds_of starts lengths))
climbs_on e [] lengths t u = tt
climbs_on e (a ∷ starts) [] t u = tt
climbs_on e (a ∷ starts) (m ∷ lengths) t u = both (ltb e a) (climbs a ((a + m) ∷ bounds_of starts lengths)) t u

-- the bounds ascend: no range is empty, and no two overlap or touch
pub apart_ascending : (starts lengths : List ℕ) → T (apart starts lengths) → T (ascending (bounds_of starts lengths))
apart_ascending [] lengths t = tt
apart_ascending (s ∷ starts) [] t = absurd t
apart_ascending (s ∷ starts) (n ∷ lengths) t =
    let by_apart_first = apart_first s n starts lengths t in
    both (ltb s (s + n)) (climbs (s + n) (bounds_of starts lengths)) (lt→ltb s (s + n) (omega (arith, by_apart_first.some)))
    (climbs_on (s + n) starts lengths by_apart_first.ends (apart_ascending starts lengths by_apart_first.rest))

-- one start fewer
rest_up_to : {s x : ℕ} {starts : List ℕ} {r : ℕ} → UpTo (s ∷ starts) x (suc r) → UpTo starts x r
rest_up_to h =
    record {
      inside = omega (arith, h.inside);
      below = λ k l. h.below (suc k) (omega arith);
      above = λ k l m. h.above (suc k) (omega arith) (omega arith);
    }

-- x is before every start
pub before_all : (starts lengths : List ℕ) {x : ℕ} → UpTo starts x 0 → in_table x (bounds_of starts lengths) ≡ false
before_all [] lengths h = refl
before_all (s ∷ starts) [] h = refl
before_all (s ∷ starts) (n ∷ lengths) h = rw (lt-leb _ _ (h.above 0 (omega arith) (omega arith)))
    (before_all starts lengths (none (λ k m. h.above (suc k) (omega arith) (omega arith))))

-- x, from s on, is one of the n numbers there
within : (s n x : ℕ) → s ≤ x → ltb (x - s) n ≡ ltb x (s + n)
within s n x h = go (dec_lt (x - s) n)
  where
    go : Dec (x - s < n) → ltb (x - s) n ≡ ltb x (s + n)
    go (yes l) = rw (lt-ltb (x - s) n l, lt-ltb x (s + n) (omega arith))
    go (no l) = rw (le-ltb (x - s) n (omega arith), le-ltb x (s + n) (omega arith))

-- the last range that starts at x or before decides
last_decides : (starts lengths : List ℕ) {x : ℕ} (k : ℕ) → T (apart starts lengths) → UpTo starts x (suc k) →
    ltb (x - get_or starts k 0) (get_or lengths k 0) ≡ in_table x (bounds_of starts lengths)
last_decides [] lengths k t h = absurd (not-suc-le-zero h.inside)
last_decides (s ∷ starts) [] k t h = absurd t
last_decides (s ∷ starts) (n ∷ lengths) {x} zero t h =
    let by_below = h.below 0 (omega arith) in
    rw (le-leb s x by_below, before_all starts lengths (rest_up_to h), or-false (ltb x (s + n))) (within s n x by_below)
last_decides (s ∷ starts) (n ∷ lengths) {x} (suc k) t h =
    let by_apart_first = apart_first s n starts lengths t in
    rw (le-ltb x (s + n) (past starts by_apart_first.ends (rest_up_to h)), and-false (leb s x))
    (last_decides starts lengths k by_apart_first.rest (rest_up_to h))
  where
    past : (starts : List ℕ) → T (before (s + n) starts) → UpTo starts x (suc k) → s + n ≤ x
    past [] e u = absurd (not-suc-le-zero u.inside)
    past (a ∷ starts) e u = omega (arith, ltb→lt (s + n) a e, u.below 0 (omega arith))

pub last_of : (starts lengths : List ℕ) {x : ℕ} (r : ℕ) → 0 < r → T (apart starts lengths) → UpTo starts x r →
    ltb (x - get_or starts (r - 1) 0) (get_or lengths (r - 1) 0) ≡ in_table x (bounds_of starts lengths)
last_of starts lengths zero p t h = absurd (not-suc-le-zero p)
last_of starts lengths {x} (suc k) p t h =
    let one_more_less_one : suc k - 1 ≡ k = omega arith in
    rw one_more_less_one (last_decides starts lengths k t h)
