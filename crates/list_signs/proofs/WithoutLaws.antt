-- Laws of marks: what has none that is true, and where the first is, over any list and any marks. Assumes nothing.
use Rattle.lists.proofs.Kit.{◌≡◌, refl, ap, List, [], ◌∷◌, ◌++◌, Bool, true, false, ◌||◌, true≢false, ℕ, zero, suc, ◌≤◌, ◌<◌, arith, length, get_or, take, drop}
use Rattle.lists.proofs.Kit.{replicate}
use Rattle.lists.specs.Lists.{any}
use Rattle.list_signs.specs.Plain.{first_in, without}

-- marks none of which is true
pub first_none_in : (l : List ℕ) (n : ℕ) → first_in l (replicate n false) ≡ length l
unfolding first_in
first_none_in [] n = refl
first_none_in (x ∷ l) zero = ap suc (first_none_in l zero)
first_none_in (x ∷ l) (suc n) = ap suc (first_none_in l n)

pub without_none : (l : List ℕ) (n : ℕ) → without l (replicate n false) ≡ l
unfolding without
without_none [] n = refl
without_none (x ∷ l) zero = refl
without_none (x ∷ l) (suc n) = ap (λ (q : List ℕ). x ∷ q) (without_none l n)

-- marks past the list's end change nothing
pub without_pad : (l : List ℕ) (ms q : List Bool) → length l ≤ length ms → without l (ms ++ q) ≡ without l ms
unfolding without
without_pad [] ms q h = refl
without_pad (x ∷ l) [] q h = absurd (omega arith)
without_pad (x ∷ l) (m ∷ ms) q h = let by_without_pad = without_pad l ms q (omega arith) in rw by_without_pad

pub first_pad : (l : List ℕ) (ms q : List Bool) → length l ≤ length ms → first_in l (ms ++ q) ≡ first_in l ms
unfolding first_in
first_pad [] ms q h = refl
first_pad (x ∷ l) [] q h = absurd (omega arith)
first_pad (x ∷ l) (m ∷ ms) q h = let by_first_pad = first_pad l ms q (omega arith) in rw by_first_pad

pub without_append : (p q : List ℕ) (a b : List Bool) → length a ≡ length p → without (p ++ q) (a ++ b) ≡ without p a ++ without q b
unfolding without
without_append [] q [] b h = refl
without_append [] q (m ∷ a) b h = absurd (omega arith)
without_append (x ∷ p) q [] b h = absurd (omega arith)
without_append (x ∷ p) q (true ∷ a) b h = without_append p q a b (omega arith)
without_append (x ∷ p) q (false ∷ a) b h = ap (λ (r : List ℕ). x ∷ r) (without_append p q a b (omega arith))

pub without_at : (l : List ℕ) (ms : List Bool) (k : ℕ) → k < length l → k < length ms → get_or ms k false ≡ false →
    without l ms ≡ without (take k l) (take k ms) ++ (get_or l k 0 ∷ without (drop (suc k) l) (drop (suc k) ms))
unfolding without
without_at [] ms k h m e = absurd (omega arith)
without_at (x ∷ l) [] k h m e = absurd (omega arith)
without_at (x ∷ l) (b ∷ ms) zero h m e = rw e
without_at (x ∷ l) (true ∷ ms) (suc k) h m e = without_at l ms k (omega arith) (omega arith) e
without_at (x ∷ l) (false ∷ ms) (suc k) h m e = ap (λ (q : List ℕ). x ∷ q) (without_at l ms k (omega arith) (omega arith) e)

pub without_least : (l : List ℕ) (ms : List Bool) → length (without l ms) ≤ length l
unfolding without
without_least [] ms = omega arith
without_least (x ∷ l) [] = omega arith
without_least (x ∷ l) (true ∷ ms) = omega (arith, without_least l ms)
without_least (x ∷ l) (false ∷ ms) = omega (arith, without_least l ms)

pub first_at : (l : List ℕ) (ms : List Bool) (k : ℕ) → k < length l → k < length ms → get_or ms k false ≡ true →
    ((j : ℕ) → j < k → get_or ms j false ≡ false) → first_in l ms ≡ k
unfolding first_in
first_at [] ms k h m e f = absurd (omega arith)
first_at (x ∷ l) [] k h m e f = absurd (omega arith)
first_at (x ∷ l) (b ∷ ms) zero h m e f = rw e
first_at (x ∷ l) (b ∷ ms) (suc k) h m e f =
    let none : b ≡ false = f 0 (omega arith) in
    let rest = first_at l ms k (omega arith) (omega arith) e (λ (j : ℕ) (i : j < k). f (suc j) (omega arith)) in
    rw (none, rest)

pub first_none : (l : List ℕ) (ms : List Bool) → length l ≤ length ms → ((k : ℕ) → k < length l → get_or ms k false ≡ false) → first_in l ms ≡ length l
unfolding first_in
first_none [] ms h f = refl
first_none (x ∷ l) [] h f = absurd (omega arith)
first_none (x ∷ l) (b ∷ ms) h f =
    let none : b ≡ false = f 0 (omega arith) in
    let rest = first_none l ms (omega arith) (λ (k : ℕ) (i : k < length l). f (suc k) (omega arith)) in
    rw (none, rest)

or_split : (a b : Bool) → (a || b) ≡ false → (a ≡ false) × (b ≡ false)
or_split false b e = (refl, e)
or_split true b e = absurd (true≢false e)

-- what no code point of the list is, none of those left is
pub any_without : (f : ℕ → Bool) (l : List ℕ) (ms : List Bool) → any f l ≡ false → any f (without l ms) ≡ false
unfolding without any
any_without f [] ms h = h
any_without f (x ∷ l) [] h = h
any_without f (x ∷ l) (true ∷ ms) h = any_without f l ms (or_split (f x) (any f l) h).1
any_without f (x ∷ l) (false ∷ ms) h = let by_or_split = or_split (f x) (any f l) h in rw by_or_split.0 (any_without f l ms by_or_split.1)
