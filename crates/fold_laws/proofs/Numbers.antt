-- Bytes, folds that fit their entries, and the number that two bytes make. Assumes nothing.
use Rattle.lists.proofs.Kit.{◌≡◌, ap, ◌∙◌, List, [], ◌∷◌, ℕ, zero, suc, ◌+◌, ◌*◌, ◌/◌, ◌%◌, ◌≤◌, ◌<◌, arith, length, take, drop, get_or, take-nil, drop-nil}
use Rattle.fold_blocks.specs.Bytes.{two, two_at}

-- every value is a byte
unfoldable pub Bytes : List ℕ → Type 0
Bytes [] = 0 ≤ 0
Bytes (x ∷ l) = (x < 256) × Bytes l

-- every start and end fits four bytes, and every mark one; three numbers to a fold
unfoldable pub Small : List ℕ → Type 0
Small [] = 0 ≤ 0
Small (s ∷ []) = ⊥
Small (s ∷ e ∷ []) = ⊥
Small (s ∷ e ∷ c ∷ l) = (s < 4294967296) × (e < 4294967296) × (c < 256) × Small l

pub bytes_at : (l : List ℕ) (i : ℕ) → Bytes l → get_or l i 0 < 256
unfolding Bytes
bytes_at [] i h = omega arith
bytes_at (x ∷ l) zero h = h.0
bytes_at (x ∷ l) (suc i) h = bytes_at l i h.1

pub bytes_drop : (n : ℕ) (l : List ℕ) → Bytes l → Bytes (drop n l)
unfolding Bytes
bytes_drop zero l h = h
bytes_drop (suc n) [] h = h
bytes_drop (suc n) (x ∷ l) h = bytes_drop n l h.1

pub bytes_take : (n : ℕ) (l : List ℕ) → Bytes l → Bytes (take n l)
unfolding Bytes
bytes_take zero l h = omega arith
bytes_take (suc n) [] h = h
bytes_take (suc n) (x ∷ l) h = (h.0, bytes_take n l h.1)

pub small_take : (n : ℕ) (l : List ℕ) → Small l → Small (take (3 * n) l)
unfolding Small
small_take zero l h = omega arith
small_take (suc n) [] h = rw (take-nil (3 * suc n)) h
small_take (suc n) (s ∷ []) h = absurd h
small_take (suc n) (s ∷ e ∷ []) h = absurd h
small_take (suc n) (s ∷ e ∷ c ∷ l) h =
    let three : 3 * suc n ≡ suc (suc (suc (3 * n))) = omega arith in
    rw three (h.0, h.1, h.2, small_take n l h.3)

pub small_drop : (n : ℕ) (l : List ℕ) → Small l → Small (drop (3 * n) l)
unfolding Small
small_drop zero l h = h
small_drop (suc n) [] h = rw (drop-nil (3 * suc n)) h
small_drop (suc n) (s ∷ []) h = absurd h
small_drop (suc n) (s ∷ e ∷ []) h = absurd h
small_drop (suc n) (s ∷ e ∷ c ∷ l) h =
    let three : 3 * suc n ≡ suc (suc (suc (3 * n))) = omega arith in
    rw three (small_drop n l h.3)

-- two bytes make a number whose bytes they are
pub two_of : (l : List ℕ) → Bytes l → 2 ≤ length l → two (two_at l 0) ≡ take 2 l
unfolding Bytes
two_of [] b h = absurd (omega arith)
two_of (x ∷ []) b h = absurd (omega arith)
two_of (x ∷ y ∷ l) b h =
    let low : (x + 256 * y) % 256 ≡ x = omega (arith, b.0) in
    let rest : (x + 256 * y) / 256 ≡ y = omega (arith, b.0) in
    let small : y % 256 ≡ y = omega (arith, b.1.0) in
    let high : (x + 256 * y) / 256 % 256 ≡ y = ap (λ (q : ℕ). q % 256) rest ∙ small in
    rw (low, high)
