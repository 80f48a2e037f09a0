-- An answer that is a column, from the number that the checks gave; and what an accepted row is known for. Assumes nothing.
use Rattle.lists.proofs.Kit.{◌≡◌, refl, List, ℕ, zero, suc, ◌≤◌, ◌<◌, dec_le, arith, length, lt-ltb}
use Rattle.row_check.specs.declared.Column.TheVariants.{At, Refused}
use Rattle.row_check.specs.Row.{row_refusal, column_of}

refused_is : (n v : ℕ) → (n ≡ 0 → ⊥) → Refused n ≡ column_of n v
unfolding column_of
refused_is zero v k = absurd (k refl)
refused_is (suc n) v k = refl

-- f is what the check gave, n what it is to give
pub answer_refused : {f n : ℕ} (v : ℕ) → f ≡ n → (f ≡ 0 → ⊥) → Refused f ≡ column_of n v
answer_refused {f} v e k = rw (← e) (refused_is f v k)

pub answer_at_lem : {f n u v : ℕ} → f ≡ n → f ≡ 0 → u ≡ v → At u ≡ column_of n v
unfolding column_of
answer_at_lem e k q = rw (← e, k, q)

-- a row that is not refused has at most 1,048,576 code points
long_refused : (row : List ℕ) → 1048576 < length row → row_refusal row ≡ 1
unfolding row_refusal
long_refused row h = rw (lt-ltb 1048576 (length row) h)

pub accepted_brief : (row : List ℕ) → row_refusal row ≡ 0 → length row ≤ 1048576
accepted_brief row e = go (dec_le (length row) 1048576)
  where
    go : Dec (length row ≤ 1048576) → length row ≤ 1048576
    go (yes h) = h
    go (no h) = absurd (omega (arith, long_refused row (omega arith)))
