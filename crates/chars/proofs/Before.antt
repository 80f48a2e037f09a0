-- What lies before the first number of a table is in none of its ranges. Assumes nothing.
use Rattle.lists.proofs.Kit.{◌≡◌, refl, sym, ◌∙◌, List, [], ◌∷◌, Bool, true, false, ◌&&◌, ℕ, arith, length, get_or, T, ltb, ltb-true}
use Rattle.lists.proofs.Both.{both}
use Rattle.ranges.specs.Ranges.{in_table, ascending}
use Rattle.ranges.proofs.Bounds.{table_low}
use Rattle.chars.specs.Width.{starts_after, width_by, low_width, Widths}

pub before_none : (bs : List ℕ) (x : ℕ) → length bs ≡ 0 → false ≡ starts_after bs x
unfolding starts_after
before_none [] x e = refl
before_none (b ∷ bs) x e = absurd (omega (arith, e))

pub before_first : (bs : List ℕ) (x : ℕ) → (length bs ≡ 0 → ⊥) → ltb x (get_or bs 0 0) ≡ starts_after bs x
unfolding starts_after
before_first [] x n = absurd (n refl)
before_first (b ∷ bs) x n = refl

pub before_out : (bs : List ℕ) (x : ℕ) → T (ascending bs) → starts_after bs x ≡ true → in_table x bs ≡ false
unfolding starts_after
before_out [] x asc e = refl
before_out (b ∷ bs) x asc e = table_low x [] b bs (b ∷ bs) refl asc (ltb-true x b e)

-- so below U+0300 its width is that of a low code point
pub before_low : {zeros doubles : List ℕ} (x : ℕ) {r : Bool} → Widths zeros doubles → r ≡ starts_after doubles x →
    ltb x 0x300 && r ≡ true → low_width x ≡ width_by zeros doubles x
unfolding width_by
before_low {zeros} {doubles} x {r} w e h =
    let held = both (ltb x 0x300) r h in
    let low = ltb-true x 0x300 held.0 in
    let out = before_out doubles x w.doubles_ascend (sym e ∙ held.1) in
    rw (w.low x low, out)
