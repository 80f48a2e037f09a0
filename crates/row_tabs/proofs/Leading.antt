-- The leading spaces and tabs of a row, one by one, and the walk of `leading_at` over them. Assumes nothing.
use Rattle.lists.proofs.Kit.{◌≡◌, refl, sym, ◌∙◌, List, [], ◌∷◌, ℕ, ◌+◌, ◌-◌, ◌*◌, ◌%◌, ◌≤◌, ◌<◌, arith, length, get_or, drop, drop_of_length-le, eq-eqb, ne_eqb}
use Rattle.lists.proofs.Lists.{drop_at}
use Rattle.row_tabs.specs.Indents.{leading_from}

module _ (tab v x : ℕ) (row : List ℕ) where
  pub leading_space : x ≡ 32 → leading_from tab v (x ∷ row) ≡ leading_from tab (v + 1) row
  unfolding leading_from
  leading_space e = rw (eq-eqb x 32 e, ne_eqb x 9 (λ n. omega arith))

  pub leading_tab : x ≡ 9 → leading_from tab v (x ∷ row) ≡ leading_from tab (v + (tab - v % tab)) row
  unfolding leading_from
  leading_tab e = rw (ne_eqb x 32 (λ n. omega arith), eq-eqb x 9 e)

  pub leading_other : (x ≡ 32 → ⊥) → (x ≡ 9 → ⊥) → leading_from tab v (x ∷ row) ≡ v
  unfolding leading_from
  leading_other n m = rw (ne_eqb x 32 n, ne_eqb x 9 m)

pub leading_none : (tab v : ℕ) → leading_from tab v [] ≡ v
unfolding leading_from
leading_none tab v = refl

-- the walk of `leading_at`, before character i at visual column `visual`: all before it are blanks
pub record LeadingTo (tab : ℕ) (row : List ℕ) (i visual : ℕ) : Type 0 where
  pub inside : i ≤ length row
  pub fits : visual ≤ 1000 * i
  pub rest : leading_from tab 0 row ≡ leading_from tab visual (drop i row)

module _ {tab : ℕ} {row : List ℕ} {i visual : ℕ} (so_far : LeadingTo tab row i visual) where
  module _ (h : i < length row) where
    pub leading_on_space : get_or row i 0 ≡ 32 → LeadingTo tab row (i + 1) (visual + 1)
    leading_on_space e =
        record {
          inside = omega arith;
          fits = omega (arith, so_far.fits);
          rest = so_far.rest ∙ rw (drop_at row i h) (leading_space tab visual (get_or row i 0) (drop (i + 1) row) e);
        }

    pub leading_on_tab : {cells : ℕ} → get_or row i 0 ≡ 9 → cells ≡ tab - visual % tab → cells ≤ 1000 → LeadingTo tab row (i + 1) (visual + cells)
    leading_on_tab {cells} e k most =
        record {
          inside = omega arith;
          fits = omega (arith, so_far.fits);
          rest = so_far.rest ∙ rw (drop_at row i h, k) (leading_tab tab visual (get_or row i 0) (drop (i + 1) row) e);
        }

    pub leading_stop : (get_or row i 0 ≡ 32 → ⊥) → (get_or row i 0 ≡ 9 → ⊥) → visual ≡ leading_from tab 0 row
    leading_stop n m = sym (so_far.rest ∙ rw (drop_at row i h) (leading_other tab visual (get_or row i 0) (drop (i + 1) row) n m))

  pub leading_end : length row ≤ i → visual ≡ leading_from tab 0 row
  leading_end h = sym (so_far.rest ∙ rw (drop_of_length-le row h) (leading_none tab visual))
