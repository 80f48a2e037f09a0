-- What a search answers, from what its checks found out. Assumes nothing.
use Rattle.lists.proofs.Kit.{◌≡◌, sym, ◌∙◌, List, Bool, ℕ, ◌≤◌, ◌<◌, ◌^◌, arith, length, eq-eqb, ne_eqb, Option, Some}
use Rattle.row_search.specs.Find.{find_on_row}
use Rattle.row_search.proofs.Finds.{find_within}
use Rattle.motions.specs.declared.Sought.{Sought}
use Rattle.motions.specs.declared.Sought.TheVariants.{Refused}
use Rattle.motions.specs.Finds.{seeking}

module _ {f g : ℕ} (q : f ≡ g) where
  pub seek_refused : (m : Sought) → (f ≡ 0 → ⊥) → Refused f ≡ seeking g m
  unfolding seeking
  seek_refused m h = rw (← q, ne_eqb f 0 h)

  pub seek_found : (m n : Sought) → f ≡ 0 → m ≡ n → m ≡ seeking g n
  unfolding seeking
  seek_found m n z e = rw (← q, eq-eqb f 0 z) e

-- the column that was found is one of the row's, and so fits a u32
pub found_fits : (row : List ℕ) (col x : ℕ) (forward till skip : Bool) {f : Option ℕ} {i : ℕ} → f ≡ find_on_row row col x forward till skip → f ≡ Some i →
    col ≤ length row → length row ≤ 1048576 → i < 2 ^ 32
found_fits row col x forward till skip e q h l = omega (arith, find_within row col x forward till skip h (sym e ∙ q))
