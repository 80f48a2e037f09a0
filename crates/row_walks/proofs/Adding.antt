-- Counts of the rows that begin with a mark: one more is one, and then the rest from there. Assumes nothing.
use Rattle.lists.proofs.Kit.{◌≡◌, refl, ap, sym, List, Bool, true, false, cond, ℕ, zero, suc, ◌+◌, ◌-◌, arith}
use Rattle.row_walks.specs.Sections.{begins, section_up, section_down}
use Rattle.row_walks.proofs.Marks.{up_done, down_none, down_done}

-- up
pub up_more : (t : List ℕ) (x n row : ℕ) → section_up t x (suc n) row ≡ section_up t x n (section_up t x 1 row)
unfolding section_up
up_more t x n zero = refl
up_more t x n (suc row) = go (begins t x row) (up_more t x n row)
  where
    go : (b : Bool) → section_up t x (suc n) row ≡ section_up t x n (section_up t x 1 row) →
        section_up t x (cond b n (suc n)) row ≡ section_up t x n (section_up t x (cond b 0 1) row)
    go true ih = ap (section_up t x n) (sym (up_done t x 0 row refl))
    go false ih = ih

-- down, `last` the last row with content
pub down_more : (t : List ℕ) (x n last row rest : ℕ) → last - row ≡ rest →
    let one = section_down t x 1 row rest in section_down t x (suc n) row rest ≡ section_down t x n one (last - one)
unfolding section_down
down_more t x n last row zero e = sym (down_none t x n row (last - row) e)
down_more t x n last row (suc rest) e = go (begins t x (row + 1)) (down_more t x n last (row + 1) rest less)
  where
    less : last - (row + 1) ≡ rest
    less = omega arith

    there : section_down t x 0 (row + 1) rest ≡ row + 1
    there = down_done t x 0 (row + 1) rest (omega arith)

    go : (b : Bool) → (let one = section_down t x 1 (row + 1) rest in section_down t x (suc n) (row + 1) rest ≡ section_down t x n one (last - one)) →
        let one = section_down t x (cond b 0 1) (row + 1) rest in section_down t x (cond b n (suc n)) (row + 1) rest ≡ section_down t x n one (last - one)
    go true ih = rw (there, less)
    go false ih = ih
