-- The generated tables of widths are as the walks require the tables that they are lent, and give the width. Assumes nothing.
use Rattle.lists.proofs.Kit.{◌≡◌, ap, ◌∙◌, List, ℕ, ◌<◌, ℕ_discrete, arith, eqb, ne_eqb, le-leb, le-ltb}
use Rattle.ranges.specs.Ranges.{in_table}
use Rattle.chars.specs.Width.{zero_widths, double_widths, width_by, width_of, low_width, Widths}
use Rattle.chars.proofs.Tables.{zero_widths_ascend, double_widths_ascend, zero_width_low, double_width_low}

-- below U+0300 only U+0000 has no cell
pub zeros_low : (x : ℕ) → x < 0x300 → in_table x zero_widths ≡ eqb x 0
zeros_low x h = go (ℕ_discrete x 0)
  where
    go : Dec (x ≡ 0) → in_table x zero_widths ≡ eqb x 0
    go (yes e) = rw (zero_width_low x h, e)
    go (no n) = rw (zero_width_low x h, le-leb 0 x (omega arith), le-ltb x 1 (omega arith), ne_eqb x 0 n)

-- and nothing has two
pub width_low : (x : ℕ) → x < 0x300 → width_of x ≡ low_width x
unfolding width_of width_by
width_low x h = rw (zeros_low x h, double_width_low x (omega arith))

module _ {zeros doubles : List ℕ} (none : zeros ≡ zero_widths) (two : doubles ≡ double_widths) where
  -- the width by tables that are the generated ones
  pub width_lent : width_by zeros doubles ≡ width_of
  unfolding width_of
  width_lent = rw (none, two)

  -- what is answered by such tables
  pub by_width : {A : Type 0} (f : (ℕ → ℕ) → A) {r : A} → r ≡ f (width_by zeros doubles) → r ≡ f width_of
  by_width f e = e ∙ ap f width_lent

  pub widths_lent : Widths zeros doubles
  widths_lent =
      record {
        zeros_ascend = rw none zero_widths_ascend;
        doubles_ascend = rw two double_widths_ascend;
        low = λ x h. rw none (zeros_low x h);
      }
