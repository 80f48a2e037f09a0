-- The tables that a call lends under a setting are as the walks require them, and give the width under that setting. Assumes nothing.
use Rattle.lists.proofs.Kit.{◌≡◌, refl, ap, ◌∙◌, List, [], cond, ◌&&◌, ℕ, ◌<◌, ℕ_discrete, drop, T, eqb, ne_eqb}
use Rattle.ranges.specs.Ranges.{in_table, ascending}
use Rattle.ranges.proofs.Bounds.{table_low}
use Rattle.chars.specs.Width.{zero_widths, double_widths, width_by, width_of, Widths}
use Rattle.chars.proofs.Tables.{zero_widths_ascend, double_widths_ascend}
use Rattle.chars.proofs.Lent.{zeros_low}
use Rattle.chars.specs.declared.Measure.{Measure}
use Rattle.widths.specs.declared.Ambiguous.{Ambiguous}
use Rattle.widths.specs.declared.Ambiguous.TheVariants.{Narrow, Wide}
use Rattle.widths.specs.Widths.{class_a, is_ambiguous, wide_width, width_as, Lends}
use Rattle.widths.proofs.WideTable.{wide_doubles}
use Rattle.widths.proofs.Tables.{is_none, is_two, is_classed, is_two_wide, kind, class_ascends, wide_doubles_ascend, none_in, two_in, class_in, wide_in}

-- the table of what has two cells
unfoldable pub doubles_of : Ambiguous → List ℕ
doubles_of Narrow = double_widths
doubles_of Wide = wide_doubles

-- the width in a stretch of each kind
abbrev narrow_of : ℕ → ℕ
narrow_of k = cond (is_none k) 0 (cond (is_two k) 2 1)

abbrev wide_of : ℕ → ℕ
wide_of k = cond (is_none k) 0 (cond (is_two_wide k) 2 1)

-- the class takes two for one
kind_agrees : (k : ℕ) → wide_of k ≡ cond (is_classed k && eqb (narrow_of k) 1) 2 (narrow_of k)
kind_agrees k = go (ℕ_discrete k 0) (ℕ_discrete k 2) (ℕ_discrete k 4) (ℕ_discrete k 5) (ℕ_discrete k 6)
  where
    go : Dec (k ≡ 0) → Dec (k ≡ 2) → Dec (k ≡ 4) → Dec (k ≡ 5) → Dec (k ≡ 6) → wide_of k ≡ cond (is_classed k && eqb (narrow_of k) 1) 2 (narrow_of k)
    go (yes e) b c d f = rw e
    go (no a) (yes e) c d f = rw e
    go (no a) (no b) (yes e) d f = rw e
    go (no a) (no b) (no c) (yes e) f = rw e
    go (no a) (no b) (no c) (no d) (yes e) = rw e
    go (no a) (no b) (no c) (no d) (no f) = rw (ne_eqb k 0 a, ne_eqb k 2 b, ne_eqb k 4 c, ne_eqb k 5 d, ne_eqb k 6 f)

wide_lent : (x : ℕ) → width_by zero_widths wide_doubles x ≡ wide_width x
unfolding width_by wide_width is_ambiguous width_of
wide_lent x = rw (none_in x, two_in x, class_in x, wide_in x) (kind_agrees (kind x))

-- below U+00A1 nothing is of the class
pub class_low : (x : ℕ) → x < 0xa1 → is_ambiguous x ≡ in_table x []
unfolding is_ambiguous class_a
class_low x h = table_low x [] 0xa1 (drop 1 class_a) class_a refl class_ascends h

width_of_lem : (s : Ambiguous) → width_by zero_widths (doubles_of s) ≡ width_as s
unfolding width_as doubles_of width_of
width_of_lem Narrow = refl
width_of_lem Wide = λ i x. wide_lent x i

doubles_ascend : (s : Ambiguous) → T (ascending (doubles_of s))
unfolding doubles_of
doubles_ascend Narrow = double_widths_ascend
doubles_ascend Wide = wide_doubles_ascend

module _ (s : Ambiguous) {zeros doubles : List ℕ} (none : zeros ≡ zero_widths) (two : doubles ≡ doubles_of s) where
  -- the width by tables that are the setting's
  pub width_lent : width_by zeros doubles ≡ width_as s
  width_lent = rw (none, two) (width_of_lem s)

  -- what is answered by such tables
  pub by_width : {A : Type 0} (f : (ℕ → ℕ) → A) {r : A} → r ≡ f (width_by zeros doubles) → r ≡ f (width_as s)
  by_width f e = e ∙ ap f width_lent

  pub widths_lent : Widths zeros doubles
  widths_lent =
      record {
        zeros_ascend = rw none zero_widths_ascend;
        doubles_ascend = rw two (doubles_ascend s);
        low = λ x h. rw none (zeros_low x h);
      }

pub lends_of : (a : Ambiguous) (m : Measure) → m.zeros.now ≡ zero_widths → m.doubles.now ≡ doubles_of a → Lends a m
lends_of a m none two = record { fit = widths_lent a none two; same = width_lent a none two }
