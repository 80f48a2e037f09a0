-- The test of a table: starts that begin with 0, ascend and stand behind a separator each are, where they are as many as the rows, all row starts.
-- The rows in which they stand ascend too, from row 0 on, and there are only so many. Assumes nothing.
use Rattle.lists.proofs.Kit.{◌≡◌, refl, ap, sym, ◌∙◌, subst, List, Bool, true, false, true≢false, ℕ, ◌+◌, ◌-◌, ◌≤◌, ◌<◌, dec_lt, ℕ_discrete, arith, length, get_or}
use Rattle.lists.proofs.Kit.{take}
use Rattle.text.specs.Text.{row_count}
use Rattle.text.specs.Offsets.{row_start, row_of, Stands}
use Rattle.text.proofs.Before.{behind_nl, rows_apart}
use Rattle.text.proofs.Stands.{first_line, at_stands, row_there, stands_row}
use Rattle.row_table.specs.Table.{row_starts, holds_rows}
use Rattle.row_table.specs.Ascend.{Mark, Ascend, GoesOn}
use Rattle.row_table.proofs.Held.{held_yes, table_by_places}

pub ascend_first : (t starts : List ℕ) → get_or starts 0 0 ≡ 0 → Ascend t starts 1
ascend_first t starts e =
    let stands : Stands t 0 (get_or starts 0 0) (get_or starts 0 0) = rw e (first_line t) in
    let row_is : row_of t (get_or starts 0 0) ≡ 0 = stands_row stands in
    record {
      some = omega arith;
      marks = λ j h.
          let j_is : 0 ≡ j = omega arith in
          subst (λ (x : ℕ). Mark t starts 1 x) j_is (record { begins = rw row_is stands; low = omega arith; high = omega arith });
    }

module _ {t starts : List ℕ} {i : ℕ} (a : Ascend t starts i) where
  module _ (above : get_or starts (i - 1) 0 < get_or starts i 0) (within : get_or starts i 0 ≤ length t) (behind : get_or t (get_or starts i 0 - 1) 0 ≡ 10) where
    there : Stands t (row_of t (get_or starts i 0)) (get_or starts i 0) (get_or starts i 0)
    there =
        let by_row_there = row_there t (get_or starts i 0) within in
        let by_behind_nl = (behind_nl by_row_there (omega arith) behind).0 in
        at_stands by_row_there (get_or starts i 0) (omega (arith, by_row_there.offset))

    before : Mark t starts i (i - 1)
    before = a.marks (i - 1) (omega (arith, a.some))

    further : row_of t (get_or starts (i - 1) 0) < row_of t (get_or starts i 0)
    further =
        go (dec_lt (row_of t (get_or starts (i - 1) 0)) (row_of t (get_or starts i 0))) (ℕ_discrete (row_of t (get_or starts (i - 1) 0)) (row_of t (get_or starts i 0)))
      where
        go : Dec (row_of t (get_or starts (i - 1) 0) < row_of t (get_or starts i 0)) → Dec (row_of t (get_or starts (i - 1) 0) ≡ row_of t (get_or starts i 0)) →
            row_of t (get_or starts (i - 1) 0) < row_of t (get_or starts i 0)
        go (yes l) d = l
        go (no m) (yes e) = absurd (omega (arith, there.begins, before.begins.begins, ap (row_start t) e))
        go (no m) (no n) = absurd (omega (
          arith,
          there.begins,
          before.begins.begins,
          rows_apart t (row_of t (get_or starts i 0)) (row_of t (get_or starts (i - 1) 0)) (omega arith) before.begins.in_row,
        ))

    pub ascend_next : Ascend t starts (i + 1)
    ascend_next = record { some = omega arith; marks = λ j h. mark j h (ℕ_discrete j i) }
      where
        q : i + 1 - 1 ≡ i
        q = omega arith

        mark : (j : ℕ) → j < i + 1 → Dec (j ≡ i) → Mark t starts (i + 1) j
        mark j h (yes e) = rw e (record { begins = there; low = omega (arith, before.low, further, a.some); high = rw q (omega arith) })
        mark j h (no n) =
            let by_marks = a.marks j (omega arith) in
            record { begins = by_marks.begins; low = by_marks.low; high = rw q (omega (arith, by_marks.high, further, a.some)) }

  -- no more than there are rows
  pub ascend_few : i ≤ row_count t
  ascend_few =
      let top = a.marks (i - 1) (omega (arith, a.some)) in
      omega (arith, top.low, top.begins.in_row)

  -- all of them
  pub ascend_all : i ≡ row_count t → row_count t ≤ length starts → take (row_count t) starts ≡ row_starts t
  ascend_all e h =
      let top = a.marks (i - 1) (omega (arith, a.some)) in
      table_by_places t starts h (λ j l.
      let by_marks = a.marks j (omega arith) in
      let row_is : row_of t (get_or starts j 0) ≡ j = omega (arith, by_marks.low, by_marks.high, top.begins.in_row) in
      by_marks.begins.begins ∙ ap (row_start t) row_is)

  -- no fewer than there are rows: the text's own table
  pub ascend_held : row_count t ≤ i → i ≤ length starts → holds_rows t i starts ≡ true
  ascend_held h within =
      let as_many : i ≡ row_count t = omega (arith, h, ascend_few) in
      held_yes t i starts as_many (ascend_all as_many (omega (arith, h, within)))

-- what a test says of them: yes, no, and where it is asked with no fewer than the rows
module _ {t starts : List ℕ} {rows : ℕ} where
  pub goes_yes : Ascend t starts rows → GoesOn t starts rows true
  goes_yes a = record { ascend = λ e. a; other = λ e. absurd (true≢false e) }

  pub goes_no : holds_rows t rows starts ≡ false → GoesOn t starts rows false
  goes_no f = record { ascend = λ e. absurd (true≢false (sym e)); other = λ e. f }

  pub goes_held : (r : Bool) → GoesOn t starts rows r → row_count t ≤ rows → rows ≤ length starts → r ≡ holds_rows t rows starts
  goes_held true g h within = sym (ascend_held (g.ascend refl) h within)
  goes_held false g h within = sym (g.other refl)
