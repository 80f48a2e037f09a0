-- The answer of the checks with a table, by the number that refuses; and where a row starts and ends by the table. Assumes nothing.
use Rattle.lists.proofs.Kit.{◌≡◌, refl, sym, ap, ◌∙◌, List, Bool, true, false, cond, ◌&&◌, ℕ, ◌+◌, ◌-◌, ◌≤◌, ◌<◌, arith, length, get_or, take, eqb, ltb, eq-eqb}
use Rattle.lists.proofs.Kit.{ne_eqb, eqb-true, ltb-false}
use Rattle.lists.specs.Lists.{is_same}
use Rattle.lists.proofs.Same.{same_true}
use Rattle.text_check.specs.Accept.{text_refusal}
use Rattle.text.specs.Text.{row_count, row_len, content_rows}
use Rattle.text.specs.Offsets.{row_start}
use Rattle.text.specs.declared.Position.{Position}
use Rattle.text.proofs.Parts.{next_start_lem}
use Rattle.text.proofs.Before.{at_last_lem}
use Rattle.positions.specs.declared.Entry.{Entry}
use Rattle.positions.specs.Positions.{refusal_at, refused_by, entry_by, entry_of}
use Rattle.positions.proofs.Checks.{entry_number}
use Rattle.row_table.specs.Table.{row_starts, is_table, table_refusal}
use Rattle.row_table.proofs.Held.{table_place}
use Rattle.row_entries.specs.Entries.{entry_with, Held}

-- a table that is not refused has its places, and is the text's, with its number
both : (a b : Bool) → (a && b) ≡ true → (a ≡ true) × (b ≡ true)
both true b e = (refl, e)
both false b e = let never : ◌≡◌ {A = Bool} false true = e in (cc, cc)

pub table_held : (t starts : List ℕ) (rows content : ℕ) → text_refusal t ≡ 0 → rows ≡ row_count t → table_refusal (row_count t) t starts content ≡ 0 →
    Held t starts rows content
unfolding table_refusal
table_held t starts rows content good all z = go (ltb (length starts) (row_count t)) (is_table t starts content) refl refl z
  where
    go : (a b : Bool) → ltb (length starts) (row_count t) ≡ a → is_table t starts content ≡ b → ◌≡◌ {A = ℕ} (cond a 15 (cond b 0 16)) 0 →
        Held t starts rows content
    go true b e f h = absurd (omega (arith, h))
    go false false e f h = absurd (omega (arith, h))
    go false true e f h =
        let by_both = both (is_same (take (row_count t) starts) (row_starts t)) (eqb content (content_rows t)) f in
        record {
          good = good;
          all_rows = all;
          fits = omega (arith, ltb-false (length starts) (row_count t) e);
          table = same_true _ _ by_both.0;
          count = eqb-true content (content_rows t) by_both.1;
        }

module _ {t starts : List ℕ} {rows content row : ℕ} (h : Held t starts rows content) (inside : row < rows) where
  pub start_by : get_or starts row 0 ≡ row_start t row
  start_by = table_place t starts h.table row (omega (arith, h.all_rows))

  pub end_next : {s : ℕ} → row + 1 < rows → s ≡ row_start t (row + 1) → s - 1 ≡ row_start t row + row_len t row
  end_next l e = omega (arith, next_start_lem t row (omega (arith, h.all_rows)))

  pub end_last : rows ≤ row + 1 → length t ≡ row_start t row + row_len t row
  end_last l =
      let row_count_less_one : row_count t - 1 ≡ row = omega (arith, h.all_rows) in
      rw row_count_less_one at (at_last_lem t).offset

-- an entry that is refused, by its number
refused_entry : (t : List ℕ) (p : Position) → (refusal_at t p ≡ 0 → ⊥) → entry_of t p ≡ refused_by (refusal_at t p)
unfolding entry_by
refused_entry t p n = rw (ne_eqb (refusal_at t p) 0 n)

-- the answer
module _ (t starts : List ℕ) (content : ℕ) (p : Position) {e : Entry} where
  pub with_refused : {f : ℕ} → e ≡ refused_by f → refusal_at t p ≡ f → (f ≡ 0 → ⊥) → e ≡ entry_with t starts content p
  unfolding entry_with
  with_refused {f} r q n = r ∙ rw (q, ne_eqb f 0 n)

  pub with_entered : e ≡ entry_of t p → (e.refusal ≡ 0 → ⊥) → e ≡ entry_with t starts content p
  with_entered is n =
      let refusal_is : refusal_at t p ≡ e.refusal = sym (entry_number t p e is) in
      with_refused (is ∙ refused_entry t p (λ z. n (sym refusal_is ∙ z)) ∙ ap refused_by refusal_is) refusal_is n

  module _ {g : ℕ} (number : g ≡ table_refusal (row_count t) t starts content) where
    pub with_table : g ≡ 0 → e ≡ entry_of t p → e ≡ entry_with t starts content p
    unfolding entry_with entry_by
    with_table z r = r ∙ rw (← number, eq-eqb g 0 z)

    pub with_other : (g ≡ 0 → ⊥) → refusal_at t p ≡ 0 → e ≡ refused_by g → e ≡ entry_with t starts content p
    unfolding entry_with
    with_other n z r = r ∙ rw (z, ← number, ne_eqb g 0 n)
