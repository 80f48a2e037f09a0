-- What the check of a table says, and what the edit itself asks of it. Assumes nothing.
use Rattle.lists.proofs.Kit.{◌≡◌, refl, sym, ◌∙◌, List, Bool, true, false, cond, ◌&&◌, ℕ, ◌+◌, ◌-◌, ◌≤◌, max, arith, length, take, length-take-le, eqb, ltb}
use Rattle.lists.proofs.Kit.{ltb-false}
use Rattle.lists.specs.Lists.{is_same}
use Rattle.lists.proofs.Same.{same_true}
use Rattle.text.specs.Text.{row_count, content_rows}
use Rattle.text.specs.Offsets.{row_start, Stands}
use Rattle.text.specs.declared.Position.{Position}
use Rattle.text.proofs.Rows.{rows_pos}
use Rattle.text.proofs.Stands.{at_stands}
use Rattle.motions.specs.declared.Caret.{Caret}
use Rattle.edit_positions.specs.After.{text_after}
use Rattle.edit_checks.specs.declared.Checked.{Checked}
use Rattle.edit_checks.specs.declared.Sizes.{Sizes}
use Rattle.edits.specs.Edits.{new_text}
use Rattle.edits.specs.Editable.{Editable}
use Rattle.row_table.specs.Table.{row_starts, is_table, table_refusal}
use Rattle.edit_starts.specs.Moved.{Keepable}
use Rattle.edit_starts.proofs.Kept.{rows_replaced, starts_move}
use Rattle.edit_rows.specs.declared.Rows.{Rows}
use Rattle.edit_rows.specs.Known.{Stretch, RowsChecked, Tabled}

-- the first half of an `&&` that holds
pub and_first : (a b : Bool) → (a && b) ≡ true → a ≡ true
and_first true b e = refl
and_first false b e = e

-- a table that is not refused has its places, and is the text's
pub table_good : (need : ℕ) (t table : List ℕ) (content : ℕ) → table_refusal need t table content ≡ 0 →
    (need ≤ length table) × (take (row_count t) table ≡ row_starts t)
unfolding table_refusal
table_good need t table content z = go (ltb (length table) need) (is_table t table content) refl refl z
  where
    go : (a b : Bool) → ltb (length table) need ≡ a → is_table t table content ≡ b → ◌≡◌ {A = ℕ} (cond a 15 (cond b 0 16)) 0 →
        (need ≤ length table) × (take (row_count t) table ≡ row_starts t)
    go true b e f h = absurd (omega (arith, h))
    go false true e f h = (ltb-false _ _ e, same_true _ _ (and_first (is_same (take (row_count t) table) (row_starts t)) (eqb content (content_rows t)) f))
    go false false e f h = absurd (omega (arith, h))

pub tabled : {t table new : List ℕ} {content : ℕ} {r : Rows} → RowsChecked t table content new r → r.refusal ≡ 0 → Tabled t table new r
tabled {t} {table} {new} {content} {r} k z =
    let by_table_good = table_good (max (row_count t) (row_count new)) t table content (sym k.refusal_is ∙ z) in
    record { held = by_table_good.1; room = by_table_good.0; before_is = k.before_is; after_is = k.after_is }

-- the rows of the text after the edit
pub rows_after : {buf : List ℕ} {len : ℕ} {p q : Position} → Stretch buf len p q → (c : List ℕ) →
    row_count (text_after (take len buf) p q c) ≡ row_count (take len buf) - (q.row - p.row) + (row_count c - 1)
rows_after {buf} {len} {p} {q} s c =
    rows_replaced (take len buf) (at_stands s.first (row_start (take len buf) p.row) refl) (at_stands s.second (row_start (take len buf) q.row) refl)
    s.order c

module _ {buf folds : List ℕ} {s : Sizes} {at : Checked} {p q : Position} {c : List ℕ} {k : Caret} (e : Editable buf folds s at p q c k) where
  abbrev t : List ℕ
  t = take s.len buf

  pub stretch : Stretch buf s.len p q
  stretch =
      record {
        fits = e.fits;
        brief = e.brief;
        first = e.first;
        second = e.second;
        order = e.order;
        rows_order = e.rows_order;
      }

  pub first_there : Stands t p.row (row_start t p.row) at.from
  first_there = rw e.from_is (at_stands e.first (row_start t p.row) refl)

  pub second_there : Stands t q.row (row_start t q.row) at.to
  second_there = rw e.to_is (at_stands e.second (row_start t q.row) refl)

  pub keepable : {table : List ℕ} {r : Rows} → Tabled t table (new_text buf s p q c) r → Keepable table r.before p.row q.row at.from at.to c
  keepable {table} {r} d =
      let size_is : length t ≡ s.len = length-take-le s.len buf e.fits in
      let some = rows_pos c in
      let room = d.room in
      rw d.before_is (
      record {
        rows_order = e.rows_order;
        last_row = second_there.in_row;
        fits = omega arith;
        order = e.stretch_order;
        near = omega (arith, e.stretch_within, e.brief);
        points_near = omega (arith, e.stretch_order, e.stretch_within, e.brief, e.points_brief);
        room = omega (arith, rows_after stretch c);
        moves = starts_move t table second_there e.stretch_order d.held (omega (arith, e.brief, e.points_brief));
      }
      )
