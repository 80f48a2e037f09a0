-- What the checks of a call with a table of row starts find out: what they find out without one, and then the table.
-- From document 02, #106. Definitions only. Assumes nothing.
use Rattle.std.specs.Prelude.{ℕ, ◌≤◌, ◌<◌, ◌≡◌, List, cond, eqb, length, take}
use Rattle.text_check.specs.Accept.{text_refusal}
use Rattle.text.specs.Text.{row_count, content_rows}
use Rattle.text.specs.declared.Position.{Position}
use Rattle.positions.specs.declared.Entry.{Entry}
use Rattle.positions.specs.Positions.{refusal_at, refused_by, found_at}
use Rattle.row_table.specs.Table.{row_starts, table_refusal}

-- 1 to 4 as without a table, then 15, 16; else what is known of the position
unfoldable pub entry_with : List ℕ → List ℕ → ℕ → Position → Entry
entry_with t starts content p =
    let f = refusal_at t p in
    let g = table_refusal (row_count t) t starts content in
    cond (eqb f 0) (cond (eqb g 0) (found_at t p) (refused_by g)) (refused_by f)

-- a text that is accepted, and a table that is its own
pub record Held (t starts : List ℕ) (rows content : ℕ) : Type 0 where
  pub good : text_refusal t ≡ 0
  pub all_rows : rows ≡ row_count t
  pub fits : rows ≤ length starts
  pub table : take (row_count t) starts ≡ row_starts t
  pub count : content ≡ content_rows t

-- and a row of it
pub record HeldRow (t starts : List ℕ) (rows content row : ℕ) : Type 0 where
  pub held : Held t starts rows content
  pub in_row : row < rows
