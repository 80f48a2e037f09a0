-- What a user of tab columns leans on, over any width function w: a setting may change the table and leaves these as they are.
-- Assumes nothing.
use Rattle.lists.proofs.Kit.{◌≡◌, sym, ap, ◌∙◌, List, ℕ, suc, ◌+◌, ◌-◌, ◌*◌, ◌%◌, ◌≤◌, ◌<◌, mod-lt, mod-add-mod, mod_self, dec_lt, ℕ_discrete, arith, length}
use Rattle.lists.proofs.Kit.{get_or, eq-eqb, ne_eqb}
use Rattle.row_tabs.specs.Cells.{stop_of}
use Rattle.row_tabs.specs.Indents.{leading_width}
use Rattle.row_tabs.proofs.Accepted.{stop_pos, cells_tab}
use Rattle.row_columns.specs.Columns.{visual_col, char_from, char_col, cursor_col}
use Rattle.row_columns.proofs.Visual.{visual_step, visual_rises, visual_most}
use Rattle.row_columns.proofs.Cursor.{tab_ends}
use Rattle.row_columns.proofs.Leading.{blanks_of, leading_visual}
use Rattle.row_columns.proofs.Chars.{Holds, char_holds, holds_only}

module _ (w : ℕ → ℕ) (tabstop : ℕ) (row : List ℕ) where
  -- visual columns never fall as the character grows
  pub column_rises : (i j : ℕ) → i ≤ j → visual_col w tabstop row i ≤ visual_col w tabstop row j
  column_rises i j h = visual_rises w (stop_of tabstop) 0 row i j h

  -- and are at most b for each character before, where no width and no tabstop is above b
  pub column_most : (b : ℕ) → ((x : ℕ) → w x ≤ b) → stop_of tabstop ≤ b → (i : ℕ) → visual_col w tabstop row i ≤ b * i
  column_most b wide near i = omega (arith, visual_most w (stop_of tabstop) b wide near 0 row i)

  zero_is : {c : ℕ} → c ≡ 0 → char_col w tabstop row c ≡ 0
  zero_is {c} e = rw (eq-eqb c 0 e)

  from_is : {c : ℕ} → (c ≡ 0 → ⊥) → char_col w tabstop row c ≡ char_from w (stop_of tabstop) 0 row c
  from_is {c} n = rw (ne_eqb c 0 n)

  -- every cell of a character maps back to it; visual column 0 is left to character 0
  pub cell_back : (i c : ℕ) → visual_col w tabstop row i ≤ c → c < visual_col w tabstop row (i + 1) → (c ≡ 0 → i ≡ 0) → char_col w tabstop row c ≡ i
  cell_back i c low high zeroth = go (ℕ_discrete c 0)
    where
      go : Dec (c ≡ 0) → char_col w tabstop row c ≡ i
      go (yes e) = zero_is e ∙ sym (zeroth e)
      go (no n) = from_is n ∙ holds_only w (stop_of tabstop) c (char_holds w (stop_of tabstop) c 0 row (omega arith)) low high

  -- so there and back again gives the character itself wherever it has a cell
  pub char_back : (i : ℕ) → visual_col w tabstop row i < visual_col w tabstop row (i + 1) → (visual_col w tabstop row i ≡ 0 → i ≡ 0) →
      char_col w tabstop row (visual_col w tabstop row i) ≡ i
  char_back i has zeroth = cell_back i (visual_col w tabstop row i) (omega arith) has zeroth

  -- no answer is past the row's count
  pub char_within : (c : ℕ) → char_col w tabstop row c ≤ length row
  char_within c = go (ℕ_discrete c 0)
    where
      go : Dec (c ≡ 0) → char_col w tabstop row c ≤ length row
      go (yes e) = rw (zero_is e) (omega arith)
      go (no n) = rw (from_is n) (char_holds w (stop_of tabstop) c 0 row (omega arith)).within

  -- past the last cell it is the count
  pub char_past : (c : ℕ) → 0 < c → visual_col w tabstop row (length row) ≤ c → char_col w tabstop row c ≡ length row
  char_past c p h = go (dec_lt (char_from w (stop_of tabstop) 0 row c) (length row))
    where
      found : Holds w (stop_of tabstop) 0 row c (char_from w (stop_of tabstop) 0 row c)
      found = char_holds w (stop_of tabstop) c 0 row (omega arith)

      go : Dec (char_from w (stop_of tabstop) 0 row c < length row) → char_col w tabstop row c ≡ length row
      go (yes l) = absurd (omega (arith, found.high l, visual_rises w (stop_of tabstop) 0 row (suc (char_from w (stop_of tabstop) 0 row c)) (length row) l))
      go (no l) = from_is {c = c} (λ e. omega arith) ∙ omega (arith, found.within)

  -- a cursor is drawn in a cell of its character, wherever that has one
  pub cursor_inside : (i : ℕ) → visual_col w tabstop row i < visual_col w tabstop row (i + 1) →
      (visual_col w tabstop row i ≤ cursor_col w tabstop row i) × (cursor_col w tabstop row i < visual_col w tabstop row (i + 1))
  cursor_inside i has = go (ℕ_discrete (get_or row i 0) 9)
    where
      go : Dec (get_or row i 0 ≡ 9) → (visual_col w tabstop row i ≤ cursor_col w tabstop row i) × (cursor_col w tabstop row i < visual_col w tabstop row (i + 1))
      go (yes e) = rw (eq-eqb _ 9 e) (omega arith, omega arith)
      go (no n) = rw (ne_eqb _ 9 n) (omega arith, has)

  -- a tab has a cell, and ends at a multiple of the tabstop
  pub tab_has_cell : (i : ℕ) → i < length row → get_or row i 0 ≡ 9 → visual_col w tabstop row i < visual_col w tabstop row (i + 1)
  tab_has_cell i h e = tab_ends w (stop_of tabstop) row i h (stop_pos tabstop) e

  pub tab_aligned : (i : ℕ) → i < length row → get_or row i 0 ≡ 9 → visual_col w tabstop row (i + 1) % stop_of tabstop ≡ 0
  tab_aligned i h e = rw (visual_step w (stop_of tabstop) 0 row i h, cells_tab w (stop_of tabstop) _ _ e)
      (multiple (visual_col w tabstop row i) (stop_of tabstop) (stop_pos tabstop))
    where
      multiple : (v t : ℕ) → 0 < t → (v + (t - v % t)) % t ≡ 0
      multiple v t p =
          let whole : v % t + (t - v % t) ≡ t = omega (arith, mod-lt v p) in
          sym (mod-add-mod v t (t - v % t)) ∙ ap (λ (m : ℕ). m % t) whole ∙ mod_self t

  -- the leading width is the visual column of the first character that is neither space nor tab, where a space is one cell
  pub leading_column : w 32 ≡ 1 → leading_width tabstop row ≡ visual_col w tabstop row (blanks_of row)
  leading_column one = leading_visual w (stop_of tabstop) one 0 row
