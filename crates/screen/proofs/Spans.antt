-- The rows of a closed fold are rows of the text, and a jump to one of them. Assumes nothing.
use Rattle.lists.proofs.Kit.{◌≡◌, refl, ap, sym, ◌∙◌, List, Bool, true, false, cond, ℕ, ◌+◌, ◌-◌, ◌≤◌, ◌<◌, min, max, arith, eq-eqb, ne_eqb, Option, Some, None}
use Rattle.text.specs.Text.{row_count, row_len, content_rows}
use Rattle.text.specs.Offsets.{line_at}
use Rattle.folds.proofs.Spans.{same_first, same_last}
use Rattle.folds.specs.Folds.{hidden, prev_visible, next_visible, last_before, closed_from, closed_fold_at}
use Rattle.text.specs.declared.Line.{Line}
use Rattle.folds.proofs.Past.{visible_within, prev_within}
use Rattle.text.proofs.Stands.{line_there}
use Rattle.text.specs.declared.Position.{Position}
use Rattle.vertical.specs.Moves.{wanted_col}
use Rattle.vertical.specs.Viewport.{Counts}
use Rattle.screen.specs.declared.Glided.{Glided}
use Rattle.screen.specs.declared.Kept.{Kept}
use Rattle.screen.specs.Screen.{jumped_to, out_of, jumped, landed_at}
use Rattle.screen.specs.Keeping.{starts_at, glided, screen_kept}
use Rattle.screen.specs.Walks.{JumpedTo}
use Rattle.screen.specs.Ready.{JumpReady}

module _ (folds : List ℕ) (rows content : ℕ) (some : 0 < content) (most : content ≤ rows) where
  last_inside : (first : ℕ) → first < rows → last_before content (next_visible folds rows first) < rows
  last_inside first h = go (next_visible folds rows first) refl
    where
      go : (v : Option ℕ) → next_visible folds rows first ≡ v → last_before content v < rows
      go (Some next) e = omega (arith, visible_within folds (first + 1) (rows - (first + 1)) next e)
      go None e = omega arith

  from_first : (down : Bool) (v : Option ℕ) → ((x : ℕ) → v ≡ Some x → x < rows) → (a b : ℕ) → closed_from folds rows content v ≡ Some (a, b) → cond down b a < rows
  from_first down None f a b e = let never : ◌≡◌ {A = ℕ} 0 1 = cc in absurd (omega arith)
  from_first down (Some first) f a b e = go (hidden folds (first + 1)) down e
    where
      go : (s d : Bool) → cond {A = Option (ℕ × ℕ)} s (Some (first, last_before content (next_visible folds rows first))) None ≡ Some (a, b) → cond d b a < rows
      go false d w = let never : ◌≡◌ {A = ℕ} 0 1 = cc in absurd (omega arith)
      go true true w =
          let last_before_is : last_before content (next_visible folds rows first) ≡ b = same_last w in rw last_before_is at (last_inside first (f first refl))
      go true false w = let first_is : first ≡ a = same_first w in rw first_is at (f first refl)

  pub end_within : (down : Bool) (row a b : ℕ) → row < rows → closed_fold_at folds rows content row ≡ Some (a, b) → cond down b a < rows
  end_within down row a b h e = go (hidden folds row) refl
    where
      go : (s : Bool) → hidden folds row ≡ s → cond down b a < rows
      go true s = from_first down (prev_visible folds row) (λ x v. omega (arith, prev_within folds row x v)) a b (rw s at e)
      go false s = from_first down (Some row) (λ x v. let row_is : row ≡ x = cc in omega arith) a b (rw s at e)

module _ (t : List ℕ) (l : Line) (col row : ℕ) (j : JumpReady t l col row) where
  pub jump_own : row ≡ l.row → JumpedTo t (jumped_to t (record { row = l.row; col = col }) row) (record { row = l.row; start = l.start; col = col })
  jump_own e = record { place = rw (eq-eqb row l.row e); line = j.line; small = j.small }

  pub jump_other : (m : Line) (len c : ℕ) → (row ≡ l.row → ⊥) → m ≡ line_at t row → len ≡ row_len t m.row → c ≡ min col (len - 1) →
      JumpedTo t (jumped_to t (record { row = l.row; col = col }) row) (record { row = m.row; start = m.start; col = c })
  jump_other m len c e q s w =
      let row_is : m.row ≡ row = ap (λ (x : Line). x.row) q in
      let c_is : c ≡ min col (row_len t row - 1) = w ∙ ap (λ (x : ℕ). min col (x - 1)) (s ∙ ap (row_len t) row_is) in
      record {
        place = rw (ne_eqb row l.row e) (λ i. record { row = row_is i; col = c_is i });
        line = line_there t m row q j.in_rows;
        small = omega (arith, w, j.small);
      }

-- the jump, by what the calls find
module _ (t folds : List ℕ) (down : Bool) (p : Position) {rows content : ℕ} {s : Option (ℕ × ℕ)} (counts : Counts t rows content)
    (e : s ≡ closed_fold_at folds rows content p.row) where
  read : s ≡ closed_fold_at folds (row_count t) (content_rows t) p.row
  read = e ∙ ap (λ (n : ℕ). closed_fold_at folds n content p.row) counts.all_rows ∙
      ap (λ (n : ℕ). closed_fold_at folds (row_count t) n p.row) counts.content_rows

  pub jumped_out : (a b : ℕ) → s ≡ Some (a, b) → jumped t folds down p ≡ jumped_to t p (cond down b a)
  jumped_out a b q = ap (out_of t down p) (sym read ∙ q)

  pub jumped_not : s ≡ None → jumped t folds down p ≡ p
  jumped_not q = ap (out_of t down p) (sym read ∙ q)

-- the target and the offset, by what the calls find
pub target_made : (w : ℕ → ℕ) (t folds : List ℕ) (tabstop : ℕ) (lay : List ℕ → List ℕ) (down : Bool) (count row col : ℕ) (sticky : Option ℕ) (offset : Option ℕ)
    {want n : ℕ} {j : Position} {g : Glided} →
    want ≡ wanted_col w t tabstop row col sticky → n ≡ max count 1 → j ≡ starts_at t folds down offset (record { row = row; col = col }) →
    g ≡ glided t folds lay down n offset j →
    record { target = landed_at want g.place; offset = Some g.offset } ≡ screen_kept w t folds tabstop lay down count row col sticky offset
target_made w t folds tabstop lay down count row col sticky offset {want} {n} {j} {g} a b c d =
    let kept : ℕ → Glided → Kept = λ x y. record { target = landed_at x y.place; offset = Some y.offset } in
    ap (λ (x : ℕ). kept x g) a ∙
    ap (kept (wanted_col w t tabstop row col sticky))
    (d ∙ ap (λ (x : ℕ). glided t folds lay down x offset j) b ∙ ap (glided t folds lay down (max count 1) offset) c)
