-- Counts of a way add, so many of it and then so many more: one more of the count is one and then the rest, for each way that is a round again and again.
-- A way that stops stays where it stopped. Assumes nothing.
use Rattle.lists.proofs.Kit.{◌≡◌, refl, ap, ◌∙◌, List, Bool, true, false, cond, ℕ, suc, ◌+◌, ◌-◌, ◌<◌, min, max, arith, eqb, leb, eqb-true, leb-true}
use Rattle.lists.specs.Rounds.{rounds}
use Rattle.lists.proofs.Rounds.{rounds_add, counts_add}
use Rattle.text.specs.Text.{content_rows}
use Rattle.text.specs.declared.Position.{Position}
use Rattle.positions.specs.Positions.{in_row}
use Rattle.steps.specs.Steps.{space_fwd, backspace_back}
use Rattle.row_walks.specs.Sections.{section_up, section_down}
use Rattle.row_walks.proofs.Adding.{up_more, down_more}
use Rattle.text_moves.specs.declared.Way.{Way}
use Rattle.text_moves.specs.declared.Way.TheVariants as way
use Rattle.text_moves.specs.Rows.{at_row, next_line, prev_line}
use Rattle.text_moves.specs.Sections.{section_back, section_on}
use Rattle.text_moves.specs.Ways.{gone}

-- one more of the count is one and then the rest
abbrev More : (ℕ → Position → Position) → Type 0
More f = (n : ℕ) (p : Position) → 0 < n → f (n + 1) p ≡ f n (f 1 p)

pub record Repeats (t : List ℕ) (w : Way) : Type 0 where
  pub more : More (gone t w)

pub way_adds : {t : List ℕ} {w : Way} → Repeats t w → (m n : ℕ) (p : Position) → 0 < m → 0 < n → gone t w (m + n) p ≡ gone t w n (gone t w m p)
way_adds {t} {w} r = counts_add (gone t w) r.more

-- rows that begin with a mark, up and down
module _ (t : List ℕ) where
  back_more : (x : ℕ) → More (section_back t x)
  back_more x n p h =
      let all : max (n + 1) 1 ≡ suc (max n 1) = omega arith in
      ap (λ (r : ℕ). record { row = r; col = 0 }) (ap (λ (m : ℕ). section_up t x m p.row) all ∙ up_more t x (max n 1) p.row)

  on_more : (x : ℕ) → More (section_on t x)
  on_more x n p h =
      let all : max (n + 1) 1 ≡ suc (max n 1) = omega arith in
      let last = content_rows t - 1 in
      ap (λ (r : ℕ). record { row = r; col = 0 })
      (ap (λ (m : ℕ). section_down t x m p.row (last - p.row)) all ∙ down_more t x (max n 1) last p.row (last - p.row) refl)

  -- characters, from row to row
  rounds_more : (f : Position → Position) → More (λ n. rounds f (max n 1))
  rounds_more f n p h =
      let all : max (n + 1) 1 ≡ max 1 1 + max n 1 = omega arith in
      ap (λ (m : ℕ). rounds f m p) all ∙ rounds_add f (max 1 1) (max n 1) p

  -- to the first character of a row that is no blank
  next_more : More (next_line t)
  next_more n p h = go (leb last p.row) refl
    where
      last : ℕ
      last = content_rows t - 1

      on : leb last p.row ≡ false → (b : Bool) → leb last (min (p.row + max 1 1) last) ≡ b → at_row t (min (p.row + max (n + 1) 1) last) ≡
          cond b (at_row t (min (p.row + max 1 1) last)) (at_row t (min (min (p.row + max 1 1) last + max n 1) last))
      on q true e = ap (at_row t) (omega (arith, leb-true last (min (p.row + max 1 1) last) e))
      on q false e = ap (at_row t) (omega arith)

      go : (b : Bool) → leb last p.row ≡ b →
          let one = cond b p (at_row t (min (p.row + max 1 1) last)) in
          cond b p (at_row t (min (p.row + max (n + 1) 1) last)) ≡ cond (leb last one.row) one (at_row t (min (one.row + max n 1) last))
      go true e = rw e
      go false e = on e (leb last (min (p.row + max 1 1) last)) refl

  prev_more : More (prev_line t)
  prev_more n p h = go (eqb p.row 0) refl
    where
      on : (b : Bool) → eqb (p.row - max 1 1) 0 ≡ b →
          at_row t (p.row - max (n + 1) 1) ≡ cond b (at_row t (p.row - max 1 1)) (at_row t (p.row - max 1 1 - max n 1))
      on true e = ap (at_row t) (omega (arith, eqb-true (p.row - max 1 1) 0 e))
      on false e = ap (at_row t) (omega arith)

      go : (b : Bool) → eqb p.row 0 ≡ b →
          let one = cond b p (at_row t (p.row - max 1 1)) in
          cond b p (at_row t (p.row - max (n + 1) 1)) ≡ cond (eqb one.row 0) one (at_row t (one.row - max n 1))
      go true e = rw e
      go false e = on (eqb (p.row - max 1 1) 0) refl

  -- the ways
  pub left : Repeats t way.Left
  left = record { more = λ n p h. ap (in_row p) (omega arith) }

  pub right : Repeats t way.RightInLine
  right = record { more = λ n p h. ap (in_row p) (omega arith) }

  pub right_to_end : Repeats t way.RightToEnd
  right_to_end = record { more = λ n p h. ap (in_row p) (omega arith) }

  pub space : Repeats t way.SpaceFwd
  space = record { more = rounds_more (space_fwd t) }

  pub backspace : Repeats t way.BackspaceBack
  backspace = record { more = rounds_more (backspace_back t) }

  pub section_backward : Repeats t way.SectionBackward
  section_backward = record { more = back_more 123 }

  pub section_forward : Repeats t way.SectionForward
  section_forward = record { more = on_more 123 }

  pub section_end_backward : Repeats t way.SectionEndBackward
  section_end_backward = record { more = back_more 125 }

  pub section_end_forward : Repeats t way.SectionEndForward
  section_end_forward = record { more = on_more 125 }

  pub next_line_lem : Repeats t way.NextLine
  next_line_lem = record { more = next_more }

  pub prev_line_lem : Repeats t way.PrevLine
  prev_line_lem = record { more = prev_more }
