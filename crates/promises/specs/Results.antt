-- What "no input has two results" says of the forms that the public contracts have. A result is all that a call hands back:
-- its answer, and what each lent slice holds afterwards. Definitions only; `one_result` is in `proofs/Results.antt`. Assumes nothing.
use Rattle.std.specs.Prelude.{ℕ, ◌≡◌, List}
use Rattle.widths.specs.declared.Ambiguous.{Ambiguous}
use Rattle.row_wrap.specs.declared.Wrap.{Wrap}
use Rattle.row_wrap.specs.declared.Segments.{Segments}
use Rattle.row_wrap.specs.Calls.{Wraps}
use Rattle.session.specs.Written.{Printed}
use Rattle.call_bytes.specs.Reply.{Reply, Replied, Answered}
use Rattle.call_bytes.specs.Joined.{AnsweredAll}
use Rattle.text.specs.declared.Position.{Position}
use Rattle.motions.specs.declared.Caret.{Caret}
use Rattle.edit_checks.specs.declared.Sizes.{Sizes}
use Rattle.edits.specs.declared.Edited.{Edited}
use Rattle.edits.specs.Edits.{EditsTo}
use Rattle.call_edits.specs.Edits.{HostEdits}
use Rattle.call_edits.specs.Bytes.{EditsFilled}
use Rattle.text.specs.declared.Counted.{Counted}
use Rattle.row_table.specs.Fill.{FillsTo}
use Rattle.edit_rows.specs.declared.EditedRows.{EditedRows}
use Rattle.edit_rows.specs.Rows.{KeepsTo}
use Rattle.call_row_table.specs.Tables.{HostFills, HostKeeps}
use Rattle.call_row_table.specs.Bytes.{FillsFilled, KeepsFilled}

-- a contract allows one result at most
abbrev pub One : {A : Type 0} → (A → Type 0) → Type 0
One {A = A} allows = (x y : A) → allows x → allows y → x ≡ y

pub record OneResult : Type 1 where
  -- `r ≡ definition`: every method of `Caret`; the calls of `chars`, `widths`, `letters`, `keywords`, `list_signs`, `row_tabs`, `row_columns`,
  -- `row_offsets`, `text`, `brackets` and `bracket_inner`
  pub equal : {A : Type 0} (v : A) → One (λ (r : A). r ≡ v)
  -- `wrap_segments`: the answer, and the slice lent for segments
  pub wraps : (a : Ambiguous) (mode : Wrap) (width : ℕ) (row out : List ℕ) → One (λ (x : Segments × List ℕ). Wraps a mode width row out x.0 x.1)
  -- an export on code points: the number, and the places for the answer
  pub replied : (m : Reply) (out : List ℕ) → One (λ (x : ℕ × List ℕ). Replied m out x.0 x.1)
  -- an export on bytes: the number, the room, and the places for the answer
  pub answered : (s room out : List ℕ) (m : Reply) → One (λ (x : ℕ × List ℕ × List ℕ). Answered s room out m x.0 x.1 x.2)
  -- an export on several byte strings, which share the room
  pub answered_all : (l : List (List ℕ)) (room out : List ℕ) (m : Reply) → One (λ (x : ℕ × List ℕ × List ℕ). AnsweredAll l room out m x.0 x.1 x.2)
  -- `wrap_segments`, UTF-8, `without_plus` and `vim_write` for hosts, on code points and on bytes: another clause says what is left in the slice lent
  -- for segments, code points or bytes
  pub replied_leaving : (m : Reply) (out left : List ℕ) → One (λ (x : ℕ × List ℕ × List ℕ). Replied m out x.0 x.1 × (x.2 ≡ left))
  pub answered_leaving : (s room out : List ℕ) (m : Reply) (left : List ℕ) →
      One (λ (x : ℕ × List ℕ × List ℕ × List ℕ). Answered s room out m x.0 x.1 x.2 × (x.3 ≡ left))
  -- a session: how many bytes it prints, and the places for them
  pub printed : (out s : List ℕ) → One (λ (x : ℕ × List ℕ). Printed out s x.0 x.1)
  -- an edit: the answer, and what both buffers hold, place by place; for hosts the number, the buffers, the caret and the sizes, and on bytes the room
  pub edited : (buf fold : List ℕ) (s : Sizes) (p q : Position) (c : List ℕ) (k : Caret) →
      One (λ (x : Edited × List ℕ × List ℕ). EditsTo buf fold s p q c k x.0 x.1 x.2)
  pub host_edited : (buf fold : List ℕ) (p q : Position) (c caret sizes : List ℕ) →
      One (λ (x : ℕ × List ℕ × List ℕ × List ℕ × List ℕ). HostEdits buf fold p q c caret sizes x.0 x.1 x.2 x.3 x.4)
  pub edited_filled : (buf fold : List ℕ) (p : Position) (s room caret sizes : List ℕ) →
      One (λ (x : ℕ × List ℕ × List ℕ × List ℕ × List ℕ × List ℕ). EditsFilled buf fold p s room caret sizes x.0 x.1 x.2 x.3 x.4 x.5)
  -- a table filled: the answer, and every place of it; for hosts the number, the table and the places for the answer, and on bytes the room
  pub filled : (t table : List ℕ) → One (λ (x : Counted × List ℕ). FillsTo t table x.0 x.1)
  pub host_filled : (t table out : List ℕ) → One (λ (x : ℕ × List ℕ × List ℕ). HostFills t table out x.0 x.1 x.2)
  pub filled_filled : (s room table out : List ℕ) →
      One (λ (x : ℕ × List ℕ × List ℕ × List ℕ). FillsFilled s room table out x.0 x.1 x.2 x.3)
  -- an edit that keeps a table: as an edit, and every place of the table
  pub kept : (buf fold table : List ℕ) (s : Sizes) (content : ℕ) (p q : Position) (c : List ℕ) (k : Caret) →
      One (λ (x : EditedRows × List ℕ × List ℕ × List ℕ). KeepsTo buf fold table s content p q c k x.0 x.1 x.2 x.3)
  pub host_kept : (buf fold table : List ℕ) (p q : Position) (c caret sizes : List ℕ) →
      One (λ (x : ℕ × List ℕ × List ℕ × List ℕ × List ℕ × List ℕ). HostKeeps buf fold table p q c caret sizes x.0 x.1 x.2 x.3 x.4 x.5)
  pub kept_filled : (buf fold at : List ℕ) (p : Position) (s room k z : List ℕ) →
      One (λ (x : ℕ × List ℕ × List ℕ × List ℕ × List ℕ × List ℕ × List ℕ). KeepsFilled buf fold at p s room k z x.0 x.1 x.2 x.3 x.4 x.5
      x.6)
