-- The methods of `Caret` whose counts add, as moves: what the contract of each cites is what `CountsAdd` speaks of. Definitions only; `methods` is in
-- `proofs/Methods.antt`. Assumes nothing.
use Rattle.std.specs.Prelude.{ℕ, ◌≡◌, List, [], Bool, true, false}
use Rattle.widths.specs.declared.Ambiguous.{Ambiguous}
use Rattle.row_wrap.specs.declared.Wrap.{Wrap}
use Rattle.word_rounds.specs.declared.Motion.TheVariants.{Fwd, Back, End, EndBack}
use Rattle.text_moves.specs.declared.Way.TheVariants as way
use Rattle.motions.specs.declared.Caret.{Caret}
use Rattle.motions.specs.declared.Move.{Move}
use Rattle.motions.specs.declared.Move.TheVariants.{By, Word, Rows, ScreenKept}
use Rattle.motions.specs.declared.Moved.{Moved}
use Rattle.motions.specs.Going.{moved_by}
use Rattle.motions.specs.Columns.{move_left, move_right_in_line, move_right_to_end}
use Rattle.motions.specs.Steps.{move_space_fwd, move_backspace_back}
use Rattle.motions.specs.Sections.{move_section_backward, move_section_forward, move_section_end_backward, move_section_end_forward}
use Rattle.motions.specs.Lines.{move_first_non_blank_next_line, move_first_non_blank_prev_line}
use Rattle.motions.specs.WordMoves.{move_word}
use Rattle.motions.specs.UpDown.{move_rows, move_screen_rows_kept}

-- an answer is that of a move
abbrev pub Of : List ℕ → List ℕ → List ℕ → ℕ → ℕ → Caret → Move → Moved → Type 0
Of t folds list tabstop n k move answer = answer ≡ moved_by t folds list tabstop move n k

pub record Methods (t folds list : List ℕ) (tabstop n : ℕ) (k : Caret) (big stop : Bool) (a : Ambiguous) : Type 0 where
  pub left : Of t folds list tabstop n k (By way.Left) (move_left t n k)
  pub right_in_line : Of t folds list tabstop n k (By way.RightInLine) (move_right_in_line t n k)
  pub right_to_end : Of t folds list tabstop n k (By way.RightToEnd) (move_right_to_end t n k)
  pub space_fwd : Of t folds list tabstop n k (By way.SpaceFwd) (move_space_fwd t n k)
  pub backspace_back : Of t folds list tabstop n k (By way.BackspaceBack) (move_backspace_back t n k)
  pub section_backward : Of t folds list tabstop n k (By way.SectionBackward) (move_section_backward t n k)
  pub section_forward : Of t folds list tabstop n k (By way.SectionForward) (move_section_forward t n k)
  pub section_end_backward : Of t folds list tabstop n k (By way.SectionEndBackward) (move_section_end_backward t n k)
  pub section_end_forward : Of t folds list tabstop n k (By way.SectionEndForward) (move_section_end_forward t n k)
  pub next_line : Of t folds list tabstop n k (By way.NextLine) (move_first_non_blank_next_line t n k)
  pub prev_line : Of t folds list tabstop n k (By way.PrevLine) (move_first_non_blank_prev_line t n k)
  pub word_fwd : Of t folds list tabstop n k (Word Fwd big false) (move_word t folds list big Fwd false n k)
  pub word_back : Of t folds list tabstop n k (Word Back big false) (move_word t folds list big Back false n k)
  pub word_end : Of t folds list tabstop n k (Word End big stop) (move_word t folds list big End stop n k)
  pub word_end_back : Of t folds list tabstop n k (Word EndBack big false) (move_word t [] list big EndBack false n k)
  pub up : Of t folds list tabstop n k (Rows false a) (move_rows a t folds tabstop false n k)
  pub down : Of t folds list tabstop n k (Rows true a) (move_rows a t folds tabstop true n k)
  pub screen_up_kept : (mode : Wrap) (width : ℕ) →
      Of t folds list tabstop n k (ScreenKept mode width false a) (move_screen_rows_kept a t folds tabstop mode width false n k)
  pub screen_down_kept : (mode : Wrap) (width : ℕ) →
      Of t folds list tabstop n k (ScreenKept mode width true a) (move_screen_rows_kept a t folds tabstop mode width true n k)
