-- The calls number by number: each answers as the method that it stands for. All hold by computation. Assumes nothing.
use Rattle.lists.proofs.Kit.{◌≡◌, refl, List, true, false, ℕ}
use Rattle.vertical.specs.declared.Edge.TheVariants.{Top, Middle, Bottom}
use Rattle.motions.specs.declared.Caret.{Caret}
use Rattle.motions.specs.Columns.{move_left, move_right_in_line, move_right_to_end, move_line_start, move_first_non_blank, move_line_end, move_goto_column, move_last_non_blank}
use Rattle.motions.specs.Steps.{move_space_fwd, move_backspace_back}
use Rattle.motions.specs.Paragraphs.{move_paragraph_prev, move_paragraph_next}
use Rattle.motions.specs.Sections.{move_section_backward, move_section_forward, move_section_end_backward, move_section_end_forward}
use Rattle.motions.specs.Lines.{move_first_non_blank_next_line, move_first_non_blank_prev_line, move_first_non_blank_line, move_top, move_bottom}
use Rattle.motions.specs.Finds.{match_bracket, find_char_on_line}
use Rattle.motions.specs.ViewportMoves.{move_viewport}
use Rattle.call_texts.specs.Asks.{move_as, seek_as}
use Rattle.call_texts.specs.Moves.{way_of, motion}
use Rattle.call_texts.specs.Seeks.{seek_of, seek}
use Rattle.call_texts.specs.Viewports.{edge_of, viewport}

pub record Motions (t : List ℕ) (n : ℕ) (k : Caret) : Type 0 where
  pub m0 : motion 0 n k t ≡ move_left t n k
  pub m1 : motion 1 n k t ≡ move_right_in_line t n k
  pub m2 : motion 2 n k t ≡ move_right_to_end t n k
  pub m3 : motion 3 n k t ≡ move_space_fwd t n k
  pub m4 : motion 4 n k t ≡ move_backspace_back t n k
  pub m5 : motion 5 n k t ≡ move_line_start t k
  pub m6 : motion 6 n k t ≡ move_first_non_blank t k
  pub m7 : motion 7 n k t ≡ move_line_end t k
  pub m8 : motion 8 n k t ≡ move_goto_column t n k
  pub m9 : motion 9 n k t ≡ move_last_non_blank t k
  pub m10 : motion 10 n k t ≡ move_paragraph_prev t n k
  pub m11 : motion 11 n k t ≡ move_paragraph_next t n k
  pub m12 : motion 12 n k t ≡ move_section_backward t n k
  pub m13 : motion 13 n k t ≡ move_section_forward t n k
  pub m14 : motion 14 n k t ≡ move_section_end_backward t n k
  pub m15 : motion 15 n k t ≡ move_section_end_forward t n k
  pub m16 : motion 16 n k t ≡ move_first_non_blank_next_line t n k
  pub m17 : motion 17 n k t ≡ move_first_non_blank_prev_line t n k
  pub m18 : motion 18 n k t ≡ move_first_non_blank_line t n k
  pub m19 : motion 19 n k t ≡ move_top t k
  pub m20 : motion 20 n k t ≡ move_bottom t n k

pub motion_numbers : (t : List ℕ) (n : ℕ) (k : Caret) → Motions t n k
unfolding motion way_of move_as
motion_numbers t n k =
    record {
      m0 = refl;
      m1 = refl;
      m2 = refl;
      m3 = refl;
      m4 = refl;
      m5 = refl;
      m6 = refl;
      m7 = refl;
      m8 = refl;
      m9 = refl;
      m10 = refl;
      m11 = refl;
      m12 = refl;
      m13 = refl;
      m14 = refl;
      m15 = refl;
      m16 = refl;
      m17 = refl;
      m18 = refl;
      m19 = refl;
      m20 = refl;
    }

pub record Seeks (t : List ℕ) (x : ℕ) (k : Caret) : Type 0 where
  pub s0 : seek 0 x k t ≡ match_bracket t k
  pub s1 : seek 1 x k t ≡ find_char_on_line t x false false false k
  pub s2 : seek 2 x k t ≡ find_char_on_line t x true false false k
  pub s3 : seek 3 x k t ≡ find_char_on_line t x false true false k
  pub s4 : seek 4 x k t ≡ find_char_on_line t x true true false k
  pub s5 : seek 5 x k t ≡ find_char_on_line t x false false true k
  pub s6 : seek 6 x k t ≡ find_char_on_line t x true false true k
  pub s7 : seek 7 x k t ≡ find_char_on_line t x false true true k
  pub s8 : seek 8 x k t ≡ find_char_on_line t x true true true k

pub seek_numbers : (t : List ℕ) (x : ℕ) (k : Caret) → Seeks t x k
unfolding seek seek_of seek_as
seek_numbers t x k = record { s0 = refl; s1 = refl; s2 = refl; s3 = refl; s4 = refl; s5 = refl; s6 = refl; s7 = refl; s8 = refl }

pub record Viewports (t : List ℕ) (top height offset : ℕ) (k : Caret) : Type 0 where
  pub v0 : viewport 0 top height offset k t ≡ move_viewport t Top top 0 offset k
  pub v1 : viewport 1 top height offset k t ≡ move_viewport t Middle top height 0 k
  pub v2 : viewport 2 top height offset k t ≡ move_viewport t Bottom top height offset k

pub viewport_numbers : (t : List ℕ) (top height offset : ℕ) (k : Caret) → Viewports t top height offset k
unfolding viewport edge_of move_as
viewport_numbers t top height offset k = record { v0 = refl; v1 = refl; v2 = refl }
