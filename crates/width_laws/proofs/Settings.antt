-- Wide is never less than narrow, and without characters of class A the answers are the same. Assumes nothing.
use Rattle.lists.proofs.Kit.{sym, ap, List, ℕ, ◌-◌, take, drop}
use Rattle.chars.specs.White.{is_white}
use Rattle.widths.specs.declared.Ambiguous.TheVariants.{Narrow, Wide}
use Rattle.widths.specs.Widths.{is_ambiguous, width_as}
use Rattle.widths.proofs.Laws.{wide_least, wide_same}
use Rattle.row_check.specs.Row.{row_refusal, column_of}
use Rattle.row_tabs.specs.Cells.{column_refusal}
use Rattle.visible_rows.specs.Visible.{delta_of}
use Rattle.vertical.specs.declared.Target.{Target}
use Rattle.motions.specs.Carets.{moving}
use Rattle.screen.specs.declared.Kept.{Kept}
use Rattle.motions.specs.UpDown.{vertical_refusal, at_target, at_kept}
use Rattle.width_laws.specs.Settings.{NeverLess, Without, SameOnRow, SameOnText, SameWithout}
use Rattle.width_laws.proofs.Agree.{Agree, agree_without}
use Rattle.width_laws.proofs.Columns.{visual_same, char_same, cursor_same}
use Rattle.width_laws.proofs.Cells.{segments_same, char_at_same, cells_at_same}
use Rattle.width_laws.proofs.Texts.{vertical_same, screen_same, kept_same}
use Rattle.width_laws.proofs.Less.{column_less, cursor_less, cells_less}

pub never_less : NeverLess
never_less =
    record {
      cells = wide_least;
      columns = column_less wide_least;
      cursors = cursor_less wide_least;
      offsets = λ row start col. cells_less wide_least (take (col - start) (drop start row));
    }

abbrev wide : ℕ → ℕ
wide = width_as Wide

abbrev narrow : ℕ → ℕ
narrow = width_as Narrow

agree : (l : List ℕ) → Without l → Agree (width_as Wide) (width_as Narrow) l
agree l none = agree_without wide narrow is_ambiguous (λ x e. sym (wide_same x e)) l none

on_row : (row : List ℕ) → Without row → SameOnRow row
on_row row none =
    let by_agree = agree row none in
    record {
      char_cols = λ visual tabstop. ap (column_of (column_refusal row tabstop)) (char_same wide narrow tabstop row by_agree visual);
      visual_cols = λ col tabstop. ap (column_of (column_refusal row tabstop)) (visual_same wide narrow tabstop row by_agree col);
      cursor_cols = λ col tabstop. ap (column_of (column_refusal row tabstop)) (cursor_same wide narrow tabstop row by_agree col);
      chars_at = λ start end offset. ap (column_of (row_refusal row)) (char_at_same wide narrow row start end offset by_agree);
      cells_at = λ start col. ap (column_of (row_refusal row)) (cells_at_same wide narrow row start col by_agree);
      segments = λ mode width. segments_same wide narrow is_white mode width row by_agree;
    }

on_text : (t : List ℕ) → Without t → SameOnText t
on_text t none =
    let by_agree = agree t none in
    record {
      rows = λ folds tabstop down n k. ap (λ (p : Target). moving (vertical_refusal t folds tabstop k) (at_target p))
          (vertical_same wide narrow t by_agree folds tabstop (delta_of down n) k.row k.col k.sticky);
      screen = λ folds tabstop mode width down n k. ap (λ (p : Target). moving (vertical_refusal t folds tabstop k) (at_target p))
          (screen_same wide narrow t by_agree folds tabstop mode width down n k.row k.col k.sticky);
      kept = λ folds tabstop mode width down n k. ap (λ (p : Kept). moving (vertical_refusal t folds tabstop k) (at_kept p))
          (kept_same wide narrow t by_agree folds tabstop mode width down n k.row k.col k.sticky k.offset);
    }

pub same_without : SameWithout
same_without = record { on_row = on_row; on_text = on_text }
