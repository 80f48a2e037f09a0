-- Under narrow every statement is the one by `width_of`: each holds by definition. Assumes nothing.
use mathlib.Core.Path.{refl}
use Rattle.widths.specs.Widths.{width_as}
use Rattle.width_laws.specs.Before.{AsBefore}

pub as_before : AsBefore
unfolding width_as
as_before =
    record {
      width = λ x. refl;
      char_cols = λ row visual tabstop. refl;
      visual_cols = λ row col tabstop. refl;
      cursor_cols = λ row col tabstop. refl;
      chars_at = λ row start end offset. refl;
      cells_at = λ row start col. refl;
      wraps = λ mode width row room r left. refl;
      rows = λ t folds tabstop down n k. refl;
      screen = λ t folds tabstop mode width down n k. refl;
    }
