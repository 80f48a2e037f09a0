-- What the contracts of the methods cite is what `CountsAdd` speaks of: each holds by definition. Assumes nothing.
use Rattle.lists.proofs.Kit.{refl, List, Bool, ℕ}
use Rattle.widths.specs.declared.Ambiguous.{Ambiguous}
use Rattle.motions.specs.declared.Caret.{Caret}
use Rattle.promises.specs.Methods.{Methods}

pub methods : (t folds list : List ℕ) (tabstop n : ℕ) (k : Caret) (big stop : Bool) (a : Ambiguous) → Methods t folds list tabstop n k big stop a
methods t folds list tabstop n k big stop a =
    record {
      left = refl;
      right_in_line = refl;
      right_to_end = refl;
      space_fwd = refl;
      backspace_back = refl;
      section_backward = refl;
      section_forward = refl;
      section_end_backward = refl;
      section_end_forward = refl;
      next_line = refl;
      prev_line = refl;
      word_fwd = refl;
      word_back = refl;
      word_end = refl;
      word_end_back = refl;
      up = refl;
      down = refl;
      screen_up_kept = λ mode width. refl;
      screen_down_kept = λ mode width. refl;
    }
