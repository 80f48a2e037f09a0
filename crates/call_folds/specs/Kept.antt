-- The screen moves that remember, by the number that stands for each. Cited by `call_folds::kept`; number by number in `proofs/Numbers.antt`.
-- Assumes nothing.
use Rattle.std.specs.Prelude.{ℕ, List, [], true, false, cond, eqb, leb, Option, Some, None}
use Rattle.motions.specs.declared.Move.{Move}
use Rattle.widths.specs.declared.Ambiguous.{Ambiguous}
use Rattle.row_wrap.specs.declared.Wrap.{Wrap}
use Rattle.motions.specs.declared.Caret.{Caret}
use Rattle.motions.specs.declared.Move.TheVariants.{ScreenKept}
use Rattle.motions.specs.declared.Moved.{Moved}
use Rattle.motions.specs.declared.Moved.TheVariants.{Refused}
use Rattle.call_bytes.specs.Reply.{Reply}
use Rattle.call_texts.specs.Asks.{move_as}
use Rattle.call_texts.specs.Carets.{moved_six}
use Rattle.call_rows.specs.Flags.{setting_of, plain_of}
use Rattle.call_rows.specs.Wraps.{mode_of}

unfoldable pub kept_of : Ambiguous → ℕ → Wrap → ℕ → Option Move
kept_of a op mode width =
    cond (eqb op 0) (Some (ScreenKept mode width false a))
    (cond (eqb op 1) (Some (ScreenKept mode width true a))
    None)

-- the answer of the move, n its count, by a number with or without the flag for wide; 100 where the number stands for none
unfoldable pub remembered : ℕ → Wrap → ℕ → ℕ → ℕ → Caret → List ℕ → List ℕ → Moved
remembered op mode width n tabstop k t folds = move_as (kept_of (setting_of op) (plain_of op) mode width) n k t folds [] tabstop

-- the same by the number of a mode; 100 for another
unfoldable pub screen_kept : ℕ → ℕ → ℕ → ℕ → ℕ → Caret → List ℕ → List ℕ → Moved
screen_kept op mode width n tabstop k t folds = cond (leb mode 2) (remembered op (mode_of mode) width n tabstop k t folds) (Refused 100)

abbrev pub screens_kept : ℕ → ℕ → ℕ → ℕ → ℕ → Caret → List ℕ → List ℕ → Reply
screens_kept op mode width n tabstop k t folds = moved_six (screen_kept op mode width n tabstop k t folds)
