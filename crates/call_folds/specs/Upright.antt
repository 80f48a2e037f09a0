-- Up, down and the screen by the number that stands for each. Cited by `call_folds::upright`; number by number in `proofs/Numbers.antt`.
-- Assumes nothing.
use Rattle.std.specs.Prelude.{ℕ, List, [], true, false, cond, eqb, leb, Option, Some, None}
use Rattle.motions.specs.declared.Move.{Move}
use Rattle.widths.specs.declared.Ambiguous.{Ambiguous}
use Rattle.row_wrap.specs.declared.Wrap.{Wrap}
use Rattle.motions.specs.declared.Caret.{Caret}
use Rattle.motions.specs.declared.Move.TheVariants.{Rows, Screen}
use Rattle.motions.specs.declared.Moved.{Moved}
use Rattle.motions.specs.declared.Moved.TheVariants.{Refused}
use Rattle.call_bytes.specs.Reply.{Reply}
use Rattle.call_texts.specs.Asks.{move_as}
use Rattle.call_texts.specs.Carets.{moved}
use Rattle.call_rows.specs.Flags.{setting_of, plain_of}
use Rattle.call_rows.specs.Wraps.{mode_of}

unfoldable pub upright_of : Ambiguous → ℕ → Wrap → ℕ → Option Move
upright_of a op mode width =
    cond (eqb op 0) (Some (Rows false a))
    (cond (eqb op 1) (Some (Rows true a))
    (cond (eqb op 2) (Some (Screen mode width false a))
    (cond (eqb op 3) (Some (Screen mode width true a))
    None)))

-- the answer of the motion, n its count, by a number with or without the flag for wide; 100 where the number stands for none
unfoldable pub upright : ℕ → Wrap → ℕ → ℕ → ℕ → Caret → List ℕ → List ℕ → Moved
upright op mode width n tabstop k t folds = move_as (upright_of (setting_of op) (plain_of op) mode width) n k t folds [] tabstop

-- the same by the number of a mode; 100 for another
unfoldable pub vertical : ℕ → ℕ → ℕ → ℕ → ℕ → Caret → List ℕ → List ℕ → Moved
vertical op mode width n tabstop k t folds = cond (leb mode 2) (upright op (mode_of mode) width n tabstop k t folds) (Refused 100)

abbrev pub verticals : ℕ → ℕ → ℕ → ℕ → ℕ → Caret → List ℕ → List ℕ → Reply
verticals op mode width n tabstop k t folds = moved (vertical op mode width n tabstop k t folds)
