-- The checks of a call by its move, and what they show. Document 01, "Refusal numbers": each number only where the call takes that input.
-- The list of a word motion is checked last (`walks` of `specs/Going.antt`). Definitions only; the laws are in `proofs/Checked.antt`. Assumes nothing.
use Rattle.std.specs.Prelude.{ℕ, ◌≡◌, List, cond, eqb}
use Rattle.chars.specs.Scalar.{is_scalar}
use Rattle.text_check.specs.Accept.{text_refusal}
use Rattle.text.specs.Text.{row_count}
use Rattle.folds.specs.Folds.{fold_refusal}
use Rattle.positions.specs.declared.Entry.{Entry}
use Rattle.positions.specs.Positions.{or_sought, or_folds, Accepted}
use Rattle.motions.specs.declared.Caret.{Caret}
use Rattle.motions.specs.declared.Move.{Move}
use Rattle.motions.specs.declared.Move.TheVariants.{By, Word, Rows, Screen, ScreenKept, Viewport, Bracket, Find}
use Rattle.motions.specs.Carets.{here}
use Rattle.motions.specs.WordMoves.{folds_of}
use Rattle.motions.specs.UpDown.{stop_refusal}
use Rattle.motions.specs.Ready.{RowsTaken}

-- a tabstop after a refusal f, or none
unfoldable pub or_stop : ℕ → ℕ → ℕ
or_stop f tabstop = cond (eqb f 0) (stop_refusal tabstop) f

-- the refusal by what the checks of text and caret have found out
abbrev pub checked : Entry → List ℕ → ℕ → Move → ℕ
checked e folds tabstop (By w) = e.refusal
checked e folds tabstop (Word m big stop) = or_folds e (folds_of m folds)
checked e folds tabstop (Rows down a) = or_stop (or_folds e folds) tabstop
checked e folds tabstop (Screen mode width down a) = or_stop (or_folds e folds) tabstop
checked e folds tabstop (ScreenKept mode width down a) = or_stop (or_folds e folds) tabstop
checked e folds tabstop (Viewport edge top height offset) = e.refusal
checked e folds tabstop Bracket = e.refusal
checked e folds tabstop (Find x forward till skip) = or_sought e.refusal (is_scalar x)

-- what they have shown of the inputs that the move takes
abbrev pub Takes : List ℕ → List ℕ → ℕ → Move → Type 0
Takes t folds tabstop (By w) = Unit
Takes t folds tabstop (Word m big stop) = fold_refusal (folds_of m folds) (row_count t) ≡ 0
Takes t folds tabstop (Rows down a) = RowsTaken t folds tabstop
Takes t folds tabstop (Screen mode width down a) = RowsTaken t folds tabstop
Takes t folds tabstop (ScreenKept mode width down a) = RowsTaken t folds tabstop
Takes t folds tabstop (Viewport edge top height offset) = Unit
Takes t folds tabstop Bracket = Unit
Takes t folds tabstop (Find x forward till skip) = Unit

-- a call that none of them refuses
pub record Ready (t folds : List ℕ) (tabstop : ℕ) (e : Entry) (m : Move) (k : Caret) : Type 0 where
  pub clear : text_refusal t ≡ 0
  pub accepted : Accepted t (here k) e
  pub takes : Takes t folds tabstop m
