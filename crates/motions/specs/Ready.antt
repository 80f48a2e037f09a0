-- What the walks of `src/` require, once the checks have refused nothing. Definitions only. Assumes nothing.
use Rattle.std.specs.Prelude.{ℕ, ◌≤◌, ◌<◌, ◌^◌, ◌≡◌, List}
use Rattle.text_check.specs.Accept.{text_refusal}
use Rattle.text.specs.Text.{row_count}
use Rattle.text.specs.declared.Line.{Line}
use Rattle.folds.specs.Folds.{fold_refusal}
use Rattle.keywords.specs.declared.KeywordSpec.{KeywordSpec}
use Rattle.word_rounds.specs.declared.Motion.{Motion}
use Rattle.vertical.specs.Moves
use Rattle.vertical.specs.Viewport.{Counts}
use Rattle.positions.specs.declared.Entry.{Entry}
use Rattle.positions.specs.Positions.{Accepted}
use Rattle.motions.specs.declared.Caret.{Caret}
use Rattle.motions.specs.Carets.{here}
use Rattle.motions.specs.WordMoves.{folds_of}

-- a row and a column that a caret holds
pub record CaretFits (r c : ℕ) : Type 0 where
  pub row : r < 2 ^ 32
  pub col : c < 2 ^ 32

-- a walk by the tables of a setting, from a place of a row
pub record LineReady (t folds : List ℕ) (rows content : ℕ) (l : Line) (col tabstop : ℕ) : Type 0 where
  pub place : Moves.Accepted t folds l col tabstop
  pub counts : Counts t rows content

-- the folds and the tabstop that a vertical motion takes, and the motion from a caret
pub record RowsTaken (t folds : List ℕ) (tabstop : ℕ) : Type 0 where
  pub folds_good : fold_refusal folds (row_count t) ≡ 0
  pub stop : tabstop ≤ 1000

pub record RowsReady (t folds : List ℕ) (tabstop : ℕ) (k : Caret) (e : Entry) : Type 0 where
  pub accepted : Accepted t (here k) e
  pub takes : RowsTaken t folds tabstop

-- a word motion with the folds that it takes, and one by the table of a list
pub record WordReady (t folds : List ℕ) (m : Motion) (k : Caret) (e : Entry) : Type 0 where
  pub accepted : Accepted t (here k) e
  pub folds_good : fold_refusal (folds_of m folds) (row_count t) ≡ 0

pub record TableReady (t folds : List ℕ) (spec : KeywordSpec) (m : Motion) (k : Caret) (e : Entry) : Type 0 where
  pub word : WordReady t folds m k e
  pub short : spec.len ≤ 128

-- `%` from a caret
pub record KeyReady (t : List ℕ) (k : Caret) (e : Entry) : Type 0 where
  pub clear : text_refusal t ≡ 0
  pub accepted : Accepted t (here k) e
