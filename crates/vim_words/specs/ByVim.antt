-- The word motions by a Vim list: the first engine's, `move_word`, with the set of the list's tokens in place of the first reader's. Document 02, #108.
-- Definitions only; on a list that both readers read alike the two answer the same: `alike` in `proofs/Alike.antt`. Assumes nothing.
use Rattle.std.specs.Prelude.{ℕ, ◌≡◌, List, Bool, cond, eqb}
use Rattle.text.specs.Text.{row_count}
use Rattle.folds.specs.Folds.{fold_refusal}
use Rattle.positions.specs.declared.Entry.{Entry}
use Rattle.positions.specs.Positions.{refusal_folds, Accepted}
use Rattle.vim_grammar.specs.Tokens.{in_vim}
use Rattle.vim_reader.specs.declared.VimRead.{VimRead}
use Rattle.vim_reader.specs.declared.VimSpec.{VimSpec}
use Rattle.vim_reader.specs.Table.{kept, read_of}
use Rattle.word_kinds.specs.declared.Spot.{Spot}
use Rattle.word_rounds.specs.declared.Motion.{Motion}
use Rattle.word_rounds.specs.Turns.{Folded}
use Rattle.motions.specs.declared.Caret.{Caret}
use Rattle.motions.specs.Carets.{here}
use Rattle.motions.specs.WordMoves.{word_caret}
use Rattle.vim_words.specs.declared.VimMoved.{VimMoved}
use Rattle.vim_words.specs.declared.VimMoved.TheVariants.{To, Bad, Refused}
use Rattle.vim_words.specs.Flags.{LowTable}

-- the characters of a list
abbrev pub in_vim_list : List ℕ → ℕ → Bool
in_vim_list list = in_vim (kept (read_of list).spec)

-- a caret, or what the list is refused with: 7, 17 with its place, 8
unfoldable pub by_read : VimRead → Caret → VimMoved
by_read r k = cond (eqb r.refusal 0) (To k) (cond (eqb r.refusal 17) (Bad r.place) (Refused r.refusal))

-- text, caret and folds are refused before the list
unfoldable pub word_by_vim : List ℕ → List ℕ → List ℕ → Bool → Motion → Bool → ℕ → Caret → VimMoved
word_by_vim t folds list big m stop count k =
    let f = refusal_folds t folds (here k) in
    cond (eqb f 0) (by_read (read_of list) (word_caret t folds (in_vim_list list) big m stop count k)) (Refused f)

-- what a motion on offsets requires
pub record Walkable (t folds : List ℕ) (spec : VimSpec) (rows content : ℕ) (p : Spot) : Type 0 where
  pub folded : Folded t folds rows content p
  pub table : LowTable spec

-- and one on carets: inputs that were accepted
pub record Movable (t own : List ℕ) (spec : VimSpec) (k : Caret) (e : Entry) : Type 0 where
  pub accepted : Accepted t (here k) e
  pub good : fold_refusal own (row_count t) ≡ 0
  pub table : LowTable spec
