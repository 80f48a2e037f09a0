-- Every position that a call writes stands in the text, those in the middle of a call among them. Document 01: "every position written has row < rows
-- and column at most the row's character count". Definitions only; `every_inside` is in `proofs/Positions.antt`. Long by its calls: a clause for each.
-- Assumes nothing.
use Rattle.std.specs.Prelude.{ℕ, ◌≡◌, List, [], ◌∷◌, Bool, true, false, cond, ◌||◌, eqb, leb}
use Rattle.text.specs.Text.{position}
use Rattle.chars.specs.White.{is_white}
use Rattle.widths.specs.declared.Ambiguous.{Ambiguous}
use Rattle.widths.specs.Widths.{width_as}
use Rattle.list_tokens.specs.Tokens.{in_list}
use Rattle.row_wrap.specs.declared.Wrap.{Wrap}
use Rattle.row_wrap.specs.Modes.{is_none, segments_of}
use Rattle.word_kinds.specs.Places.{kind_of}
use Rattle.word_rounds.specs.declared.Motion.TheVariants.{Fwd, Back, End, EndBack}
use Rattle.text.specs.declared.Position.{Position}
use Rattle.steps.specs.Steps.{times, space_fwd, backspace_back}
use Rattle.motions.specs.declared.Caret.{Caret}
use Rattle.motions.specs.declared.Moved.{Moved}
use Rattle.motions.specs.declared.Moved.TheVariants.{To, Refused}
use Rattle.motions.specs.Carets.{here}
use Rattle.call_rows.specs.Flags.{setting_of, plain_of}
use Rattle.call_rows.specs.Wraps.{mode_of}
use Rattle.brackets.specs.Matching.{matching_bracket_pos}
use Rattle.call_texts.specs.Moves.{motion}
use Rattle.call_texts.specs.Inners.{inner_by}
use Rattle.call_texts.specs.Seeks.{seek}
use Rattle.call_texts.specs.Viewports.{viewport}
use Rattle.call_folds.specs.Terms.{word}
use Rattle.call_folds.specs.Upright.{vertical}
use Rattle.call_folds.specs.Kept.{screen_kept}
use Rattle.vim_words.specs.ByVim.{in_vim_list}
use Rattle.promises.specs.Positions.{Call, plain, by_word, by_vim_list, upright, kept, edge, search, partner}
use Rattle.promises.specs.Positions.{standing, word_vim, in_sought, in_partner, in_inner, positions, AllIn}
use Rattle.promises.specs.Trails.{trail, word_writes, screen_writes}

-- of a call that is not refused, by the caret that it answers with
abbrev pub writing : Moved → (Caret → List Position) → List Position
writing (To c) f = f c
writing (Refused n) f = []

-- to a row: its first column, and then the column that `move_first_non_blank` finds
abbrev pub by_row : Caret → List Position
by_row c = position c.row 0 ∷ standing c

-- `<Space>` and `<BS>` write each round, `+`, `-`, `_`, `gg` and `G` go by the row, and the others write once. One that stays may write nothing
unfoldable pub plain_writes : ℕ → ℕ → Caret → List ℕ → Caret → List Position
plain_writes op n k t c =
    cond (eqb op 3) (trail (λ p. p) (space_fwd t) (times n) (here k))
    (cond (eqb op 4) (trail (λ p. p) (backspace_back t) (times n) (here k))
    (cond (leb 16 op) (by_row c) (standing c)))

-- the word motions, by the numbers of `word`, and the kinds of characters by their list
unfoldable pub term_writes : ℕ → Bool → ℕ → Caret → List ℕ → List ℕ → (ℕ → ℕ) → List Position
term_writes op big n k t folds kind =
    cond (eqb op 0) (word_writes t folds kind big Fwd false n (position k.row k.col))
    (cond (eqb op 1) (word_writes t folds kind big Back false n (position k.row k.col))
    (cond (eqb op 2) (word_writes t folds kind big End false n (position k.row k.col))
    (cond (eqb op 3) (word_writes t folds kind big End true n (position k.row k.col))
    (word_writes t [] kind big EndBack false n (position k.row k.col)))))

-- `gj` and `gk`: with mode None or width 0 they write once, as `j` and `k` do
abbrev pub screen_moves : Ambiguous → Wrap → ℕ → Bool → ℕ → Caret → List ℕ → List ℕ → Caret → List Position
screen_moves a mode width down n k t folds c =
    cond (eqb width 0 || is_none mode) (standing c)
    (screen_writes t folds (segments_of (width_as a) is_white mode width) down n (record { row = k.row; col = k.col }))

-- by the numbers of `vertical`, with or without the flag for wide
unfoldable pub upright_writes : ℕ → Wrap → ℕ → ℕ → Caret → List ℕ → List ℕ → Caret → List Position
upright_writes op mode width n k t folds c =
    let a = setting_of op in
    cond (eqb (plain_of op) 0) (standing c)
    (cond (eqb (plain_of op) 1) (standing c)
    (cond (eqb (plain_of op) 2) (screen_moves a mode width false n k t folds c) (screen_moves a mode width true n k t folds c)))

-- what a call writes: all of it in the order of the writes, and nothing where it is refused. `matching_bracket_pos` writes nothing: what it answers.
-- The screen moves that remember, which the Rust does not have, write once
unfoldable pub written : Call → Caret → List ℕ → List Position
written (plain op n) k t = writing (motion op n k t) (plain_writes op n k t)
written (by_word op big n folds list) k t = writing (word op big n k t folds list) (λ c. term_writes op big n k t folds (kind_of (in_list list) big))
written (by_vim_list op big n folds list) k t = writing (word_vim op big n k t folds list) (λ c. term_writes op big n k t folds (kind_of (in_vim_list list) big))
written (upright op mode width n tabstop folds) k t =
    writing (vertical op mode width n tabstop k t folds) (upright_writes op (mode_of mode) width n k t folds)
written (kept op mode width n tabstop folds) k t = writing (screen_kept op mode width n tabstop k t folds) standing
written (edge op top height offset) k t = writing (viewport op top height offset k t) by_row
written (search op x) k t = in_sought (seek op x k t)
written partner k t = in_partner (matching_bracket_pos t k.row k.col)

-- the last of a list, none of an empty one
unfoldable pub ends : Position → List Position → Position
ends p [] = p
ends p (q ∷ l) = ends q l

abbrev pub last_of : List Position → List Position
last_of [] = []
last_of (p ∷ l) = ends p l ∷ []

-- each position written stands in the text, and the last one is that of the answer
pub record Written (c : Call) (k : Caret) (t : List ℕ) : Type 0 where
  pub inside : AllIn t (written c k t)
  pub last : last_of (written c k t) ≡ positions c k t

abbrev pub EveryPositionInside : Type 0
EveryPositionInside = (c : Call) (k : Caret) (t : List ℕ) → Written c k t

-- `inner_pair` writes nothing: the four positions that it answers with stand in the text
abbrev pub EveryRangeInside : Type 0
EveryRangeInside = (kind row col : ℕ) (t : List ℕ) → AllIn t (in_inner (inner_by kind row col t))
