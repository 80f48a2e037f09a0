-- What each move answers, by the definitions of the motions. Cited by `Caret::go` and `Caret::moved_by`.
-- Definitions only; the laws are in `proofs/Going.antt`. Assumes nothing.
use Rattle.std.specs.Prelude.{ℕ, List, Bool}
use Rattle.text.specs.Text.{row_at}
use Rattle.row_wrap.specs.declared.Wrap.TheVariants.{None}
use Rattle.row_search.specs.Find.{find_on_row}
use Rattle.list_tokens.specs.Tokens.{in_list}
use Rattle.keywords.specs.Table.{parse_of}
use Rattle.word_rounds.specs.declared.Motion.{Motion}
use Rattle.brackets.specs.Find.{key_from}
use Rattle.text_moves.specs.Ways.{gone}
use Rattle.motions.specs.declared.Caret.{Caret}
use Rattle.motions.specs.declared.Move.{Move}
use Rattle.motions.specs.declared.Move.TheVariants.{By, Word, Rows, Screen, ScreenKept, Viewport, Bracket, Find}
use Rattle.motions.specs.declared.Moved.{Moved}
use Rattle.motions.specs.declared.Moved.TheVariants.{To, Refused}
use Rattle.motions.specs.declared.Sought.{Sought}
use Rattle.motions.specs.declared.Sought.TheVariants.{Found, Missing, Refused as Sought-as-Refused}
use Rattle.motions.specs.Carets.{here, put, leads}
use Rattle.motions.specs.WordMoves.{folds_of, word_caret, move_word}
use Rattle.motions.specs.UpDown.{screen_caret, move_rows, move_screen_rows, kept_caret, move_screen_rows_kept}
use Rattle.motions.specs.ViewportMoves.{viewport_caret, move_viewport}
use Rattle.motions.specs.Finds.{partner_to, lands_on, seeking, match_bracket, find_char_on_line}

-- a motion that is no search has found where it leads to
abbrev pub found : Moved → Sought
found (To k) = Found k
found (Refused f) = Sought-as-Refused f

-- the caret that a search leaves: where it found what it sought, or where it was
abbrev pub landed : Sought → Moved
landed (Found k) = To k
landed (Missing k) = To k
landed (Sought-as-Refused f) = Refused f

-- the caret after a move, n its count
abbrev pub moved_by : List ℕ → List ℕ → List ℕ → ℕ → Move → ℕ → Caret → Moved
moved_by t folds list tabstop (By w) n k = leads t k (gone t w n (here k))
moved_by t folds list tabstop (Word m big stop) n k = move_word t (folds_of m folds) list big m stop n k
moved_by t folds list tabstop (Rows down a) n k = move_rows a t folds tabstop down n k
moved_by t folds list tabstop (Screen mode width down a) n k = move_screen_rows a t folds tabstop mode width down n k
moved_by t folds list tabstop (ScreenKept mode width down a) n k = move_screen_rows_kept a t folds tabstop mode width down n k
moved_by t folds list tabstop (Viewport edge top height offset) n k = move_viewport t edge top height offset k
moved_by t folds list tabstop Bracket n k = landed (match_bracket t k)
moved_by t folds list tabstop (Find x forward till skip) n k = landed (find_char_on_line t x forward till skip k)

-- a word motion by its list: 7 or 8, or where it leads to
abbrev pub word_by : List ℕ → List ℕ → List ℕ → Bool → Motion → Bool → ℕ → Caret → Sought
word_by t folds list big m stop n k = seeking (parse_of list).refusal (Found (word_caret t folds (in_list list) big m stop n k))

-- what a move answers
abbrev pub goes : List ℕ → List ℕ → List ℕ → ℕ → Move → ℕ → Caret → Sought
goes t folds list tabstop (By w) n k = found (moved_by t folds list tabstop (By w) n k)
goes t folds list tabstop (Word m big stop) n k = found (moved_by t folds list tabstop (Word m big stop) n k)
goes t folds list tabstop (Rows down a) n k = found (moved_by t folds list tabstop (Rows down a) n k)
goes t folds list tabstop (Screen mode width down a) n k = found (moved_by t folds list tabstop (Screen mode width down a) n k)
goes t folds list tabstop (ScreenKept mode width down a) n k = found (moved_by t folds list tabstop (ScreenKept mode width down a) n k)
goes t folds list tabstop (Viewport edge top height offset) n k = found (moved_by t folds list tabstop (Viewport edge top height offset) n k)
goes t folds list tabstop Bracket n k = match_bracket t k
goes t folds list tabstop (Find x forward till skip) n k = find_char_on_line t x forward till skip k

-- the same where no check of text, caret, folds and tabstop refuses the call
abbrev pub walks : List ℕ → List ℕ → List ℕ → ℕ → Move → ℕ → Caret → Sought
walks t folds list tabstop (By w) n k = Found (put k (gone t w n (here k)))
walks t folds list tabstop (Word m big stop) n k = word_by t (folds_of m folds) list big m stop n k
walks t folds list tabstop (Rows down a) n k = Found (screen_caret a t folds tabstop None 0 down n k)
walks t folds list tabstop (Screen mode width down a) n k = Found (screen_caret a t folds tabstop mode width down n k)
walks t folds list tabstop (ScreenKept mode width down a) n k = Found (kept_caret a t folds tabstop mode width down n k)
walks t folds list tabstop (Viewport edge top height offset) n k = Found (viewport_caret t edge top height offset k)
walks t folds list tabstop Bracket n k = partner_to k (key_from t k.row k.col)
walks t folds list tabstop (Find x forward till skip) n k = lands_on k (find_on_row (row_at t k.row) k.col x forward till skip)
