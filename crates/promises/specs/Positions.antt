-- The calls that answer with positions, the positions that they answer with, and when a position stands in the text. `inner_pair` answers with four.
-- Definitions only; what a call writes on the way is in `specs/Writes.antt`. Assumes nothing.
use Rattle.std.specs.Prelude.{ℕ, List, [], ◌∷◌, Bool}
use Rattle.text.specs.Text.{position}
use Rattle.bracket_walks.specs.declared.Partner.{Partner}
use Rattle.bracket_walks.specs.declared.Partner.TheVariants.{There, None, Refused as Partner-as-Refused}
use Rattle.brackets.specs.Matching.{matching_bracket_pos}
use Rattle.bracket_inner.specs.declared.Inner.{Inner}
use Rattle.bracket_inner.specs.declared.Inner.TheVariants.{Pair, None as Inner-as-None, Refused as Inner-as-Refused}
use Rattle.text.specs.declared.Position.{Position}
use Rattle.positions.specs.Positions.{Inside}
use Rattle.motions.specs.declared.Caret.{Caret}
use Rattle.motions.specs.declared.Moved.{Moved}
use Rattle.motions.specs.declared.Moved.TheVariants.{To, Refused}
use Rattle.motions.specs.declared.Sought.{Sought}
use Rattle.motions.specs.declared.Sought.TheVariants.{Found, Missing, Refused as Sought-as-Refused}
use Rattle.motions.specs.Carets.{here}
use Rattle.call_texts.specs.Moves.{motion}
use Rattle.call_texts.specs.Seeks.{seek}
use Rattle.call_folds.specs.Terms.{word}
use Rattle.call_texts.specs.Viewports.{viewport}
use Rattle.call_folds.specs.Upright.{vertical}
use Rattle.call_folds.specs.Kept.{screen_kept}
use Rattle.vim_words.specs.declared.VimMoved.{VimMoved}
use Rattle.vim_words.specs.declared.VimMoved.TheVariants.{To as VimMoved-as-To, Bad, Refused as VimMoved-as-Refused}
use Rattle.call_classes.specs.ByTerm.{term_of}
use Rattle.call_vim_words.specs.ByTerm.{by_vim_term}

-- the calls by their argument lists, with all but the text and the caret
pub data Call : Type 0 where
  plain : (op count : ℕ) → Call
  by_word : (op : ℕ) (big : Bool) (count : ℕ) (folds list : List ℕ) → Call
  by_vim_list : (op : ℕ) (big : Bool) (count : ℕ) (folds list : List ℕ) → Call
  upright : (op mode width count tabstop : ℕ) (folds : List ℕ) → Call
  kept : (op mode width count tabstop : ℕ) (folds : List ℕ) → Call
  edge : (op top height offset : ℕ) → Call
  search : (op x : ℕ) → Call
  partner : Call

abbrev pub standing : Caret → List Position
standing k = here k ∷ []

-- a word motion by a Vim list, without the place of 17
abbrev pub placeless : VimMoved → Moved
placeless (VimMoved-as-To k) = To k
placeless (Bad p) = Refused 17
placeless (VimMoved-as-Refused f) = Refused f

abbrev pub word_vim : ℕ → Bool → ℕ → Caret → List ℕ → List ℕ → List ℕ → Moved
word_vim op big count k t folds list = placeless (by_vim_term (term_of op) big count k t folds list)

-- the positions in an answer: none in a refusal
abbrev pub in_moved : Moved → List Position
in_moved (To k) = standing k
in_moved (Refused f) = []

abbrev pub in_sought : Sought → List Position
in_sought (Found k) = standing k
in_sought (Missing k) = standing k
in_sought (Sought-as-Refused f) = []

abbrev pub in_partner : Partner → List Position
in_partner (There p) = position p.row p.col ∷ []
in_partner None = []
in_partner (Partner-as-Refused f) = []

abbrev pub in_inner : Inner → List Position
in_inner (Pair r) = r.from ∷ r.to ∷ r.opening ∷ r.past ∷ []
in_inner Inner-as-None = []
in_inner (Inner-as-Refused f) = []

unfoldable pub positions : Call → Caret → List ℕ → List Position
positions (plain op count) k t = in_moved (motion op count k t)
positions (by_word op big count folds list) k t = in_moved (word op big count k t folds list)
positions (by_vim_list op big count folds list) k t = in_moved (word_vim op big count k t folds list)
positions (upright op mode width count tabstop folds) k t = in_moved (vertical op mode width count tabstop k t folds)
positions (kept op mode width count tabstop folds) k t = in_moved (screen_kept op mode width count tabstop k t folds)
positions (edge op top height offset) k t = in_moved (viewport op top height offset k t)
positions (search op x) k t = in_sought (seek op x k t)
positions partner k t = in_partner (matching_bracket_pos t k.row k.col)

-- in one of its rows, and at most at the row's end
abbrev pub In : List ℕ → Position → Type 0
In t p = Inside t p

abbrev pub AllIn : List ℕ → List Position → Type 0
AllIn t [] = Unit
AllIn t (p ∷ l) = In t p × AllIn t l
