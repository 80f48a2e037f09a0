-- Where the two entries of the word motions answer the same: on a list that both readers take and read alike. Document 02, #108.
-- Definitions only; the proof is `words_alike` in `proofs/Alike.antt`. Assumes nothing.
use Rattle.std.specs.Prelude.{ℕ, ◌≡◌, List, Bool, true}
use Rattle.keywords.specs.Table.{parse_of}
use Rattle.vim_grammar.specs.declared.VimToken.{VimToken}
use Rattle.vim_grammar.specs.Grammar.{Reads}
use Rattle.vim_reader.specs.Table.{read_of}
use Rattle.vim_laws.specs.Common.{all_common}
use Rattle.word_rounds.specs.declared.Motion.{Motion}
use Rattle.motions.specs.declared.Caret.{Caret}
use Rattle.motions.specs.declared.Moved.{Moved}
use Rattle.motions.specs.declared.Moved.TheVariants as moved
use Rattle.motions.specs.WordMoves.{move_word}
use Rattle.vim_words.specs.declared.VimMoved.{VimMoved}
use Rattle.vim_words.specs.declared.VimMoved.TheVariants.{To, Refused}
use Rattle.vim_words.specs.ByVim.{word_by_vim}

-- the answer of the first entry, as one of the second
unfoldable pub of_first : Moved → VimMoved
of_first (moved.To k) = To k
of_first (moved.Refused f) = Refused f

abbrev pub WordsAlike : Type 0
WordsAlike =
    (t folds list : List ℕ) (big : Bool) (m : Motion) (stop : Bool) (count : ℕ) (k : Caret) (ts : List VimToken) →
    (parse_of list).refusal ≡ 0 → (read_of list).refusal ≡ 0 → Reads list ts → all_common ts ≡ true →
    word_by_vim t folds list big m stop count k ≡ of_first (move_word t folds list big m stop count k)
