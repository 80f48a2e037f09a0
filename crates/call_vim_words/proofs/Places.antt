-- The place of 17 is one of a list of at most 1,024 code points. Assumes nothing.
use Rattle.lists.proofs.Kit.{List, Bool, true, false, cond, ℕ, eqb, Option, Some, None}
use Rattle.positions.specs.Positions.{refusal_folds}
use Rattle.vim_reader.specs.Table.{read_of}
use Rattle.word_rounds.specs.declared.Motion.{Motion}
use Rattle.motions.specs.declared.Caret.{Caret}
use Rattle.motions.specs.Carets.{here}
use Rattle.motions.specs.WordMoves.{folds_of, word_caret}
use Rattle.vim_words.specs.declared.VimMoved.TheVariants.{To, Bad, Refused}
use Rattle.vim_words.specs.ByVim.{in_vim_list, by_read, word_by_vim}
use Rattle.call_vim.proofs.Bounds.{read_place}
use Rattle.call_vim_words.specs.ByTerm.{by_vim_term, PlaceIn}

module _ (list : List ℕ) (k : Caret) where
  read_in : PlaceIn (by_read (read_of list) k)
  unfolding by_read
  read_in = go (eqb (read_of list).refusal 0) (eqb (read_of list).refusal 17)
    where
      go : (a b : Bool) → PlaceIn (cond a (To k) (cond b (Bad (read_of list).place) (Refused (read_of list).refusal)))
      go true b = tt
      go false true = read_place list
      go false false = tt

word_in : (t folds list : List ℕ) (big : Bool) (m : Motion) (stop : Bool) (n : ℕ) (k : Caret) → PlaceIn (word_by_vim t folds list big m stop n k)
unfolding word_by_vim
word_in t folds list big m stop n k = go (eqb (refusal_folds t folds (here k)) 0)
  where
    go : (a : Bool) → PlaceIn (cond a (by_read (read_of list) (word_caret t folds (in_vim_list list) big m stop n k)) (Refused (refusal_folds t folds (here k))))
    go true = read_in list (word_caret t folds (in_vim_list list) big m stop n k)
    go false = tt

pub place_in : (a : Option (Motion × Bool)) (big : Bool) (n : ℕ) (k : Caret) (t folds list : List ℕ) → PlaceIn (by_vim_term a big n k t folds list)
unfolding by_vim_term
place_in (Some (m, stop)) big n k t folds list = word_in t (folds_of m folds) list big m stop n k
place_in None big n k t folds list = tt
