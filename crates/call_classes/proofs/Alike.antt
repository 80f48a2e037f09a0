-- The second engine's call beside the first's, by the same number: the same answer where the slice has the places. Assumes nothing.
use Rattle.lists.proofs.Kit.{◌≡◌, refl, sym, ap, ◌∙◌, List, Bool, true, false, cond, ℕ, ◌<◌, length, eqb, Option, Some, None}
use Rattle.word_rounds.specs.declared.Motion.{Motion}
use Rattle.motions.specs.declared.Move.{Move}
use Rattle.word_rounds.specs.declared.Motion.TheVariants.{Fwd, Back, End, EndBack}
use Rattle.motions.specs.declared.Caret.{Caret}
use Rattle.motions.specs.declared.Move.TheVariants.{Word}
use Rattle.motions.specs.WordMoves.{folds_of}
use Rattle.caret_by_class.proofs.Alike.{alike}
use Rattle.call_texts.specs.Asks.{move_as}
use Rattle.call_folds.specs.Terms.{word_of, word}
use Rattle.call_classes.specs.ByTerm.{term_of, by_term}

-- what `tsivareza_word` asks for by the same number
unfoldable asked_of : Option (Motion × Bool) → Bool → Option Move
asked_of (Some (m, stop)) big = Some (Word m big stop)
asked_of None big = None

same_number : (op : ℕ) (big : Bool) → word_of op big ≡ asked_of (term_of op) big
unfolding word_of term_of asked_of
same_number op big = go (eqb op 0) (eqb op 1) (eqb op 2) (eqb op 3) (eqb op 4)
  where
    go : (a b c d e : Bool) →
        cond a (Some (Word Fwd big false)) (cond b (Some (Word Back big false)) (cond c (Some (Word End big false)) (cond d (Some (Word End big true))
        (cond e (Some (Word EndBack big false)) None)))) ≡
        asked_of (cond a (Some (Fwd, false)) (cond b (Some (Back, false)) (cond c (Some (End, false)) (cond d (Some (End, true)) (cond e (Some (EndBack, false)) None))))) big
    go true b c d e = refl
    go false true c d e = refl
    go false false true d e = refl
    go false false false true e = refl
    go false false false false true = refl
    go false false false false false = refl

module _ (big : Bool) (n : ℕ) (k : Caret) (t folds list room : List ℕ) (enough : length t < length room) where
  term_alike : (a : Option (Motion × Bool)) → by_term a big n k t folds list room ≡ move_as (asked_of a big) n k t folds list 0
  unfolding by_term asked_of move_as
  term_alike (Some (m, stop)) = (alike t (folds_of m folds) list big m stop n k room).equal enough
  term_alike None = refl

  pub number_alike : (op : ℕ) → by_term (term_of op) big n k t folds list room ≡ word op big n k t folds list
  unfolding word
  number_alike op = term_alike (term_of op) ∙ ap (λ (a : Option Move). move_as a n k t folds list 0) (sym (same_number op big))
