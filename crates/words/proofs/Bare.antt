-- A round at a row of a stretch without closed folds. Assumes nothing.
use Rattle.lists.proofs.Kit.{◌≡◌, refl, List, [], Bool, true, ◌&&◌, ℕ, ltb, leb, None}
use Rattle.word_kinds.specs.declared.Alphabet.{Alphabet}
use Rattle.text.specs.Text.{row_count, content_rows}
use Rattle.text.specs.declared.Position.{Position}
use Rattle.folds.specs.Folds.{any_fold, fold_refusal}
use Rattle.word_kinds.specs.declared.Spot.{Spot}
use Rattle.word_kinds.specs.declared.Setting.{Setting}
use Rattle.fold_stretches.specs.declared.Stretch.{Stretch}
use Rattle.fold_stretches.specs.Stretches.{NoFold}
use Rattle.fold_stretches.proofs.Spans.{no_span, none_span}
use Rattle.word_rounds.specs.declared.Motion.{Motion}
use Rattle.word_rounds.specs.declared.Motion.TheVariants.{Fwd, Back, End, EndBack}
use Rattle.word_rounds.specs.Rounds.{fold_at, round_of}
use Rattle.word_rounds.specs.Turns.{Set}

-- at a row of the stretch there is no closed fold, so a round from it is one without folds
module _ (t folds : List ℕ) {w : Stretch} (b : NoFold folds w) (p : Position) (h : (leb w.lo p.row && ltb p.row w.hi) ≡ true) where
  gone : fold_at t folds p ≡ None
  gone = no_span (row_count t) (content_rows t) p.row b h

  none : fold_at t [] p ≡ None
  none = none_span (row_count t) (content_rows t) p.row

  pub round_bare : (kind : ℕ → ℕ) (big : Bool) (m : Motion) (stop : Bool) → round_of t [] kind big m stop p ≡ round_of t folds kind big m stop p
  unfolding round_of
  round_bare kind big Fwd stop = rw (gone, none)
  round_bare kind big Back stop = rw (gone, none)
  round_bare kind big End stop = rw (gone, none)
  round_bare kind big EndBack stop = refl

-- what a round without folds requires
pub set_bare : {t folds : List ℕ} {k : Alphabet} {p : Spot} → Set t folds k p → Set t [] k p
unfolding fold_refusal any_fold
set_bare z =
    let its_folded = z.folded in
    record {
      lent = z.lent;
      folded = record { good = refl; all_rows = its_folded.all_rows; content_rows = its_folded.content_rows; spot = its_folded.spot };
    }
