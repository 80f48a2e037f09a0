-- What a walk goes by where it was made before. Assumes nothing.
use Rattle.lists.proofs.Kit.{◌≡◌, ap, ◌∙◌, List, Bool, ℕ}
use Rattle.text.specs.declared.Position.{Position}
use Rattle.word_kinds.specs.Places.{kind_of}
use Rattle.word_kinds.specs.Lent.{kind_by}
use Rattle.word_kinds.specs.declared.Spot.{Spot}
use Rattle.word_rounds.specs.declared.Motion.{Motion}
use Rattle.word_rounds.specs.Rounds.{word_motion}
use Rattle.word_rounds.specs.Turns.{Folded}
use Rattle.words.specs.declared.Prepared.{Prepared}
use Rattle.words.specs.Prepared.{Prepares}
use Rattle.words.specs.Ready.{MadeReady}

module _ {t : List ℕ} {word : ℕ → Bool} {big : Bool} {rows content : ℕ} {r : Prepared} (made : Prepares t word big rows content r) where
  pub made_folded : {folds : List ℕ} {p : Spot} → Folded t folds rows content p → Folded t folds r.setting.rows r.setting.content p
  made_folded f =
      record {
        good = rw made.all_rows f.good;
        all_rows = made.all_rows ∙ f.all_rows;
        content_rows = made.content_rows ∙ f.content_rows;
        spot = f.spot;
      }

  -- the walk by what was made
  pub made_ready : {folds : List ℕ} {p : Spot} → Folded t folds rows content p → MadeReady t folds r.bounds r.setting r.high p
  made_ready f = record { bounded = record { room = made.room; folded = made_folded f }; none_high = made.none_high }

  pub made_motion : (folds : List ℕ) (m : Motion) (stop : Bool) (count : ℕ) (p : Position) →
      word_motion t folds (kind_by r.bounds r.setting) r.setting.big m stop count p ≡
      word_motion t folds (kind_of word big) big m stop count p
  made_motion folds m stop count p = ap (λ (kind : ℕ → ℕ). word_motion t folds kind r.setting.big m stop count p) made.kinds ∙
      ap (λ (b : Bool). word_motion t folds (kind_of word big) b m stop count p) made.is_big
