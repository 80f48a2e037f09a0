-- The spot of an accepted caret, and the caret of a spot that a word motion ended on. Assumes nothing.
use Rattle.lists.proofs.Kit.{◌≡◌, ap, subst, ◌∙◌, List, ℕ, ◌+◌, ◌-◌, ◌≤◌, arith, length}
use Rattle.text.specs.Offsets.{row_start, Stands}
use Rattle.text.specs.Text.{row_count, position}
use Rattle.text.specs.declared.Position.{Position}
use Rattle.text.proofs.Parts.{count_le}
use Rattle.folds.specs.Folds.{fold_refusal}
use Rattle.positions.specs.declared.Entry.{Entry}
use Rattle.positions.specs.Positions.{Accepted}
use Rattle.word_kinds.specs.declared.Spot.{Spot}
use Rattle.word_kinds.specs.Spots.{place_of, IsSpot}
use Rattle.word_rounds.specs.Turns.{Folded}
use Rattle.motions.specs.declared.Caret.{Caret}
use Rattle.motions.specs.Carets.{here, placed}
use Rattle.motions.specs.WordMoves.{at_place}
use Rattle.motions.specs.Ready.{CaretFits}

-- the spot of an accepted caret
module _ (t : List ℕ) (k : Caret) (e : Entry) (h : Accepted t (here k) e) where
  spot_of : IsSpot t (record { row = k.row; at = e.start + k.col })
  spot_of = subst (λ (s : ℕ). Stands t k.row s (e.start + k.col)) h.here.begins h.here

  pub place_of_lem : place_of t (record { row = k.row; at = e.start + k.col }) ≡ position k.row k.col
  place_of_lem = ap (position k.row) (omega (arith, h.here.begins))

-- what a word motion from it requires
pub word_ready : (t folds : List ℕ) (k : Caret) (e : Entry) → Accepted t (here k) e → fold_refusal folds (row_count t) ≡ 0 →
    Folded t folds e.rows e.content (record { row = k.row; at = e.start + k.col })
word_ready t folds k e h good =
    record { good = rw h.all_rows good; all_rows = h.all_rows; content_rows = h.content_rows; spot = spot_of t k e h }

-- the numbers of a spot fit a u32
pub spot_fits : {t : List ℕ} {r : Spot} (start : ℕ) → length t ≤ 1048576 → IsSpot t r → CaretFits r.row (r.at - start)
spot_fits {t} {r} start b s = record { row = omega (arith, b, s.in_row, count_le t); col = omega (arith, b, s.within) }

-- and the caret of a spot
pub caret_of_spot :
    (t : List ℕ) (k : Caret) (r : Spot) (c : ℕ) (w : Position) → c ≡ r.at - row_start t r.row → place_of t r ≡ w → placed k r.row c ≡ at_place k w
caret_of_spot t k r c w q e = ap (placed k r.row) q ∙ ap (at_place k) e
