-- The checks of a move: where they refuse nothing the walk has what it requires. Assumes nothing.
use Rattle.lists.proofs.Kit.{◌≡◌, refl, ap, sym, ◌∙◌, List, [], ◌∷◌, Bool, true, false, cond, ℕ, ◌≤◌, arith, eqb, ltb, eqb-true, eqb-false, ltb-false}
use Rattle.chars.specs.Scalar.{is_scalar}
use Rattle.text_check.specs.Accept.{text_refusal}
use Rattle.text.specs.Text.{row_count}
use Rattle.folds.specs.Folds.{fold_refusal}
use Rattle.positions.specs.declared.Entry.{Entry}
use Rattle.positions.specs.Positions.{or_folds}
use Rattle.positions.proofs.Lowest.{lowest_then}
use Rattle.positions.proofs.Checks.{entry_clear, entered}
use Rattle.positions.proofs.Entered.{sought_none, folds_none, folds_number}
use Rattle.motions.specs.declared.Caret.{Caret}
use Rattle.motions.specs.declared.Move.{Move}
use Rattle.motions.specs.declared.Move.TheVariants.{By, Word, Rows, Screen, ScreenKept, Viewport, Bracket, Find}
use Rattle.motions.specs.Carets.{here, caret_refusal, entry_of}
use Rattle.motions.specs.WordMoves.{folds_of}
use Rattle.motions.specs.UpDown.{stop_refusal, vertical_refusal}
use Rattle.motions.specs.Ready.{RowsTaken}
use Rattle.motions.specs.Checks.{or_stop, checked, Takes, Ready}

-- a tabstop after a refusal f, or none
stop_none : (f tabstop : ℕ) → or_stop f tabstop ≡ 0 → (f ≡ 0) × (tabstop ≤ 1000)
unfolding or_stop
stop_none f tabstop = go (eqb f 0) (ltb 1000 tabstop) refl refl
  where
    go : (b s : Bool) → eqb f 0 ≡ b → ltb 1000 tabstop ≡ s → cond b (cond s 6 0) f ≡ 0 → (f ≡ 0) × (tabstop ≤ 1000)
    go true true p q z = absurd (omega (arith, z))
    go true false p q z = (eqb-true f 0 p, ltb-false 1000 tabstop q)
    go false s p q z = absurd (eqb-false f 0 p z)

module _ (t folds : List ℕ) (tabstop : ℕ) (k : Caret) (e : Entry) (is : e ≡ entry_of t k) where
  pub stop_number : or_stop (or_folds e folds) tabstop ≡ vertical_refusal t folds tabstop k
  unfolding or_stop
  stop_number = ap (λ (f : ℕ). cond (eqb f 0) (stop_refusal tabstop) f) (folds_number t (here k) e is folds)
      ∙ lowest_then (text_refusal t ∷ caret_refusal t k ∷ fold_refusal folds (row_count t) ∷ []) (stop_refusal tabstop)

  ready : (m : Move) → e.refusal ≡ 0 → Takes t folds tabstop m → Ready t folds tabstop e m k
  ready m z takes = record { clear = entry_clear t (here k) e is z; accepted = entered t (here k) e is z; takes = takes }

  good : (own : List ℕ) → or_folds e own ≡ 0 → (e.refusal ≡ 0) × (fold_refusal own (row_count t) ≡ 0)
  good own z =
      let none = folds_none e own z in
      (none.0, rw (sym (entered t (here k) e is none.0).all_rows) none.1)

  by_stop : (m : Move) → or_stop (or_folds e folds) tabstop ≡ 0 →
      (RowsTaken t folds tabstop → Takes t folds tabstop m) → Ready t folds tabstop e m k
  by_stop m z takes =
      let none = stop_none (or_folds e folds) tabstop z in
      let right = good folds none.0 in
      ready m right.0 (takes (record { folds_good = right.1; stop = none.1 }))

  pub checked_ready : (m : Move) → checked e folds tabstop m ≡ 0 → Ready t folds tabstop e m k
  checked_ready (By w) z = ready (By w) z tt
  checked_ready (Word m big stop) z =
      let right = good (folds_of m folds) z in
      ready (Word m big stop) right.0 right.1
  checked_ready (Rows down a) z = by_stop (Rows down a) z (λ h. h)
  checked_ready (Screen mode width down a) z = by_stop (Screen mode width down a) z (λ h. h)
  checked_ready (ScreenKept mode width down a) z = by_stop (ScreenKept mode width down a) z (λ h. h)
  checked_ready (Viewport edge top height offset) z = ready (Viewport edge top height offset) z tt
  checked_ready Bracket z = ready Bracket z tt
  checked_ready (Find x forward till skip) z = ready (Find x forward till skip) (sought_none e.refusal (is_scalar x) z) tt
