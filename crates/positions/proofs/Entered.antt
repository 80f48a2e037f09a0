-- What a call goes by once its checks, those of a character sought or of folds among them, have not refused it. Assumes nothing.
use Rattle.lists.proofs.Kit.{◌≡◌, ap, ◌∙◌, List, [], ◌∷◌, Bool, true, false, cond, ℕ, ◌+◌, ◌≤◌, ◌<◌, ℕ_discrete, arith, eqb, eq-eqb, ne_eqb}
use Rattle.chars.specs.Scalar.{is_scalar}
use Rattle.text_check.specs.Accept.{text_refusal}
use Rattle.text.specs.Text.{row_count}
use Rattle.text.proofs.Content.{content_near}
use Rattle.folds.specs.Folds.{fold_refusal}
use Rattle.text.specs.declared.Position.{Position}
use Rattle.positions.specs.declared.Entry.{Entry}
use Rattle.positions.specs.Positions.{position_refusal, refusal_at, or_sought, refusal_with, refusal_folds, or_folds, entry_of, Accepted}
use Rattle.positions.proofs.Lowest.{lowest_then}
use Rattle.positions.proofs.Checks.{entry_number, entered}

-- with the character sought, none refuses only where none does without it
pub sought_none : (f : ℕ) (b : Bool) → or_sought f b ≡ 0 → f ≡ 0
unfolding or_sought
sought_none f b z = go (eqb f 1) b z
  where
    go : (a b : Bool) → cond a 1 (cond b f 2) ≡ 0 → f ≡ 0
    go true b z = absurd (omega arith)
    go false true z = z
    go false false z = absurd (omega arith)

-- and with folds
pub folds_none : (e : Entry) (folds : List ℕ) → or_folds e folds ≡ 0 → (e.refusal ≡ 0) × (fold_refusal folds e.rows ≡ 0)
unfolding or_folds
folds_none e folds z = go (ℕ_discrete e.refusal 0)
  where
    go : Dec (e.refusal ≡ 0) → (e.refusal ≡ 0) × (fold_refusal folds e.rows ≡ 0)
    go (yes y) = (y, rw (eq-eqb e.refusal 0 y) at z)
    go (no n) = absurd (n (rw (ne_eqb e.refusal 0 n) at z))

-- the refusals of a call, from what `enter` has found out
module _ (t : List ℕ) (k : Position) (e : Entry) (is : e ≡ entry_of t k) where
  pub sought_number : (x : ℕ) → or_sought e.refusal (is_scalar x) ≡ refusal_with t k x
  sought_number x = ap (λ (f : ℕ). or_sought f (is_scalar x)) (entry_number t k e is)

  pub folds_number : (folds : List ℕ) → or_folds e folds ≡ refusal_folds t folds k
  unfolding or_folds
  folds_number folds = go (ℕ_discrete e.refusal 0) ∙ lowest_then (text_refusal t ∷ position_refusal t k ∷ []) (fold_refusal folds (row_count t))
    where
      n : e.refusal ≡ refusal_at t k
      n = entry_number t k e is

      go : Dec (e.refusal ≡ 0) → cond (eqb e.refusal 0) (fold_refusal folds e.rows) e.refusal ≡
          cond (eqb (refusal_at t k) 0) (fold_refusal folds (row_count t)) (refusal_at t k)
      go (yes z) = rw (← n, eq-eqb e.refusal 0 z, (entered t k e is z).all_rows)
      go (no m) = rw (← n, ne_eqb e.refusal 0 m)

-- the rows with content are all rows, or all but the last
pub accepted_rows : {t : List ℕ} {k : Position} {e : Entry} → Accepted t k e → (0 < e.content) × (e.content ≤ e.rows) × (e.rows ≤ e.content + 1)
accepted_rows {t} a = omega (arith, content_near t, a.all_rows, a.content_rows)
