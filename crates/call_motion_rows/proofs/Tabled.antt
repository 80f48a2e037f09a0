-- The calls with a table against those without: whatever a number asks for, the reply is that of the call without one, and then 15, 16.
-- Assumes nothing.
use Rattle.lists.proofs.Kit.{◌≡◌, refl, ap, ◌∙◌, List, [], Bool, true, false, cond, ℕ, eqb, leb, Option, Some, None}
use Rattle.motions.specs.declared.Move.{Move}
use Rattle.text.specs.Text.{row_count}
use Rattle.row_table.specs.Table.{table_refusal}
use Rattle.motions.specs.declared.Caret.{Caret}
use Rattle.motions.specs.declared.Moved.{Moved}
use Rattle.motions.specs.declared.Sought.{Sought}
use Rattle.motions.specs.declared.Sought.TheVariants.{Found, Missing, Refused}
use Rattle.motions.specs.Going.{landed, goes}
use Rattle.motions.proofs.Every.{landed_goes}
use Rattle.motion_rows.specs.Going.{or_table}
use Rattle.call_texts.specs.Asks.{move_as, seek_as}
use Rattle.call_texts.specs.Carets.{moved, moved_six}
use Rattle.call_texts.specs.Seeks.{sought}
use Rattle.call_folds.specs.Upright.{upright_of, upright, vertical}
use Rattle.call_folds.specs.Kept.{kept_of, remembered, screen_kept}
use Rattle.call_rows.specs.Flags.{setting_of, plain_of}
use Rattle.call_rows.specs.Wraps.{mode_of}
use Rattle.call_motion_rows.specs.Asks.{replied_by, by_table, rows_as, upright_by, kept_by}

split : {A B : Type 0} (f : A → B) (b : Bool) (x y : A) → f (cond b x y) ≡ cond b (f x) (f y)
split f true x y = refl
split f false x y = refl

-- the reply gives way to the table's number where the answer does: of four numbers, of six, and of five with what was found
moved_by_lem : (g : ℕ) (s : Sought) → moved (landed (or_table g s)) ≡ replied_by g (moved (landed s))
unfolding or_table moved replied_by
moved_by_lem g (Refused f) = refl
moved_by_lem g (Found k) = split (λ (s : Sought). moved (landed s)) (eqb g 0) (Found k) (Refused g)
moved_by_lem g (Missing k) = split (λ (s : Sought). moved (landed s)) (eqb g 0) (Missing k) (Refused g)

six_by : (g : ℕ) (s : Sought) → moved_six (landed (or_table g s)) ≡ replied_by g (moved_six (landed s))
unfolding or_table moved_six replied_by
six_by g (Refused f) = refl
six_by g (Found k) = split (λ (s : Sought). moved_six (landed s)) (eqb g 0) (Found k) (Refused g)
six_by g (Missing k) = split (λ (s : Sought). moved_six (landed s)) (eqb g 0) (Missing k) (Refused g)

sought_by : (g : ℕ) (s : Sought) → sought (or_table g s) ≡ replied_by g (sought s)
unfolding or_table sought replied_by
sought_by g (Refused f) = refl
sought_by g (Found k) = split sought (eqb g 0) (Found k) (Refused g)
sought_by g (Missing k) = split sought (eqb g 0) (Missing k) (Refused g)

-- whatever is asked for, the call with a table replies as the one without, and then 15, 16
module _ (t starts : List ℕ) (content : ℕ) (folds list : List ℕ) (tabstop n : ℕ) where
  moved_rows : (a : Option Move) (k : Caret) →
      moved (landed (rows_as a n k t starts content folds list tabstop)) ≡ by_table t starts content (moved (move_as a n k t folds list tabstop))
  unfolding rows_as move_as moved replied_by
  moved_rows (Some m) k = moved_by_lem (table_refusal (row_count t) t starts content) (goes t folds list tabstop m n k)
      ∙ ap (λ (x : Moved). by_table t starts content (moved x)) (landed_goes t folds list tabstop n k m)
  moved_rows None k = refl

  six_rows : (a : Option Move) (k : Caret) →
      moved_six (landed (rows_as a n k t starts content folds list tabstop)) ≡ by_table t starts content (moved_six (move_as a n k t folds list tabstop))
  unfolding rows_as move_as moved_six replied_by
  six_rows (Some m) k = six_by (table_refusal (row_count t) t starts content) (goes t folds list tabstop m n k)
      ∙ ap (λ (x : Moved). by_table t starts content (moved_six x)) (landed_goes t folds list tabstop n k m)
  six_rows None k = refl

  -- the same from what a call finds out: what its number asks for, the caret, the answer, and where that lands
  module _ {a a' : Option Move} {k k' : Caret} {s : Sought} {m : Moved} (asked : a ≡ a') (caret : k ≡ k')
      (answered : s ≡ rows_as a n k t starts content folds list tabstop) (lands : m ≡ landed s) where
    pub moves_by_table : moved m ≡ by_table t starts content (moved (move_as a' n k' t folds list tabstop))
    moves_by_table = ap moved (lands ∙ ap landed answered) ∙ moved_rows a k
        ∙ ap (λ (x : Option Move). by_table t starts content (moved (move_as x n k t folds list tabstop))) asked
        ∙ ap (λ (x : Caret). by_table t starts content (moved (move_as a' n x t folds list tabstop))) caret

    pub six_by_table : moved_six m ≡ by_table t starts content (moved_six (move_as a' n k' t folds list tabstop))
    six_by_table = ap moved_six (lands ∙ ap landed answered) ∙ six_rows a k
        ∙ ap (λ (x : Option Move). by_table t starts content (moved_six (move_as x n k t folds list tabstop))) asked
        ∙ ap (λ (x : Caret). by_table t starts content (moved_six (move_as a' n x t folds list tabstop))) caret

-- a search likewise
module _ (t starts : List ℕ) (content : ℕ) where
  sought_rows : (a : Option Move) (k : Caret) → sought (rows_as a 1 k t starts content [] [] 0) ≡ by_table t starts content (sought (seek_as a k t))
  unfolding rows_as seek_as sought replied_by
  sought_rows (Some m) k = sought_by (table_refusal (row_count t) t starts content) (goes t [] [] 0 m 1 k)
  sought_rows None k = refl

  pub seeks_by_table : {a a' : Option Move} {k k' : Caret} {s : Sought} → a ≡ a' → k ≡ k' → s ≡ rows_as a 1 k t starts content [] [] 0 →
      sought s ≡ by_table t starts content (sought (seek_as a' k' t))
  seeks_by_table {a} {a'} {k} {k'} asked caret answered = ap sought answered ∙ sought_rows a k
      ∙ ap (λ (x : Option Move). by_table t starts content (sought (seek_as x k t))) asked ∙ ap (λ (x : Caret). by_table t starts content (sought (seek_as a' x t))) caret

-- a mode by another number than 0 to 2 asks for nothing, and is refused with 100
module _ (op mode width n tabstop : ℕ) (k : Caret) (t folds : List ℕ) where
  pub vertical_asked : move_as (upright_by op mode width) n k t folds [] tabstop ≡ vertical op mode width n tabstop k t folds
  unfolding upright_by vertical upright move_as
  vertical_asked = split (λ (a : Option Move). move_as a n k t folds [] tabstop) (leb mode 2) (upright_of (setting_of op) (plain_of op) (mode_of mode) width) None

  pub kept_asked : move_as (kept_by op mode width) n k t folds [] tabstop ≡ screen_kept op mode width n tabstop k t folds
  unfolding kept_by screen_kept remembered move_as
  kept_asked = split (λ (a : Option Move). move_as a n k t folds [] tabstop) (leb mode 2) (kept_of (setting_of op) (plain_of op) (mode_of mode) width) None
