-- Where a motion by number leads to is in the text: those by their position alone, and the viewport's. Assumes nothing.
use Rattle.lists.proofs.Kit.{◌≡◌, List, [], Bool, true, false, cond, ℕ, arith, eqb, leb, Option, Some}
use Rattle.motions.specs.declared.Move.{Move}
use Rattle.text_moves.specs.declared.Way.{Way}
use Rattle.text_moves.specs.declared.Way.TheVariants as way
use Rattle.motions.specs.declared.Caret.{Caret}
use Rattle.motions.specs.declared.Move.TheVariants.{By}
use Rattle.motions.specs.declared.Moved.TheVariants.{Refused}
use Rattle.motions.proofs.Landing.{Lands, way_lands}
use Rattle.motions.proofs.Reaching.{kept_lands, viewport_lands}
use Rattle.vertical.specs.declared.Edge.TheVariants.{Top, Middle, Bottom}
use Rattle.call_texts.specs.Asks.{move_as}
use Rattle.call_texts.specs.Moves.{way_of, motion}
use Rattle.call_texts.specs.Viewports.{edge_of, viewport}
use Rattle.call_rows.specs.Flags.{setting_of, plain_of}
use Rattle.call_rows.specs.Wraps.{mode_of}
use Rattle.call_folds.specs.Kept.{kept_of, remembered, screen_kept}

-- one of two answers
pub either : {A : Type 0} (P : A → Type 0) (b : Bool) (x y : A) → P x → P y → P (cond b x y)
either P true x y p q = p
either P false x y p q = q

module _ (t : List ℕ) where
  pub none_lands : (f : ℕ) → Lands t (Refused f)
  none_lands f c e = let never : ◌≡◌ {A = ℕ} 0 1 = cc in absurd (omega arith)

  pub motion_lands : (op n : ℕ) (k : Caret) → Lands t (motion op n k t)
  unfolding motion way_of move_as
  motion_lands op n k =
      let P : Option Move → Type 0 = λ a. Lands t (move_as a n k t [] [] 0) in
      let leads : (w : Way) → P (Some (By w)) = λ w. way_lands t k w n in
      either P (eqb op 0) _ _ (leads way.Left) (either P (eqb op 1) _ _ (leads way.RightInLine) (either P (eqb op 2) _ _ (leads way.RightToEnd)
      (either P (eqb op 3) _ _ (leads way.SpaceFwd) (either P (eqb op 4) _ _ (leads way.BackspaceBack) (either P (eqb op 5) _ _ (leads way.LineStart)
      (either P (eqb op 6) _ _ (leads way.FirstNonBlank) (either P (eqb op 7) _ _ (leads way.LineEnd) (either P (eqb op 8) _ _ (leads way.GotoColumn)
      (either P (eqb op 9) _ _ (leads way.LastNonBlank) (either P (eqb op 10) _ _ (leads way.ParagraphPrev) (either P (eqb op 11) _ _ (leads way.ParagraphNext)
      (either P (eqb op 12) _ _ (leads way.SectionBackward) (either P (eqb op 13) _ _ (leads way.SectionForward)
      (either P (eqb op 14) _ _ (leads way.SectionEndBackward) (either P (eqb op 15) _ _ (leads way.SectionEndForward)
      (either P (eqb op 16) _ _ (leads way.NextLine) (either P (eqb op 17) _ _ (leads way.PrevLine) (either P (eqb op 18) _ _ (leads way.ThisLine)
      (either P (eqb op 19) _ _ (leads way.Top) (either P (eqb op 20) _ _ (leads way.Bottom) (none_lands 100)))))))))))))))))))))

  pub edge_lands : (op top height offset : ℕ) (k : Caret) → Lands t (viewport op top height offset k t)
  unfolding viewport edge_of move_as
  edge_lands op top height offset k =
      let P : Option Move → Type 0 = λ a. Lands t (move_as a 1 k t [] [] 0) in
      either P (eqb op 0) _ _ (viewport_lands t k Top top 0 offset) (either P (eqb op 1) _ _ (viewport_lands t k Middle top height 0)
      (either P (eqb op 2) _ _ (viewport_lands t k Bottom top height offset) (none_lands 100)))

  pub kept_numbers_land : (op mode width n tabstop : ℕ) (folds : List ℕ) (k : Caret) → Lands t (screen_kept op mode width n tabstop k t folds)
  unfolding screen_kept remembered kept_of move_as
  kept_numbers_land op mode width n tabstop folds k =
      let P : Option Move → Type 0 = λ a. Lands t (move_as a n k t folds [] tabstop) in
      either (Lands t) (leb mode 2) _ _ (either P (eqb (plain_of op) 0) _ _ (kept_lands t folds tabstop k (setting_of op) (mode_of mode) width false n)
      (either P (eqb (plain_of op) 1) _ _ (kept_lands t folds tabstop k (setting_of op) (mode_of mode) width true n) (none_lands 100))) (none_lands 100)
