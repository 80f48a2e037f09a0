-- The screen moves that remember, over any width function: without an offset they lead where `gj` and `gk` do, with one they keep it and leave no fold, and
-- their counts add. Assumes nothing.
use Rattle.lists.proofs.Kit.{◌≡◌, refl, ap, sym, ◌∙◌, List, Bool, true, false, cond, ◌||◌, ℕ, ◌+◌, ◌<◌, max, arith, eqb, Option, Some, None}
use Rattle.lists.specs.Rounds.{rounds}
use Rattle.lists.proofs.Rounds.{rounds_add}
use Rattle.chars.specs.White.{is_white}
use Rattle.row_wrap.specs.declared.Wrap.{Wrap}
use Rattle.row_wrap.specs.Modes.{is_none, segments_of}
use Rattle.text.specs.declared.Position.{Position}
use Rattle.visible_rows.specs.Visible.{delta_of}
use Rattle.vertical.specs.declared.Target.{Target}
use Rattle.vertical.specs.Moves.{wanted_col, move_vertical}
use Rattle.vertical.proofs.Adding.{vertical_adds}
use Rattle.screen.specs.declared.Kept.{Kept}
use Rattle.screen.specs.Screen.{step_screen, landed_at, screen_target, move_screen}
use Rattle.screen.specs.Keeping.{starts_at, glided, unkept, screen_kept, move_screen_kept}

module _ (w : ℕ → ℕ) (t folds : List ℕ) (tabstop : ℕ) (mode : Wrap) (width : ℕ) (down : Bool) where
  abbrev lay : List ℕ → List ℕ
  lay = segments_of w is_white mode width

  abbrev rows_to : ℕ → ℕ → ℕ → Option ℕ → Target
  rows_to n row col sticky = move_vertical w t folds tabstop (delta_of down n) row col sticky

  module _ (n row col : ℕ) (sticky : Option ℕ) where
    -- without an offset: the target of `gj` and `gk`
    pub absent_target : (move_screen_kept w t folds tabstop mode width down n row col sticky None).target ≡
        move_screen w t folds tabstop mode width down n row col sticky
    absent_target = go (eqb width 0 || is_none mode)
      where
        go : (b : Bool) → (cond b (unkept (rows_to n row col sticky)) (screen_kept w t folds tabstop lay down n row col sticky None)).target ≡
            cond b (rows_to n row col sticky) (screen_target w t folds tabstop lay down n row col sticky)
        go true = refl
        go false = refl

    -- with one, where rows are broken: the rounds from the place itself, and the offset is kept
    pub present_kept : (x : ℕ) → (eqb width 0 || is_none mode) ≡ false → move_screen_kept w t folds tabstop mode width down n row col sticky (Some x) ≡
        record {
          target = landed_at (wanted_col w t tabstop row col sticky) (rounds (step_screen t folds lay down x) (max n 1) (record { row = row; col = col }));
          offset = Some x;
        }
    present_kept x e = rw e

  -- where rows are broken: so many rounds and then so many more, with the sticky column and the offset that the first left
  broken_adds : (m n row col : ℕ) (sticky : Option ℕ) (offset : Option ℕ) → 0 < m → 0 < n →
      let screen_kept_lem = screen_kept w t folds tabstop lay down m row col sticky offset in
      screen_kept w t folds tabstop lay down n screen_kept_lem.target.row screen_kept_lem.target.col (Some screen_kept_lem.target.want)
      screen_kept_lem.offset ≡
      screen_kept w t folds tabstop lay down (m + n) row col sticky offset
  broken_adds m n row col sticky offset h k =
      let want = wanted_col w t tabstop row col sticky in
      let from = starts_at t folds down offset (record { row = row; col = col }) in
      let kept = (glided t folds lay down (max m 1) offset from).offset in
      let position : Position → Position = step_screen t folds lay down kept in
      let first : max m 1 ≡ m = omega arith in
      let second : max n 1 ≡ n = omega arith in
      let both : max (m + n) 1 ≡ m + n = omega arith in
      ap (λ (q : Position). record { target = landed_at want q; offset = Some kept }) (ap (λ (x : ℕ). rounds position (max n 1) (rounds position x from)) first ∙
      ap (λ (x : ℕ). rounds position x (rounds position m from)) second ∙
      sym (rounds_add position m n from) ∙
      ap (λ (x : ℕ). rounds position x from) (sym both))

  pub kept_adds : (m n row col : ℕ) (sticky : Option ℕ) (offset : Option ℕ) → 0 < m → 0 < n →
      let move_screen_kept_lem = move_screen_kept w t folds tabstop mode width down m row col sticky offset in
      move_screen_kept w t folds tabstop mode width down n move_screen_kept_lem.target.row move_screen_kept_lem.target.col
      (Some move_screen_kept_lem.target.want) move_screen_kept_lem.offset ≡
      move_screen_kept w t folds tabstop mode width down (m + n) row col sticky offset
  kept_adds m n row col sticky offset h k = go (eqb width 0 || is_none mode)
    where
      by : Bool → ℕ → ℕ → ℕ → Option ℕ → Option ℕ → Kept
      by b count r c s o = cond b (unkept (rows_to count r c s)) (screen_kept w t folds tabstop lay down count r c s o)

      go : (b : Bool) → let here = by b m row col sticky offset in
          by b n here.target.row here.target.col (Some here.target.want) here.offset ≡ by b (m + n) row col sticky offset
      go true = ap unkept (vertical_adds w t folds tabstop down m n row col sticky h k)
      go false = broken_adds m n row col sticky offset h k
