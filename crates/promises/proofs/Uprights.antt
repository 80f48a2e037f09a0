-- What up, down and the screen moves write stands in the text, and the last position written is that of the answer. Assumes nothing.
use Rattle.lists.proofs.Kit.{ap, List, [], ◌∷◌, Bool, true, false, cond, ◌||◌, ℕ, max, eqb, leb, Option}
use Rattle.motions.specs.declared.Move.{Move}
use Rattle.chars.specs.White.{is_white}
use Rattle.widths.specs.declared.Ambiguous.{Ambiguous}
use Rattle.widths.specs.Widths.{width_as}
use Rattle.row_wrap.specs.declared.Wrap.{Wrap}
use Rattle.row_wrap.specs.Modes.{is_none, segments_of}
use Rattle.visible_rows.specs.Visible.{delta_of}
use Rattle.vertical.specs.Moves.{move_vertical}
use Rattle.vertical.proofs.Inside as Upright
use Rattle.vertical.proofs.Inside.{rows_inside}
use Rattle.text.specs.declared.Position.{Position}
use Rattle.screen.specs.Screen.{jumped, screen_target}
use Rattle.screen.proofs.Inside.{round_inside, jump_inside}
use Rattle.text.specs.declared.Position.{Position}
use Rattle.positions.specs.Positions.{Inside}
use Rattle.motions.specs.declared.Caret.{Caret}
use Rattle.motions.specs.declared.Moved.{Moved}
use Rattle.motions.specs.UpDown.{vertical_refusal, at_target, screen_caret, move_rows, move_screen_rows}
use Rattle.motions.proofs.Landing.{moving_to}
use Rattle.motions.proofs.Reaching.{own, rows_lands}
use Rattle.call_rows.specs.Flags.{setting_of, plain_of}
use Rattle.call_rows.specs.Wraps.{mode_of}
use Rattle.call_texts.specs.Asks.{move_as}
use Rattle.call_folds.specs.Upright.{upright_of, upright, vertical}
use Rattle.promises.specs.Positions.{standing}
use Rattle.promises.specs.Trails.{on_screen, step_of, screen_writes}
use Rattle.promises.specs.Writes.{screen_moves, upright_writes}
use Rattle.promises.proofs.Landings.{either}
use Rattle.promises.proofs.Trails.{trail_ends, trail_in}
use Rattle.promises.proofs.Writing.{Fits, Keeps, refused, both, once}

module _ (t : List ℕ) (k : Caret) (n : ℕ) (folds : List ℕ) (tabstop : ℕ) where
  rows_once : (a : Ambiguous) (down : Bool) → Keeps t (move_rows a t folds tabstop down n k) standing
  rows_once a down = record { fits = λ c e. once t c (rows_lands t folds tabstop k a down n c e) }

  module _ (a : Ambiguous) (mode : Wrap) (width : ℕ) where
    abbrev lay : List ℕ → List ℕ
    lay = segments_of (width_as a) is_white mode width

    -- where the walk begins
    abbrev from : Bool → Position
    from down = jumped t folds down (record { row = k.row; col = k.col })

    step_in : (down : Bool) (o p : Position) → Inside t (on_screen p) → Inside t (on_screen (step_of t folds lay down o p))
    step_in down o p i =
        let by_round_inside = round_inside t folds lay down _ p (record { in_row = i.in_row; in_col = i.in_col }) in
        record { in_row = by_round_inside.in_row; in_col = by_round_inside.in_col }

    by_screen : (down : Bool) → Keeps t (move_screen_rows a t folds tabstop mode width down n k) (screen_moves a mode width down n k t folds)
    by_screen down = record {
      fits = moving_to (λ c. Fits t (screen_moves a mode width down n k t folds c) c) (vertical_refusal t folds tabstop k)
          (screen_caret a t folds tabstop mode width down n k)
          (λ z. let by_own = own t folds tabstop k z in go (eqb width 0 || is_none mode) (record { in_row = by_own.in_row; in_col = by_own.in_col }));
    }
      where
        go : (b : Bool) → Upright.Inside t k.row k.col →
            let at_Target = at_target (cond b (move_vertical (width_as a) t folds tabstop (delta_of down n) k.row k.col k.sticky)
            (screen_target (width_as a) t folds tabstop lay down n k.row k.col k.sticky)) in
            Fits t (cond b (standing at_Target) (screen_writes t folds lay down n (record { row = k.row; col = k.col }))) at_Target
        go true i =
            let by_rows_inside = rows_inside (width_as a) t folds tabstop k.row k.col k.sticky (delta_of down n) i in
            once t (at_target (move_vertical (width_as a) t folds tabstop (delta_of down n) k.row k.col k.sticky))
            (record { in_row = by_rows_inside.in_row; in_col = by_rows_inside.in_col })
        go false i =
            let by_jump_inside = jump_inside t folds down (record { row = k.row; col = k.col }) i in
            let here : Inside t (on_screen (from down)) = record { in_row = by_jump_inside.in_row; in_col = by_jump_inside.in_col } in (
              (here, trail_in on_screen (step_of t folds lay down (from down)) t (step_in down (from down)) (max n 1) (from down) here),
              ap (λ (q : Position). q ∷ []) (trail_ends on_screen (step_of t folds lay down (from down)) (max n 1) (from down)),
            )

  upright_keeps : (mode : Wrap) (width op : ℕ) → Keeps t (upright op mode width n tabstop k t folds) (upright_writes op mode width n k t folds)
  unfolding upright upright_of move_as upright_writes
  upright_keeps mode width op =
      let setting = setting_of op in
      let plain = plain_of op in
      let answer : Option Move → Moved = λ m. move_as m n k t folds [] tabstop in
      both t answer (eqb plain 0) (rows_once setting false) (both t answer (eqb plain 1) (rows_once setting true)
      (both t answer (eqb plain 2) (by_screen setting mode width false)
      (either (λ (m : Option Move). Keeps t (answer m) (screen_moves setting mode width true n k t folds)) (eqb plain 3) _ _ (by_screen setting mode width true)
      (refused t 100 _))))

  pub vertical_keeps : (op mode width : ℕ) → Keeps t (vertical op mode width n tabstop k t folds) (upright_writes op (mode_of mode) width n k t folds)
  unfolding vertical
  vertical_keeps op mode width =
      either (λ (m : Moved). Keeps t m (upright_writes op (mode_of mode) width n k t folds)) (leb mode 2) _ _ (upright_keeps (mode_of mode) width op)
      (refused t 100 _)
