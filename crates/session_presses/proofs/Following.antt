-- After `$`, `j` and `k` follow the ends of the rows: the sticky column is past the cells of every row. Assumes nothing.
use Rattle.lists.proofs.Kit.{◌≡◌, refl, subst, List, [], ◌∷◌, Bool, true, false, cond, ℕ, ◌≤◌, arith, eqb, Some}
use Rattle.lists.specs.Codes.{codes}
use Rattle.lists.specs.Lists.{is_same}
use Rattle.chars.specs.Width.{zero_widths, double_widths, width_of}
use Rattle.widths.specs.declared.Ambiguous.TheVariants.{Narrow}
use Rattle.widths.specs.Widths.{width_as}
use Rattle.chars.proofs.Facts.{width_most}
use Rattle.text_check.specs.Accept.{text_refusal}
use Rattle.text_check.proofs.Accepted.{accepted_short}
use Rattle.text.specs.Text.{last_col}
use Rattle.positions.proofs.Lowest.{lowest_none}
use Rattle.visible_rows.specs.Visible.{delta_of}
use Rattle.vertical.specs.Moves.{landed, move_vertical}
use Rattle.vertical.proofs.Ends.{vertical_last}
use Rattle.text_moves.specs.declared.Way.TheVariants.{LineEnd}
use Rattle.text_moves.specs.Ways.{gone}
use Rattle.motions.specs.declared.Caret.{Caret}
use Rattle.motions.specs.declared.Moved.{Moved}
use Rattle.motions.specs.declared.Moved.TheVariants.{To, Refused}
use Rattle.motions.specs.Carets.{here, put, moving, refusal_of, caret_after, caret_at}
use Rattle.motions.specs.UpDown.{vertical_refusal, move_rows, at_target}
use Rattle.motions.proofs.Landing.{moving_to}
use Rattle.motions.proofs.Reaching.{own}
use Rattle.session_keys.specs.Keys.{two_bytes, word_keys, line_keys, place_keys, found}
use Rattle.session_presses.specs.declared.Column.TheVariants.{Kept, Ends}
use Rattle.session_presses.specs.Pressed.{past_ends, act_of, held, acted, pressed}
use Rattle.session_presses.specs.Ends.{AtEnd, Stroke, name_of, after_run, FollowsEnds}

thin : (x : ℕ) → width_as Narrow x ≤ 1000
unfolding width_as width_of
thin x = omega (arith, width_most zero_widths double_widths x)

-- a move whose sticky column is kept
kept_is : (m : Moved) → held Kept m ≡ m
kept_is (To k) = refl
kept_is (Refused f) = refl

module _ (t : List ℕ) (n : ℕ) (k : Caret) where
  stroke_is : (down : Bool) → pressed (name_of down) t n k ≡ held Kept (move_rows Narrow t [] 8 down n k)
  unfolding acted act_of found is_same codes two_bytes word_keys line_keys place_keys
  stroke_is true = refl
  stroke_is false = refl

  rows_end : (down : Bool) → AtEnd t k → (c : Caret) → move_rows Narrow t [] 8 down n k ≡ To c → AtEnd t c
  unfolding landed
  rows_end down at =
      moving_to (AtEnd t) (vertical_refusal t [] 8 k) (at_target (move_vertical (width_as Narrow) t [] 8 (delta_of down n) k.row k.col k.sticky)) there
    where
      there : vertical_refusal t [] 8 k ≡ 0 → AtEnd t (at_target (move_vertical (width_as Narrow) t [] 8 (delta_of down n) k.row k.col k.sticky))
      there z =
          let brief = accepted_short t (lowest_none (text_refusal t) _ z).0 in
          rw at.aims_past (record {
            on_last = vertical_last (width_as Narrow) thin t brief 8 (omega arith) past_ends (omega arith) [] (delta_of down n) k.row k.col
                (own t [] 8 k z).in_row at.on_last;
            aims_past = refl;
          })

  stroke_end : (down : Bool) → AtEnd t k → AtEnd t (caret_after k (pressed (name_of down) t n k))
  stroke_end down at = rw (stroke_is down, kept_is (move_rows Narrow t [] 8 down n k)) (go (move_rows Narrow t [] 8 down n k) refl)
    where
      go : (m : Moved) → move_rows Narrow t [] 8 down n k ≡ m → AtEnd t (caret_after k m)
      go (To c) e = rows_end down at c e
      go (Refused f) e = at

  dollar_is : pressed (codes "$") t n k ≡ held Ends (moving (refusal_of t k) (put k (gone t LineEnd n (here k))))
  unfolding acted act_of found is_same codes two_bytes word_keys line_keys place_keys
  dollar_is = refl

  dollar_end : (c : Caret) → pressed (codes "$") t n k ≡ To c → AtEnd t c
  unfolding moving
  dollar_end c e = go (eqb (refusal_of t k) 0) (rw dollar_is at e)
    where
      go : (b : Bool) → held Ends (cond b (To (put k (gone t LineEnd n (here k)))) (Refused (refusal_of t k))) ≡ To c → AtEnd t c
      go true q =
          let same : caret_at k.row (last_col t k.row) (Some past_ends) ≡ c = cc in
          subst (AtEnd t) same (record { on_last = refl; aims_past = refl })
      go false q = let never : ◌≡◌ {A = ℕ} 0 1 = cc in absurd (omega arith)

run_ends : (t : List ℕ) (run : List Stroke) (k : Caret) → AtEnd t k → AtEnd t (after_run t run k)
unfolding after_run
run_ends t [] k at = at
run_ends t (s ∷ rest) k at = run_ends t rest (caret_after k (pressed (name_of s.down) t s.count k)) (stroke_end t s.count k s.down at)

pub follows_ends : FollowsEnds
follows_ends = record { dollar = λ t n k c e. dollar_end t n k c e; strokes = run_ends }
