-- Worked examples of edits, each by computation: a text of the rows `ab` and `cd`. Assumes nothing.
use Rattle.lists.proofs.Kit.{◌≡◌, refl, List, [], ◌∷◌, ℕ}
use Rattle.lists.specs.Lists.{on_first}
use Rattle.text.specs.Text.{rows, position}
use Rattle.text.specs.Offsets.{start_in, row_of}
use Rattle.edit_places.specs.Replaced.{replaced, zeros, refilled}
use Rattle.edit_folds.specs.Folds.{mapped_row, is_lost, kept_folds}
use Rattle.edit_positions.specs.After.{text_after, offset_after, position_after}
use Rattle.edits.specs.Edits.{folds_after}

abbrev text : List ℕ
text = 97 ∷ 98 ∷ 10 ∷ 99 ∷ 100 ∷ []

-- `x`, a separator and `yz` inserted at (0,1): a caret there goes behind them
inserted : text_after text (position 0 1) (position 0 1) (120 ∷ 10 ∷ 121 ∷ 122 ∷ []) ≡ 97 ∷ 120 ∷ 10 ∷ 121 ∷ 122 ∷ 98 ∷ 10 ∷ 99 ∷ 100 ∷ []
unfolding replaced rows on_first start_in
inserted = refl

at_the_point : position_after text (position 0 1) (position 0 1) (120 ∷ 10 ∷ 121 ∷ 122 ∷ []) (position 0 1) ≡ position 1 2
unfolding replaced rows on_first start_in row_of offset_after
at_the_point = refl

behind_it : position_after text (position 0 1) (position 0 1) (120 ∷ 10 ∷ 121 ∷ 122 ∷ []) (position 1 1) ≡ position 2 1
unfolding replaced rows on_first start_in row_of offset_after
behind_it = refl

-- (0,1) to (1,1) deleted: a caret inside goes to the start, and one behind it with its character
inside : position_after text (position 0 1) (position 1 1) [] (position 1 0) ≡ position 0 1
unfolding replaced rows on_first start_in row_of offset_after
inside = refl

behind_a_delete : position_after text (position 0 1) (position 1 1) [] (position 1 2) ≡ position 0 2
unfolding replaced rows on_first start_in row_of offset_after
behind_a_delete = refl

-- rows 0 and 1 joined: a fold over both goes, one of a single row stays, in a buffer with two places more
joined : folds_after (position 0 2) (position 1 0) [] (0 ∷ 1 ∷ 1 ∷ 2 ∷ 3 ∷ 0 ∷ 1 ∷ 1 ∷ 1 ∷ []) ≡ 1 ∷ 2 ∷ 0 ∷ 0 ∷ 0 ∷ 1 ∷ []
unfolding kept_folds mapped_row is_lost rows on_first
joined = refl

freed : refilled (0 ∷ 1 ∷ 1 ∷ 2 ∷ 3 ∷ 0 ∷ 1 ∷ 1 ∷ 1 ∷ 9 ∷ 9 ∷ []) 9 (1 ∷ 2 ∷ 0 ∷ 0 ∷ 0 ∷ 1 ∷ []) ≡ 1 ∷ 2 ∷ 0 ∷ 0 ∷ 0 ∷ 1 ∷ 0 ∷ 0 ∷ 0 ∷ 9 ∷ 9 ∷ []
unfolding refilled zeros
freed = refl
