-- `put_folds` meets its contract. The invariant of its loop: what is written, with the numbers to come and the row's end, comes to the row.
-- Assumes nothing.
use Rattle.lists.proofs.Kit.{refl, [], ◌∷◌, ◌++◌, ◌+◌, arith, get_or, drop}
use Rattle.print.specs.Print.{decimal}
use Rattle.print.proofs.Laws.{wrote_then}
use Rattle.fold_blocks.proofs.Toward.{toward_start, toward_room, toward_on, toward_end}
use Rattle.fold_trial.specs.Runs.{spaced, fold_row}
use Rattle.fold_trial.proofs.Rows.{spaced_at, spaced_end, fold_row_fits, fold_row_length}
use Rattle.fold_trial.proofs.runs.put_folds.Goals as goal

pub loop-x-init : goal.loop-x-init
loop-x-init c = record { within = omega arith; toward = toward_start _ _ _ }

-- there is room for the next number, and for the row's end
pub put-next-requires : goal.put-next-requires
put-next-requires c =
    let key = c.put-at.ensures in
    let folds_now = c.args.folds.now in
    let index = c.loop-x.x-index in
    let piece = spaced_at folds_now index c.loop-x-test.true in
    omega (
      arith,
      toward_room (32 ∷ decimal (get_or folds_now index 0)) (spaced (drop (index + 1) folds_now) ++ (10 ∷ [])) c.loop-x.invariant.toward piece,
      fold_row_fits folds_now c.requires.few,
      fold_row_length folds_now,
      c.requires.room,
      key.next,
      key.size,
    )

pub put_decimal-at-requires : goal.put_decimal-at-requires
put_decimal-at-requires c =
    let key = c.put-at.ensures in
    let folds_now = c.args.folds.now in
    let index = c.loop-x.x-index in
    let piece = spaced_at folds_now index c.loop-x-test.true in
    let space = c.put-next.ensures in
    omega (
      arith,
      toward_room (32 ∷ decimal (get_or folds_now index 0)) (spaced (drop (index + 1) folds_now) ++ (10 ∷ [])) c.loop-x.invariant.toward piece,
      fold_row_fits folds_now c.requires.few,
      fold_row_length folds_now,
      c.requires.room,
      key.next,
      key.size,
      space.next,
      space.size,
    )

pub loop-x-preserved : goal.loop-x-preserved
loop-x-preserved c =
    let folds_now = c.args.folds.now in
    let index = c.loop-x.x-index in
    let tested_so = c.loop-x-test.true in
    record {
      within = omega (arith, tested_so);
      toward = toward_on (32 ∷ decimal (get_or folds_now index 0)) (spaced (drop (index + 1) folds_now) ++ (10 ∷ [])) c.loop-x.invariant.toward
          (spaced_at folds_now index tested_so) (wrote_then c.put-next.ensures c.put_decimal-at.ensures);
    }

pub put-requires : goal.put-requires
put-requires c =
    let key = c.put-at.ensures in
    let folds_now = c.args.folds.now in
    let last = spaced_end folds_now c.loop-x.x-index c.loop-x-test.false in
    omega (
      arith,
      toward_room (10 ∷ []) [] c.loop-x.invariant.toward last,
      fold_row_fits folds_now c.requires.few,
      fold_row_length folds_now,
      c.requires.room,
      key.next,
      key.size,
    )

pub shape_of-out : goal.shape_of-out
shape_of-out c =
    omega (arith, c.put.ensures.size, c.loop-x.invariant.toward.size, c.put-at.ensures.size)

pub returns : goal.returns
unfolding fold_row
returns c =
    let last = spaced_end c.args.folds.now c.loop-x.x-index c.loop-x-test.false in
    wrote_then c.put-at.ensures (toward_end (toward_on (10 ∷ []) [] c.loop-x.invariant.toward last c.put.ensures) refl)
