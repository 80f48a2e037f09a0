-- `walks::screen_from` meets its contract: the place's seat gives the segments ahead and its own offset. Assumes nothing.
use Rattle.lists.proofs.Kit.{arith}
use Rattle.chars.specs.Width.{width_with}
use Rattle.screen_segments.specs.Parts.{lay_of}
use Rattle.screen.proofs.Landing.{seat_ahead, seat_near, glided_made}
use Rattle.screen.proofs.walks.screen_from.Goals as goal

pub or_own-kept-requires : goal.or_own-kept-requires
or_own-kept-requires c =
    let given = c.args in
    let lay = lay_of (width_with given.by) given.word given.width in
    omega (
      arith,
      seat_near given.t.now given.folds.now lay given.down (record { row = given.l.row; col = given.col }) c.seat-s.ensures,
      c.requires.small,
    )

pub rounds_from-p-requires : goal.rounds_from-p-requires
rounds_from-p-requires c =
    let given = c.args in
    let lay = lay_of (width_with given.by) given.word given.width in
    record {
      sets_out = c.requires.sets_out;
      small = c.or_own-kept.ensures.small;
      ahead_is = seat_ahead given.t.now given.folds.now lay given.down (record { row = given.l.row; col = given.col }) c.seat-s.ensures;
    }

pub returns : goal.returns
returns c =
    let given = c.args in
    let lay = lay_of (width_with given.by) given.word given.width in
    record {
      answer = glided_made given.t.now given.folds.now lay given.down (record { row = given.l.row; col = given.col }) c.seat-s.ensures
          given.n given.offset c.or_own-kept.ensures.offset c.rounds_from-p.ensures;
      small = c.or_own-kept.ensures.small;
    }
