-- `run::run` meets its contract. The invariant of its loop: the places of the jumps made are written, what is left from the place reached is what is
-- left of all (`Running`), that place is one of the text, and the stretch has no closed fold (`OnTheWay`). Assumes nothing.
use Rattle.lists.proofs.Kit.{refl, sym, arith}
use Rattle.word_kinds.specs.Spots.{place_of}
use Rattle.word_kinds.specs.Lent.{kind_by, kinds_by}
use Rattle.word_kinds.proofs.Telling.{tells_too, lands_here}
use Rattle.word_rounds.proofs.Turning.{set_at}
use Rattle.jumps.proofs.Running.{running_first, running_two, running_next, running_places, running_end}
use Rattle.jumps.proofs.run.run.Goals as goal

pub loop-i-init : goal.loop-i-init
loop-i-init c =
    let given = c.args in
    let course = c.requires.course in
    record {
      running = running_first given.t.now given.folds.now (kinds_by given.by.now) given.jumps.now given.answers.now
          (place_of given.t.now given.p) course.kinds course.room;
      spot = c.requires.footing.round.folded.spot;
      bare = c.around-w.ensures;
      all = refl;
    }

pub jump-r-requires : goal.jump-r-requires
jump-r-requires c =
    let at_loop = c.loop-i in
    let footing = c.requires.footing in
    let two = running_two at_loop.invariant.running (omega (arith, c.loop-i-test.true, at_loop.invariant.all)) in
    record {
      leap =
          record {
            footing =
                record { clear = footing.clear; tabled = footing.tabled; small = footing.small; round = set_at footing.round _ at_loop.invariant.spot };
            bare = at_loop.invariant.bare;
          };
      listed = two;
      room = omega (arith, two, at_loop.invariant.running.room);
    }

pub loop-i-preserved : goal.loop-i-preserved
loop-i-preserved c =
    let at_loop = c.loop-i in
    let jump_told = c.jump-r.ensures in
    record {
      running = running_next at_loop.invariant.running (running_two at_loop.invariant.running (omega (arith, c.loop-i-test.true, at_loop.invariant.all)))
          jump_told.leaps.lands.place jump_told.left;
      spot = jump_told.leaps.lands.inside;
      bare = jump_told.leaps.bare;
      all = at_loop.invariant.all;
    }

pub shape_of-answers : goal.shape_of-answers
shape_of-answers c = c.loop-i.invariant.running.written.size

pub returns : goal.returns
returns c =
    let at_loop = c.loop-i in
    record {
      lands = tells_too (lands_here at_loop.invariant.spot) (sym (running_end at_loop.invariant.running (omega (arith, c.loop-i-test.false, at_loop.invariant.all))));
      left = running_places at_loop.invariant.running (omega (arith, c.loop-i-test.false, at_loop.invariant.all));
    }

-- behind the last jump
pub returns-2 : goal.returns-2
returns-2 c =
    let at_loop = c.loop-i in
    let jump_told = c.jump-r.ensures in
    let after = running_next at_loop.invariant.running (running_two at_loop.invariant.running (omega (arith, c.loop-i-test.true, at_loop.invariant.all)))
    jump_told.leaps.lands.place jump_told.left in
    record {
      lands = tells_too (lands_here jump_told.leaps.lands.inside) (sym (running_end after (omega arith)));
      left = running_places after (omega arith);
    }
