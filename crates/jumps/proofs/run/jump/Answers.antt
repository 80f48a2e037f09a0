-- `run::jump` meets its contract: one jump, and its row and column by the table. Assumes nothing.
use Rattle.lists.proofs.Kit.{ap, ℕ, ◌+◌, ◌-◌, arith, set, length-set}
use Rattle.jumps.proofs.Spots.{spot_short}
use Rattle.jumps.proofs.run.jump.Goals as goal

pub leap-r-requires : goal.leap-r-requires
leap-r-requires c =
    c.requires.leap

pub start_of-start-requires : goal.start_of-start-requires
start_of-start-requires c =
    record { tabled = c.requires.leap.footing.tabled; in_row = c.leap-r.ensures.lands.inside.in_row }

pub overflow_cast-answers : goal.overflow_cast-answers
overflow_cast-answers c =
    omega (arith, (spot_short c.requires.leap.footing.clear c.leap-r.ensures.lands.inside).0)

pub offset_bounds-answers-i : goal.offset_bounds-answers-i
offset_bounds-answers-i c =
    omega (arith, c.requires.room)

pub bounds-answers-i : goal.bounds-answers-i
bounds-answers-i c =
    omega (arith, c.requires.room)

pub overflow_sub-answers : goal.overflow_sub-answers
overflow_sub-answers c =
    omega (arith, c.start_of-start.ensures, c.leap-r.ensures.lands.inside.from)

pub overflow_cast-answers-2 : goal.overflow_cast-answers-2
overflow_cast-answers-2 c =
    omega (arith, (spot_short c.requires.leap.footing.clear c.leap-r.ensures.lands.inside).1)

pub overflow_add-answers : goal.overflow_add-answers
overflow_add-answers c =
    omega (arith, c.requires.listed)

pub offset_bounds-answers-i-2 : goal.offset_bounds-answers-i-2
offset_bounds-answers-i-2 c =
    omega (arith, c.requires.room)

pub bounds-answers-i-2 : goal.bounds-answers-i-2
bounds-answers-i-2 c =
    omega (arith, c.requires.room, length-set c.args.answers.now c.args.i c.leap-r.result.spot.row)

pub returns : goal.returns
returns c =
    let given = c.args in
    let to = c.leap-r.result.spot in
    record {
      leaps = c.leap-r.ensures;
      left = ap (λ (x : ℕ). set (set given.answers.now given.i to.row) (given.i + 1) (to.at - x)) c.start_of-start.ensures;
    }
