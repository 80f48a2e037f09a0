-- `margins::solid` meets its contract. The invariant of its loop: from b on all is white space. Assumes nothing.
use Rattle.lists.proofs.Kit.{◌≡◌, sym, ◌∙◌, ◌+◌, ◌-◌, arith}
use Rattle.margins.proofs.Edging.{solid_start, solid_on, solid_stop, solid_end}
use Rattle.margins.proofs.solid.Goals as goal

pub white_in-requires : goal.white_in-requires
white_in-requires c = c.requires

pub returns-then-not-white_in : goal.returns-then-not-white_in
returns-then-not-white_in c =
    let one : c.loop-b.b - 1 + 1 ≡ c.loop-b.b = omega arith in
    rw one (solid_stop c.loop-b.invariant c.loop-b-test.true (sym c.white_in.ensures ∙ c.if-not-white_in.true))

pub loop-b-preserved : goal.loop-b-preserved
loop-b-preserved c =
    solid_on c.loop-b.invariant c.loop-b-test.true (sym c.white_in.ensures ∙ c.if-not-white_in.false)

pub returns : goal.returns
returns c = solid_end c.loop-b.invariant c.loop-b-test.false

pub loop-b-init : goal.loop-b-init
loop-b-init c = solid_start _
