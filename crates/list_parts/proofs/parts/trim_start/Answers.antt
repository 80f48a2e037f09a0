-- `list_parts::parts::trim_start` meets its contract. The invariant of its loop: what stands before i is white space. Assumes nothing.
use Rattle.lists.proofs.Kit.{◌≡◌, sym, ◌∙◌, length, arith}
use Rattle.list_parts.proofs.TrimLaws.{trims_on, trims_stop, trim_start_on, trim_start_stop, trim_start_end}
use Rattle.list_parts.proofs.parts.trim_start.Goals as goal

pub returns-then-not-white_in : goal.returns-then-not-white_in
returns-then-not-white_in c =
    let at_loop = c.loop-i in
    let white = sym c.white_in.ensures ∙ c.if-not-white_in.true in
    trims_stop at_loop.invariant (trim_start_stop _ at_loop.i c.loop-i-test.true white)

pub loop-i-preserved : goal.loop-i-preserved
loop-i-preserved c =
    let at_loop = c.loop-i in
    let white = sym c.white_in.ensures ∙ c.if-not-white_in.false in
    trims_on at_loop.invariant (omega arith) (trim_start_on _ at_loop.i c.loop-i-test.true white)

pub returns : goal.returns
returns c =
    let i_is : c.loop-i.i ≡ length c.args.p.now = omega (arith, c.loop-i.invariant.inside) in
    rw i_is at (trims_stop c.loop-i.invariant (trim_start_end _ c.loop-i.i c.loop-i-test.false))

pub white_in-requires : goal.white_in-requires
white_in-requires c = c.requires
