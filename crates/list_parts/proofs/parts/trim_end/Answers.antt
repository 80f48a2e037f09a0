-- `list_parts::parts::trim_end` meets its contract. The invariant of its loop: what stands from i on is white space. Assumes nothing.
use Rattle.lists.proofs.Kit.{◌≡◌, ap, sym, ◌∙◌, ◌+◌, ◌-◌, arith, take-length, rules}
use Rattle.list_parts.specs.Parts.{trim_end}
use Rattle.list_parts.proofs.TrimLaws.{trims_on, trims_stop, trim_end_on, trim_end_stop, trim_end_end}
use Rattle.list_parts.proofs.parts.trim_end.Goals as goal

pub loop-i-init : goal.loop-i-init
loop-i-init c = record { inside = search rules; same = ap trim_end (sym (take-length c.args.p.now)) }

pub returns-then-not-white_in : goal.returns-then-not-white_in
returns-then-not-white_in c =
    let at_loop = c.loop-i in
    let white = sym c.white_in.ensures ∙ c.if-not-white_in.true in
    let e_is : at_loop.i - 1 + 1 ≡ at_loop.i = omega arith in
    rw e_is (trims_stop at_loop.invariant (trim_end_stop _ at_loop.i c.loop-i-test.true (at_loop.invariant).inside white))

pub loop-i-preserved : goal.loop-i-preserved
loop-i-preserved c =
    let at_loop = c.loop-i in
    let white = sym c.white_in.ensures ∙ c.if-not-white_in.false in
    trims_on at_loop.invariant (omega (arith, (at_loop.invariant).inside))
    (trim_end_on _ at_loop.i c.loop-i-test.true (at_loop.invariant).inside white)

pub returns : goal.returns
returns c =
    let i_is : c.loop-i.i ≡ 0 = omega arith in
    rw i_is at (trims_stop c.loop-i.invariant (trim_end_end _ c.loop-i.i c.loop-i-test.false))

pub white_in-requires : goal.white_in-requires
white_in-requires c = c.requires
