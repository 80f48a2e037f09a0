-- `list_signs::marks::marks_of` meets its contract. The invariant of its loop: the marks of the parts before `from` are made, and there are none
-- from there on. The measure is how far `from` is from past the list's end. Assumes nothing.
use Rattle.lists.proofs.Kit.{sym, ◌-◌, arith, drop, length-drop, length-take-le, rules}
use Rattle.lists.proofs.Splits.{next_most}
use Rattle.list_signs.proofs.Marking.{marking_start, marking_length, marking_step, marking_end}
use Rattle.list_signs.proofs.marks.marks_of.Goals as goal

pub slice_bounds-mark_part-end : goal.slice_bounds-mark_part-end
slice_bounds-mark_part-end c =
    let by_next_most = next_most 44 c.args.list.now c.loop-from.from c.loop-from-test.true in
    search rules

pub slice_bounds-mark_part-end-in-loop-from : goal.slice_bounds-mark_part-end-in-loop-from
slice_bounds-mark_part-end-in-loop-from c =
    sym (marking_length _ _ _ c.loop-from.invariant.marking (omega (arith, c.requires)))

pub mark_part-requires : goal.mark_part-requires
mark_part-requires c =
    let most = next_most 44 c.args.list.now c.loop-from.from c.loop-from-test.true in
    let size = marking_length _ _ _ c.loop-from.invariant.marking (omega (arith, c.requires)) in
    let part = length-take-le (c.find-e.result - c.loop-from.from) (drop c.loop-from.from c.args.list.now)
    (omega (arith, most, c.find-e.ensures, length-drop c.loop-from.from c.args.list.now)) in
    omega (arith, most, c.find-e.ensures, size, part, c.requires)

pub overflow_add-from : goal.overflow_add-from
overflow_add-from c =
    omega (arith, c.find-e.ensures, next_most 44 c.args.list.now c.loop-from.from c.loop-from-test.true, c.requires)

pub loop-from-preserved : goal.loop-from-preserved
loop-from-preserved c =
    let list_now = c.args.list.now in
    let inside = c.loop-from-test.true in
    record {
      within = omega (arith, c.find-e.ensures, next_most 44 list_now c.loop-from.from inside);
      marking = marking_step list_now _ _ c.loop-from.from c.find-e.result inside c.requires c.find-e.ensures
          c.loop-from.invariant.marking c.mark_part.ensures;
    }

pub returns : goal.returns
returns c =
    let list_now = c.args.list.now in
    marking_end list_now _ _ c.loop-from.invariant.marking (omega (arith, c.loop-from-test.false))

pub loop-from-init : goal.loop-from-init
loop-from-init c = search (rules, marking_start)

pub loop-from-smaller : goal.loop-from-smaller
loop-from-smaller c = search (rules, next_most)
