-- `list_signs::marks::mark_part` meets its contract: the two marks of the definition, one after the other. Assumes nothing.
use Rattle.lists.proofs.Kit.{ap, ◌∙◌, ◌+◌, arith, length, rules}
use Rattle.lists.proofs.Finding.{up_to_most}
use Rattle.list_signs.proofs.MarkLaws.{length_marked}
use Rattle.list_signs.proofs.PartMarks.{part_marked_lem}
use Rattle.list_signs.proofs.marks.mark_part.Goals as goal

pub overflow_add-from : goal.overflow_add-from
overflow_add-from c =
    let most = up_to_most 43 c.args.p.now in
    omega (arith, most, c.find.ensures, c.requires)

pub mark-requires : goal.mark-requires
mark-requires c =
    omega (arith, up_to_most 43 c.args.p.now, c.find.ensures, c.requires)

pub overflow_add-from-2 : goal.overflow_add-from-2
overflow_add-from-2 c =
    omega (arith, up_to_most 45 c.args.p.now, c.find-2.ensures, c.requires)

pub overflow_add-from-3 : goal.overflow_add-from-3
overflow_add-from-3 c =
    omega (arith, up_to_most 45 c.args.p.now, c.find-2.ensures, c.requires)

pub mark-requires-2 : goal.mark-requires-2
mark-requires-2 c =
    let at = c.args.from + c.find.result in
    let same = ap length c.mark.ensures ∙ length_marked c.leads_plus.result at c.args.marks.now in
    omega (arith, up_to_most 45 c.args.p.now, c.find-2.ensures, c.requires, same)

pub returns : goal.returns
returns c = search (rules, part_marked_lem)
