-- `list_signs::entry::enter` meets its contract: the tests are those of the definition, in its order. Assumes nothing.
use Rattle.lists.proofs.Kit.{◌∙◌, rules}
use Rattle.list_signs.proofs.Answers.{short, enough, entered_7, entered_21, entered_else}
use Rattle.list_signs.proofs.entry.enter.Goals as goal

pub returns-then-refused_list-ne0 : goal.returns-then-refused_list-ne0
returns-then-refused_list-ne0 c = c.refused_at.ensures
    ∙ entered_7 c.args.list.now _ c.refused_list.ensures c.if-refused_list-ne0.true

pub marks_of-marks-requires : goal.marks_of-marks-requires
marks_of-marks-requires c = short c.args.list.now _ c.refused_list.ensures c.if-refused_list-ne0.false

pub first_mark-at-requires : goal.first_mark-at-requires
first_mark-at-requires c =
    enough c.args.list.now _ c.refused_list.ensures c.if-refused_list-ne0.false _
    c.marks_of-marks.ensures

pub returns-then-at-list : goal.returns-then-at-list
returns-then-at-list c =
    c.refused_at-then-at-list.ensures ∙ entered_21 c.args.list.now _ c.refused_list.ensures c.if-refused_list-ne0.false _
    c.marks_of-marks.ensures _ c.first_mark-at.ensures c.if-at-list.true

pub returns : goal.returns
returns c = search (rules, entered_else)
