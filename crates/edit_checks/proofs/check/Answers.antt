-- `edit_checks::check` meets its contract: it goes through the checks in the order of the refusals. Each way out is found from the law of its check
-- by what the checks before it told. Assumes nothing.
use Rattle.lists.proofs.Kit.{sym, length-take-le}
use Rattle.edit_checks.proofs.Chain.{refused_by_lem, by_length, by_entry_lem, entry_rows, text_short, by_folds, by_stretch}
use Rattle.edit_checks.proofs.Chain.{in_order, in_text_lem, in_words, by_room, by_none}
use Rattle.edit_checks.proofs.check.Goals as goal

pub returns-then-len-buf : goal.returns-then-len-buf
returns-then-len-buf c = search by_length

pub slice_bounds-t-end : goal.slice_bounds-t-end
slice_bounds-t-end c = sym (length-take-le _ _ c.if-len-buf.false)

pub returns-then-f-ne0 : goal.returns-then-f-ne0
returns-then-f-ne0 c = search (refused_by_lem, by_entry_lem)

pub returns-then-g-ne0 : goal.returns-then-g-ne0
returns-then-g-ne0 c = search (refused_by_lem, by_folds)

pub stretch-c-requires : goal.stretch-c-requires
stretch-c-requires c = search (entry_rows, text_short)

pub returns-then-c-ne0 : goal.returns-then-c-ne0
returns-then-c-ne0 c = search by_stretch

pub overflow_sub-c : goal.overflow_sub-c
overflow_sub-c c = search in_order

pub overflow_sub-len : goal.overflow_sub-len
overflow_sub-len c = search in_text_lem

pub overflow_add-len : goal.overflow_add-len
overflow_add-len c = search in_words

pub returns-then-h-ne0 : goal.returns-then-h-ne0
returns-then-h-ne0 c = search (refused_by_lem, by_room)

pub returns : goal.returns
returns c = search by_none
