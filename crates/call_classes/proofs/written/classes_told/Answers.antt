-- `written::classes_told` meets its contract, by the cases of the answer. Assumes nothing.
use Rattle.lists.proofs.Kit.{ap, sym, ◌∙◌, arith}
use Rattle.call_classes.specs.Classed.{told_written}
use Rattle.call_classes.proofs.Sizes.{written_size}
use Rattle.call_classes.proofs.written.classes_told.Goals as goal

pub overflow_cast-result : goal.overflow_cast-result
overflow_cast-result c =
    let given = c.args in
    let most = written_size given.text.now given.list.now given.classes.now c.in-Made.n
    (sym c.in-Made.is ∙ c.word_classes.ensures.answer) in
    omega (arith, most)

pub returns-in-Made : goal.returns-in-Made
returns-in-Made c =
    let word_classes_told = c.word_classes.ensures in
    record { value = ap told_written (sym c.in-Made.is ∙ word_classes_told.answer); classes_after = word_classes_told.left }

pub returns-in-Refused : goal.returns-in-Refused
returns-in-Refused c =
    let word_classes_told = c.word_classes.ensures in
    record { value = ap told_written (sym c.in-Refused.is ∙ word_classes_told.answer); classes_after = word_classes_told.left }
