-- `read_folds` meets its contract: each refusal, and the folds. Assumes nothing.
use Rattle.lists.proofs.Kit.{sym, ◌∙◌, arith, length-take-le}
use Rattle.fold_blocks.proofs.Whole.{layout_whole, folds_most}
use Rattle.fold_reader.proofs.Answers.{taken_front, read_text_lem, read_layout, read_folds, read_short, read_list}
use Rattle.fold_reader.proofs.read_folds.Goals as goal

-- 1 to 3
pub returns-then-f-ne0 : goal.returns-then-f-ne0
returns-then-f-ne0 c = read_text_lem _ _ _ _ c.text_refusal-f.ensures c.if-f-ne0.true

-- 18 to 20
pub returns-then-g-ne0 : goal.returns-then-g-ne0
returns-then-g-ne0 c =
    let given = c.args in
    read_layout given.text.now given.file.now given.folds.now (sym c.if-f-ne0.false ∙ c.text_refusal-f.ensures) _
    c.layout_refusal-g.ensures c.if-g-ne0.true

pub take_all-n-requires : goal.take_all-n-requires
take_all-n-requires c =
    let whole = layout_whole c.args.file.now (sym c.layout_refusal-g.ensures ∙ c.if-g-ne0.false) in
    record { unbroken = whole.laid; room = folds_most _ whole }

pub slice_bounds-list-end : goal.slice_bounds-list-end
slice_bounds-list-end c =
    let file_now = c.args.file.now in
    let whole = layout_whole file_now (sym c.layout_refusal-g.ensures ∙ c.if-g-ne0.false) in
    omega (arith, c.take_all-n.ensures, folds_most file_now whole)

pub slice_bounds-fold_refusal-end : goal.slice_bounds-fold_refusal-end
slice_bounds-fold_refusal-end c =
    let file_now = c.args.file.now in
    let whole = layout_whole file_now (sym c.layout_refusal-g.ensures ∙ c.if-g-ne0.false) in
    let took = c.take_all-n.ensures in
    sym (length-take-le _ _ (omega (arith, took.next, took.size, folds_most file_now whole)))

-- 5
pub returns-then-h-ne0 : goal.returns-then-h-ne0
returns-then-h-ne0 c =
    let given = c.args in
    let file_now = given.file.now in
    let whole = layout_whole file_now (sym c.layout_refusal-g.ensures ∙ c.if-g-ne0.false) in
    let list = taken_front c.take_all-n.ensures (folds_most file_now whole) in
    read_folds given.text.now file_now given.folds.now (sym c.if-f-ne0.false ∙ c.text_refusal-f.ensures)
    (sym c.if-g-ne0.false ∙ c.layout_refusal-g.ensures) _
    (c.fold_refusal-h.ensures ∙ rw (list, c.row_count.ensures)) c.if-h-ne0.true

-- 14
pub returns-then-n-folds : goal.returns-then-n-folds
returns-then-n-folds c =
    let given = c.args in
    let file_now = given.file.now in
    let whole = layout_whole file_now (sym c.layout_refusal-g.ensures ∙ c.if-g-ne0.false) in
    let list = taken_front c.take_all-n.ensures (folds_most file_now whole) in
    read_short given.text.now file_now given.folds.now (sym c.if-f-ne0.false ∙ c.text_refusal-f.ensures)
    (sym c.if-g-ne0.false ∙ c.layout_refusal-g.ensures)
    (sym c.if-h-ne0.false ∙ c.fold_refusal-h.ensures ∙ rw (list, c.row_count.ensures))
    (omega (arith, c.if-n-folds.true, c.take_all-n.ensures))

pub take_all-requires : goal.take_all-requires
take_all-requires c =
    let whole = layout_whole c.args.file.now (sym c.layout_refusal-g.ensures ∙ c.if-g-ne0.false) in
    record { unbroken = whole.laid; room = omega (arith, c.if-n-folds.false, c.take_all-n.ensures) }

-- the folds
pub returns : goal.returns
returns c =
    let given = c.args in
    let file_now = given.file.now in
    let whole = layout_whole file_now (sym c.layout_refusal-g.ensures ∙ c.if-g-ne0.false) in
    let first = c.take_all-n.ensures in
    let list = taken_front first (folds_most file_now whole) in
    read_list given.text.now file_now given.folds.now (sym c.if-f-ne0.false ∙ c.text_refusal-f.ensures)
    (sym c.if-g-ne0.false ∙ c.layout_refusal-g.ensures)
    (sym c.if-h-ne0.false ∙ c.fold_refusal-h.ensures ∙ rw (list, c.row_count.ensures)) _ _ _
    (omega (arith, first)) (omega (arith, c.if-n-folds.false, first)) c.take_all.ensures
