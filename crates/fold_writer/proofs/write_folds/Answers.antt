-- `write_folds` meets its contract: each refusal, and the file. Assumes nothing.
use Rattle.lists.proofs.Kit.{ap, sym, ◌∙◌, ◌/◌, arith, length}
use Rattle.folds.specs.Folds.{fold_refusal}
use Rattle.fold_blocks.proofs.Files.{length_file, blocks_few}
use Rattle.fold_writer.proofs.Answers.{folds_few, write_text, write_folds, write_short, write_file}
use Rattle.fold_writer.proofs.write_folds.Goals as goal

-- 1 to 3
pub returns-then-f-ne0 : goal.returns-then-f-ne0
returns-then-f-ne0 c = write_text _ _ _ _ c.text_refusal-f.ensures c.if-f-ne0.true

-- 5
pub returns-then-g-ne0 : goal.returns-then-g-ne0
returns-then-g-ne0 c =
    let given = c.args in
    write_folds given.text.now given.folds.now given.file.now (sym c.if-f-ne0.false ∙ c.text_refusal-f.ensures) _
    (c.fold_refusal-g.ensures ∙ ap (fold_refusal given.folds.now) c.row_count.ensures) c.if-g-ne0.true

pub blocks_for-size-requires : goal.blocks_for-size-requires
blocks_for-size-requires c =
    folds_few c.args.folds.now _ (sym c.fold_refusal-g.ensures ∙ c.if-g-ne0.false)

pub overflow_mul-size : goal.overflow_mul-size
overflow_mul-size c =
    let folds_now = c.args.folds.now in
    let few = folds_few folds_now _ (sym c.fold_refusal-g.ensures ∙ c.if-g-ne0.false) in
    omega (arith, c.blocks_for-size.ensures, blocks_few (length folds_now / 3) (omega (arith, few)))

-- 14
pub returns-then-size-file : goal.returns-then-size-file
returns-then-size-file c =
    let given = c.args in
    write_short given.text.now given.folds.now given.file.now (sym c.if-f-ne0.false ∙ c.text_refusal-f.ensures)
    (sym c.if-g-ne0.false ∙ c.fold_refusal-g.ensures ∙ ap (fold_refusal given.folds.now) c.row_count.ensures)
    (omega (arith, c.if-size-file.true, c.blocks_for-size.ensures, length_file given.folds.now))

pub put_blocks-requires : goal.put_blocks-requires
put_blocks-requires c =
    let given = c.args in
    record {
      few = folds_few given.folds.now _ (sym c.fold_refusal-g.ensures ∙ c.if-g-ne0.false);
      room = omega (arith, c.if-size-file.false, c.blocks_for-size.ensures, length_file given.folds.now);
    }

-- the file
pub returns : goal.returns
returns c =
    let given = c.args in
    let size = length_file given.folds.now in
    write_file given.text.now given.folds.now given.file.now (sym c.if-f-ne0.false ∙ c.text_refusal-f.ensures)
    (sym c.if-g-ne0.false ∙ c.fold_refusal-g.ensures ∙ ap (fold_refusal given.folds.now) c.row_count.ensures) _ _ _
    (omega (arith, c.blocks_for-size.ensures, size)) (omega (arith, c.if-size-file.false, c.blocks_for-size.ensures, size))
    c.put_blocks.ensures
