-- `by_key` meets its contract, key by key. Assumes nothing.
use Rattle.lists.proofs.Kit.{arith}
use Rattle.fold_trial.proofs.Rows.{unread_fits, prints}
use Rattle.fold_trial.proofs.Inputs.{key_write, key_none, key_many, key_read}
use Rattle.fold_trial.proofs.runs.by_key.Goals as goal

pub returns-then-key-eq119 : goal.returns-then-key-eq119
returns-then-key-eq119 c =
    let given = c.args in
    rw (key_write given.key given.numbers.now given.bytes.now c.if-key-eq119.true) c.store_in.ensures

pub returns-then-key-ne114 : goal.returns-then-key-ne114
returns-then-key-ne114 c =
    let given = c.args in
    rw (key_none given.key given.numbers.now given.bytes.now c.if-key-eq119.false c.if-key-ne114.true)
    (prints unread_fits c.requires.room c.not_read.ensures)

pub returns-then-numbers-ne1 : goal.returns-then-numbers-ne1
returns-then-numbers-ne1 c =
    let given = c.args in
    rw (key_many given.key given.numbers.now given.bytes.now c.if-key-eq119.false c.if-key-ne114.false c.if-numbers-ne1.true)
    (prints unread_fits c.requires.room c.not_read-then-numbers-ne1.ensures)

pub returns : goal.returns
returns c =
    let given = c.args in
    rw (key_read given.key given.numbers.now given.bytes.now c.if-key-eq119.false c.if-key-ne114.false c.if-numbers-ne1.false)
    c.load_in.ensures

pub bounds-numbers-0 : goal.bounds-numbers-0
bounds-numbers-0 c = omega (arith, c.type_inv.numbers 0)
