-- `word_places::places::class_at` meets its contract: within the slice it does not matter what is read behind it. Assumes nothing.
use Rattle.lists.proofs.Kit.{sym, arith, get_or-eq_default}
use Rattle.word_places.proofs.Walking.{read_any}
use Rattle.word_places.proofs.places.class_at.Goals as goal

pub returns-then-i-c : goal.returns-then-i-c
returns-then-i-c c =
    let given = c.args in
    read_any given.c.now given.i 0 4 (omega (arith, c.if-i-c.true))

pub returns : goal.returns
returns c =
    let given = c.args in
    sym (get_or-eq_default given.c.now 4 {n = given.i} (omega (arith, c.if-i-c.false)))
