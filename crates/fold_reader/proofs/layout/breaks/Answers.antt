-- `layout::breaks` meets its contract: the rules one after another. Assumes nothing.
use Rattle.fold_reader.proofs.Breaking.{breaks_number, breaks_many, breaks_full, breaks_some, breaks_unused, breaks_total}
use Rattle.fold_reader.proofs.layout.breaks.Goals as goal

pub returns-then-two_at-k : goal.returns-then-two_at-k
returns-then-two_at-k c =
    let given = c.args in
    breaks_number given.many given.n given.k given.block.now _ c.two_at.ensures.same c.if-two_at-k.true

pub returns-then-count-gt56 : goal.returns-then-count-gt56
returns-then-count-gt56 c =
    let given = c.args in
    breaks_many given.many given.n given.k given.block.now _ c.two_at.ensures.same c.if-two_at-k.false _
    c.two_at-count.ensures.same c.if-count-gt56.true

pub returns-then-k-many : goal.returns-then-k-many
returns-then-k-many c =
    let given = c.args in
    breaks_full given.many given.n given.k given.block.now _ c.two_at.ensures.same c.if-two_at-k.false _
    c.two_at-count.ensures.same c.if-count-gt56.false c.if-k-many.true

pub returns-then-many-count : goal.returns-then-many-count
returns-then-many-count c =
    let given = c.args in
    breaks_some given.many given.n given.k given.block.now _ c.two_at.ensures.same c.if-two_at-k.false _
    c.two_at-count.ensures.same c.if-count-gt56.false c.if-k-many.false c.if-many-count.true

pub returns-then-used : goal.returns-then-used
returns-then-used c =
    let given = c.args in
    breaks_unused given.many given.n given.k given.block.now _ c.two_at.ensures.same c.if-two_at-k.false _
    c.two_at-count.ensures.same c.if-count-gt56.false c.if-k-many.false c.if-many-count.false _ c.used.ensures c.if-used.true

pub returns : goal.returns
returns c =
    let given = c.args in
    breaks_total given.many given.n given.k given.block.now _ c.two_at.ensures.same c.if-two_at-k.false _
    c.two_at-count.ensures.same
    c.if-count-gt56.false c.if-k-many.false c.if-many-count.false _ c.used.ensures c.if-used.false _ c.two_at-2.ensures.same
