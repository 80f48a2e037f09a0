-- `inner_pair` meets its contract: it hands on what the call answers. Assumes nothing.
use Rattle.call_bytes.proofs.Replies.{replied_of}
use Rattle.call_texts.specs.Inners.{surrounded}
use Rattle.call_texts.proofs.Placing.{inner_by_fits}
use Rattle.call_texts.proofs.inners.inner_pair.Goals as goal

pub show-requires : goal.show-requires
show-requires c =
    let given = c.args in
    rw c.inner_by.ensures (inner_by_fits given.kind given.row given.col given.text.now)

pub returns : goal.returns
returns c = replied_of surrounded c.inner_by.ensures c.show.ensures
