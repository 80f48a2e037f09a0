-- `matching_bracket_pos` meets its contract: it hands on what the call answers. Assumes nothing.
use Rattle.call_texts.specs.Partners.{partnered}
use Rattle.call_bytes.proofs.Replies.{replied_of}
use Rattle.call_texts.proofs.Placing.{partner_fits}
use Rattle.call_texts.proofs.pairs.matching_bracket_pos.Goals as goal

pub show-requires : goal.show-requires
show-requires c =
    let given = c.args in
    partner_fits given.text.now given.row given.col _ c.matching_bracket_pos.ensures

pub returns : goal.returns
returns c = replied_of partnered c.matching_bracket_pos.ensures c.show.ensures
