-- `chars::white_in` meets its contract: the lent table is the list of the definition, and ascends. Assumes nothing.
use Rattle.lists.proofs.Kit.{◌∙◌}
use Rattle.chars.specs.White.{is_white}
use Rattle.chars.proofs.Tables.{whites_ascend}
use Rattle.chars.proofs.white.white_in.Goals as goal

pub in_table-requires : goal.in_table-requires
in_table-requires c = rw c.requires whites_ascend

pub returns : goal.returns
unfolding is_white
returns c = c.in_table.ensures ∙ rw c.requires
