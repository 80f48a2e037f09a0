-- `keywords::keyword_spec::refused` meets its contract: the table is the empty one. Assumes nothing.
use Rattle.keywords.proofs.keyword_spec.refused.Goals as goal

pub returns : goal.returns
returns c = rw c.new-spec.ensures
