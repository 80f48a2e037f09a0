-- `words::rounds::rounds` meets its contract: the stretch around the row is one without closed folds. Assumes nothing.
use Rattle.words.proofs.rounds.rounds.Goals as goal

pub rounds_from-r-requires : goal.rounds_from-r-requires
rounds_from-r-requires c = record { round = c.requires; bare = c.around-w.ensures }

pub returns : goal.returns
returns c = c.rounds_from-r.ensures.lands
