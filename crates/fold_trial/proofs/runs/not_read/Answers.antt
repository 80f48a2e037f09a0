use Rattle.lists.specs.Codes.{codes}
use Rattle.fold_trial.specs.Runs.{unread}
use Rattle.fold_trial.proofs.runs.not_read.Goals as goal

pub returns : goal.returns
unfolding unread codes
returns c = c.put_bytes.ensures
