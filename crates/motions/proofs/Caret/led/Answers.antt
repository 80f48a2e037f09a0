-- `Caret::led` meets its contract: the walk by the tables of the setting. Assumes nothing.
use Rattle.motions.proofs.Upright.{upright_ready}
use Rattle.motions.proofs.Caret.led.Goals as goal

-- what the walk requires, by what the checks have shown
pub walk_as-requires : goal.walk_as-requires
walk_as-requires c =
    let accepted = c.requires.accepted in
    record {
      place = upright_ready c.requires;
      counts = record { all_rows = accepted.all_rows; content_rows = accepted.content_rows };
    }
