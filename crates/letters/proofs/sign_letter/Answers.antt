-- `letters::sign_letter` meets its contract: three of the signs are letters. Assumes nothing.
use mathlib.Core.Path.{sym}
use Rattle.letters.proofs.Tables.{letter_sign}
use Rattle.letters.proofs.sign_letter.Goals as goal

pub returns : goal.returns
returns c = sym (letter_sign c.args.x c.requires)
