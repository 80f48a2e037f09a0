-- `letters::latin_letter` meets its contract: beside A to Z and a to z, all from U+00C0 on but two. Assumes nothing.
use mathlib.Core.Path.{sym}
use Rattle.letters.proofs.Tables.{letter_plain}
use Rattle.letters.proofs.latin_letter.Goals as goal

pub returns : goal.returns
returns c = sym (letter_plain c.args.x c.requires.low c.requires.no_sign)
