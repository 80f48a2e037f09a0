-- `chars::white::low_white` meets its contract: below U+1680 the list has the four ranges that are compared. Assumes nothing.
use mathlib.Core.Bool.{or-false}
use Rattle.chars.proofs.Tables.{white_low}
use Rattle.chars.proofs.white.low_white.Goals as goal

pub returns : goal.returns
returns c = rw (white_low c.args.x c.requires, or-false)
