-- `entry::placed_matched` meets its contract, by the cases of the answer. Assumes nothing.
use Rattle.lists.proofs.Kit.{◌∙◌, ap}
use Rattle.call_signs.specs.declared.Placed.TheVariants.{Value}
use Rattle.call_bytes.proofs.Replies.{from_bit}
use Rattle.call_signs.proofs.entry.placed_matched.Goals as goal

pub returns-in-Is : goal.returns-in-Is
returns-in-Is c = rw c.in-Is.is (ap Value (c.from.ensures ∙ from_bit c.in-Is.b))

pub returns-in-Refused : goal.returns-in-Refused
returns-in-Refused c = rw c.in-Refused.is
