-- `press` meets its contract, by the cases of what the key does. Assumes nothing.
use Rattle.lists.proofs.Kit.{ap, ◌∙◌}
use Rattle.session_presses.specs.Pressed.{held, acted}
use Rattle.session_presses.proofs.press.Goals as goal

pub returns-in-Some : goal.returns-in-Some
unfolding acted
returns-in-Some c =
    rw (← c.key_of.ensures, ← c.act_of.ensures, c.in-Some.is) (c.held.ensures ∙ ap (held _) c.motion.ensures)

pub returns-in-None : goal.returns-in-None
unfolding acted
returns-in-None c =
    rw (← c.key_of.ensures, ← c.act_of.ensures, c.in-None.is)
