-- `session_input::begins` meets its contract: each way that an input is refused, and where its text begins. Assumes nothing.
use Rattle.lists.proofs.Kit.{sym, ◌∙◌}
use Rattle.session_input.proofs.Inputs.{begin_long, begin_bad, begin_stop}
use Rattle.session_input.proofs.TextRead.{check_good, check_bad}
use Rattle.session_input.proofs.begins.Goals as goal

pub returns-then-input-gt16384 : goal.returns-then-input-gt16384
returns-then-input-gt16384 c = begin_long _ c.if-input-gt16384.true

-- no UTF-8
pub returns-in_err-ok : goal.returns-in_err-ok
returns-in_err-ok c =
    c.from_residual.ensures ∙ begin_bad _ c.if-input-gt16384.false (check_bad _ c.check.ensures (sym c.ok.ensures.value ∙ c.in_err-ok.was))

-- UTF-8: by the full-stop row
pub returns : goal.returns
returns c =
    c.find_stop.ensures ∙ begin_stop _ c.if-input-gt16384.false (check_good _ c.check.ensures (sym c.ok.ensures.value ∙ c.in_ok-ok.was))
