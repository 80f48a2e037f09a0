-- `session::session` meets its contract: an input is refused, or run. Assumes nothing.
use Rattle.lists.proofs.Kit.{sym, ◌∙◌, arith}
use Rattle.session.proofs.Printing.{session_refused, session_runs, session_short, session_fits, printed}
use Rattle.session.proofs.session.Goals as goal

pub run-requires : goal.run-requires
run-requires c =
    (session_short _ (sym c.in-Some.is ∙ c.begins.ensures), omega arith)

pub returns-in-Some : goal.returns-in-Some
returns-in-Some c =
    let input = c.args.input.now in
    printed (session_runs input (sym c.in-Some.is ∙ c.begins.ensures)) (omega (arith, session_fits input))
    c.run.ensures

pub returns-in-None : goal.returns-in-None
returns-in-None c =
    let input = c.args.input.now in
    printed (session_refused input (sym c.in-None.is ∙ c.begins.ensures))
    (omega (arith, session_fits input)) c.refuse.ensures
