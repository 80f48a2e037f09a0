-- `bracket_walks::walks::partner` meets its contract: it hands each side to its walk.
-- Assumes nothing.
use Rattle.lists.proofs.Kit.{sym, ◌∙◌}
use Rattle.bracket_walks.proofs.Sides.{open_asked, open_answer, close_asked, close_answer, no_answer}
use Rattle.bracket_walks.proofs.walks.partner.Goals as goal

pub match_forward-requires : goal.match_forward-requires
match_forward-requires c =
    let side = sym c.side_of-s.ensures ∙ c.in-Open.is in
    open_asked c.args.t.now c.args.at c.requires c.in-Open.k c.open_code.ensures
    c.close_code.ensures side

pub match_backward-requires : goal.match_backward-requires
match_backward-requires c =
    let side = sym c.side_of-s.ensures ∙ c.in-Close.is in
    close_asked c.args.t.now c.args.at c.requires c.in-Close.k c.open_code-in-Close.ensures
    c.close_code-in-Close.ensures side

-- an open
pub returns-in-Open : goal.returns-in-Open
returns-in-Open c =
    let given = c.args in
    let side = sym c.side_of-s.ensures ∙ c.in-Open.is in
    let open_code_told = c.open_code.ensures in
    open_answer given.t.now given.at c.requires c.in-Open.k open_code_told c.close_code.ensures side
    c.match_forward.ensures

-- a close
pub returns-in-Close : goal.returns-in-Close
returns-in-Close c =
    let given = c.args in
    let side = sym c.side_of-s.ensures ∙ c.in-Close.is in
    let open_code2_told = c.open_code-in-Close.ensures in
    close_answer given.t.now given.at c.requires c.in-Close.k open_code2_told c.close_code-in-Close.ensures side
    c.match_backward.ensures

-- no bracket
pub returns-in-Neither : goal.returns-in-Neither
returns-in-Neither c =
    let given = c.args in
    no_answer given.t.now given.at (sym c.side_of-s.ensures ∙ c.in-Neither.is)
