-- `brackets::matching::match_bracket_from` meets its contract: it hands the first bracket of the row to `partner`.
-- Assumes nothing.
use Rattle.lists.proofs.Kit.{arith}
use Rattle.brackets.proofs.Call.{jump_starts, jump_answer, jump_none}
use Rattle.brackets.proofs.matching.match_bracket_from.Goals as goal

pub overflow_add-start : goal.overflow_add-start
overflow_add-start c =
    let starts =
    (jump_starts c.args.t.now c.requires.clear c.requires.line c.args.col c.row.ensures
    c.first_bracket-f.ensures _ c.in-Some.is) in
    let by_starts = starts in omega (arith, by_starts.inside, by_starts.short)

pub returns-in-Some : goal.returns-in-Some
returns-in-Some c =
    let row_told = c.row.ensures in
    jump_answer c.args.t.now c.requires.clear c.requires.line c.args.col row_told
    c.first_bracket-f.ensures _ c.in-Some.is c.partner.ensures

pub returns-in-None : goal.returns-in-None
returns-in-None c =
    jump_none c.args.t.now c.requires.clear c.requires.line c.args.col c.row.ensures
    c.first_bracket-f.ensures c.in-None.is

pub partner-requires : goal.partner-requires
partner-requires c =
    let starts =
    (jump_starts c.args.t.now c.requires.clear c.requires.line c.args.col c.row.ensures
    c.first_bracket-f.ensures _ c.in-Some.is) in
    starts
