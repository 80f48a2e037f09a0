-- `closed` meets its contract: the close that the walk on finds is that of the open. Assumes nothing.
use Rattle.lists.proofs.Kit.{sym, ◌∙◌}
use Rattle.bracket_inner.proofs.Closed.{closed_pair, closed_none, closed_refused, close_brief}
use Rattle.bracket_inner.proofs.around.closed.Goals as goal

pub ranges_of-requires : goal.ranges_of-requires
ranges_of-requires c =
    let given = c.args in
    let there = sym c.match_forward.ensures ∙ c.in-There.is in
    record {
      first = c.requires.brief;
      second = close_brief given.t.now c.requires.goes.short given.opening given.closing given.at there;
    }

pub returns-in-There : goal.returns-in-There
returns-in-There c =
    closed_pair c.args.p c.match_forward.ensures c.in-There.is c.ranges_of.ensures

pub returns-in-None : goal.returns-in-None
returns-in-None c =
    closed_none c.args.p c.match_forward.ensures c.in-None.is

pub returns-in-Refused : goal.returns-in-Refused
returns-in-Refused c =
    closed_refused c.args.p c.match_forward.ensures c.in-Refused.is
