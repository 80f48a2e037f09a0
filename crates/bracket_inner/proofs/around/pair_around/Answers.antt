-- `pair_around` meets its contract: on an open of the kind that is the pair's own, and elsewhere the walk back finds it; the walk on finds the close.
-- Assumes nothing.
use Rattle.bracket_inner.proofs.Answer.{Asked, open_asked, open_answer, back_asked, close_asked, close_answer, none_answer, refused_answer}
use Rattle.bracket_inner.proofs.around.pair_around.Goals as goal

-- on an open of the kind
pub closed-requires : goal.closed-requires
closed-requires c =
    let asked : let given = c.args in
    Asked given.t.now given.l given.at given.x given.k c.open_code-o.result c.close_code-c.result
    c.stands_at.result =
    record {
      stays = c.requires;
      opens = c.open_code-o.ensures;
      closes = c.close_code-c.ensures;
      told = c.stands_at.ensures;
    } in
    open_asked asked c.if-stands_at.true

pub returns-then-stands_at : goal.returns-then-stands_at
returns-then-stands_at c =
    let asked : let given = c.args in
    Asked given.t.now given.l given.at given.x given.k c.open_code-o.result c.close_code-c.result
    c.stands_at.result =
    record {
      stays = c.requires;
      opens = c.open_code-o.ensures;
      closes = c.close_code-c.ensures;
      told = c.stands_at.ensures;
    } in
    open_answer asked c.if-stands_at.true c.closed.ensures

-- anywhere else
pub match_backward-requires : goal.match_backward-requires
match_backward-requires c =
    let asked : let given = c.args in
    Asked given.t.now given.l given.at given.x given.k c.open_code-o.result c.close_code-c.result
    c.stands_at.result =
    record {
      stays = c.requires;
      opens = c.open_code-o.ensures;
      closes = c.close_code-c.ensures;
      told = c.stands_at.ensures;
    } in
    back_asked asked c.if-stands_at.false

pub closed-requires-in-There : goal.closed-requires-in-There
closed-requires-in-There c =
    let asked : let given = c.args in
    Asked given.t.now given.l given.at given.x given.k c.open_code-o.result c.close_code-c.result
    c.stands_at.result =
    record {
      stays = c.requires;
      opens = c.open_code-o.ensures;
      closes = c.close_code-c.ensures;
      told = c.stands_at.ensures;
    } in
    close_asked asked c.if-stands_at.false c.match_backward.ensures c.in-There.is

pub returns-in-There : goal.returns-in-There
returns-in-There c =
    let asked : let given = c.args in
    Asked given.t.now given.l given.at given.x given.k c.open_code-o.result c.close_code-c.result
    c.stands_at.result =
    record {
      stays = c.requires;
      opens = c.open_code-o.ensures;
      closes = c.close_code-c.ensures;
      told = c.stands_at.ensures;
    } in
    close_answer asked c.if-stands_at.false c.match_backward.ensures c.in-There.is c.closed-in-There.ensures

pub returns-in-None : goal.returns-in-None
returns-in-None c =
    let asked : let given = c.args in
    Asked given.t.now given.l given.at given.x given.k c.open_code-o.result c.close_code-c.result
    c.stands_at.result =
    record {
      stays = c.requires;
      opens = c.open_code-o.ensures;
      closes = c.close_code-c.ensures;
      told = c.stands_at.ensures;
    } in
    none_answer asked c.if-stands_at.false c.match_backward.ensures c.in-None.is

pub returns-in-Refused : goal.returns-in-Refused
returns-in-Refused c =
    let asked : let given = c.args in
    Asked given.t.now given.l given.at given.x given.k c.open_code-o.result c.close_code-c.result
    c.stands_at.result =
    record {
      stays = c.requires;
      opens = c.open_code-o.ensures;
      closes = c.close_code-c.ensures;
      told = c.stands_at.ensures;
    } in
    refused_answer asked c.if-stands_at.false c.match_backward.ensures c.in-Refused.is
