-- `leaps::to_partner` meets its contract: the partner that the key goes to from the spot's row and column, by its cases. Assumes nothing.
use Rattle.lists.proofs.Kit.{sym, ◌∙◌, ◌-◌, arith}
use Rattle.word_kinds.proofs.Telling.{tells_too, lands_here}
use Rattle.jumps.proofs.Spots.{line_here, partner_is, key_inside}
use Rattle.jumps.proofs.leaps.to_partner.Goals as goal

pub start_of-start-requires : goal.start_of-start-requires
start_of-start-requires c =
    record { tabled = c.requires.tabled; in_row = c.requires.spot.in_row }

-- the row starts at or before the spot
pub overflow_sub-p : goal.overflow_sub-p
overflow_sub-p c =
    omega (arith, c.start_of-start.ensures, c.requires.spot.from)

pub match_bracket_from-requires : goal.match_bracket_from-requires
match_bracket_from-requires c =
    record {
      clear = c.requires.clear;
      line = line_here c.args.t.now c.args.p c.start_of-start.ensures c.requires.spot.in_row;
    }

-- the partner is in the text
pub spot_of-requires : goal.spot_of-requires
spot_of-requires c =
    let given_p = c.args.p in
    record {
      clear = c.requires.clear;
      tabled = c.requires.tabled;
      inside = key_inside c.args.t.now given_p.row (given_p.at - c.start_of-start.result) _ c.requires.clear
          (sym c.match_bracket_from.ensures ∙ c.in-There.is);
    }

pub returns-in-There : goal.returns-in-There
returns-in-There c =
    tells_too c.spot_of.ensures
    (partner_is c.args.t.now c.args.p c.start_of-start.ensures c.match_bracket_from.ensures c.in-There.is)

pub returns-in-None : goal.returns-in-None
returns-in-None c =
    tells_too (lands_here c.requires.spot)
    (partner_is c.args.t.now c.args.p c.start_of-start.ensures c.match_bracket_from.ensures c.in-None.is)

pub returns-in-Refused : goal.returns-in-Refused
returns-in-Refused c =
    tells_too (lands_here c.requires.spot)
    (partner_is c.args.t.now c.args.p c.start_of-start.ensures c.match_bracket_from.ensures c.in-Refused.is)
