-- `Caret::to_partner` meets its contract: the partner that the key goes to from the caret's row and column, by its cases.
-- Assumes nothing.
use Rattle.lists.proofs.Kit.{sym, ap, ◌∙◌}
use Rattle.motions.specs.declared.Sought.TheVariants.{Found, Missing}
use Rattle.motions.specs.Finds.{partner_to}
use Rattle.motions.proofs.Fitting.{key_fits}
use Rattle.motions.proofs.Caret.to_partner.Goals as goal

-- where the key goes is in the text
pub placed-requires : goal.placed-requires
placed-requires c =
    let self = c.args.self in
    key_fits c.args.t.now self.row self.col _ c.requires.clear c.requires.accepted.brief
    (sym c.match_bracket_from.ensures ∙ c.in-There.is)

pub returns-in-There : goal.returns-in-There
unfolding partner_to
returns-in-There c =
    let self = c.args.self in
    ap Found c.placed.ensures ∙ ap (partner_to self) (sym c.in-There.is ∙ c.match_bracket_from.ensures)

pub returns-in-None : goal.returns-in-None
unfolding partner_to
returns-in-None c =
    let self = c.args.self in
    ap Missing c.cleared.ensures ∙ ap (partner_to self) (sym c.in-None.is ∙ c.match_bracket_from.ensures)

pub returns-in-Refused : goal.returns-in-Refused
unfolding partner_to
returns-in-Refused c =
    let self = c.args.self in
    ap (partner_to self) (sym c.in-Refused.is ∙ c.match_bracket_from.ensures)
