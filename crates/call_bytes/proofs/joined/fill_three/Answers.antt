-- `joined::fill_three` meets its contract: the check shows that the room is enough for `decode_three`. Assumes nothing.
use Rattle.lists.proofs.Kit.{refl, sym, ◌∙◌}
use Rattle.call_bytes.proofs.Replies.{fit_room}
use Rattle.call_bytes.proofs.Joins.{unfit_three}
use Rattle.call_bytes.proofs.joined.fill_three.Goals as goal

-- something is unfit
pub returns-then-f-ne0 : goal.returns-then-f-ne0
returns-then-f-ne0 c =
    let given = c.args in
    record {
      numbered = c.unfit-f.ensures ∙ unfit_three given.first.now given.second.now given.third.now given.room.now;
      fit = λ z. absurd (c.if-f-ne0.true z);
      kept = λ _. refl;
    }

pub decode_three-requires : goal.decode_three-requires
decode_three-requires c = fit_room _ _ _ (sym c.unfit-f.ensures ∙ c.if-f-ne0.false)

-- the room is filled
pub returns : goal.returns
returns c =
    let given = c.args in
    record {
      numbered = sym c.if-f-ne0.false ∙ c.unfit-f.ensures
          ∙ unfit_three given.first.now given.second.now given.third.now given.room.now;
      fit = λ _. c.decode_three.ensures;
      kept = λ n. absurd (n refl);
    }
