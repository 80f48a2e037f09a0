-- `lend::fill` meets its contract: the check shows that the room is enough for `decode`. Assumes nothing.
use Rattle.lists.proofs.Kit.{refl, sym, ◌∙◌}
use Rattle.call_bytes.proofs.Replies.{fit_room}
use Rattle.call_bytes.proofs.lend.fill.Goals as goal

-- something is unfit
pub returns-then-f-ne0 : goal.returns-then-f-ne0
returns-then-f-ne0 c = record { numbered = c.unfit-f.ensures; fit = λ z. absurd (c.if-f-ne0.true z); kept = λ _. refl }

pub decode-requires : goal.decode-requires
decode-requires c = fit_room _ _ _ (sym c.unfit-f.ensures ∙ c.if-f-ne0.false)

-- the room is filled
pub returns : goal.returns
returns c =
    let decode_told = c.decode.ensures in
    record {
      numbered = sym c.if-f-ne0.false ∙ c.unfit-f.ensures;
      fit = λ _. record { count = refl; room_left = decode_told.room_left; within = decode_told.within; front = decode_told.front };
      kept = λ n. absurd (n refl);
    }
