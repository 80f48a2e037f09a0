-- `decoder::decode` meets its contract: by what the check found, and by the room. Assumes nothing.
use Rattle.lists.proofs.Kit.{sym, ◌∙◌}
use Rattle.std.proofs.lemmas.Result.{err_from_is_err_and}
use Rattle.utf8.proofs.Answers.{check_holds, check_text, check_short, check_bad}
use Rattle.utf8.proofs.decoder.decode.Goals as goal

-- 13
pub returns-in_err-n : goal.returns-in_err-n
returns-in_err-n c =
    let by_from = err_from_is_err_and c.from_residual.result c.from_residual.ensures.1 in
    rw (by_from.1, by_from.2) (check_bad _ _ _ (sym c.check.ensures ∙ c.in_err-n.was))

-- 14
pub returns-then-n-points : goal.returns-then-n-points
returns-then-n-points c =
    check_short _ _ _ (sym c.check.ensures ∙ c.in_ok-n.was) c.if-n-points.true

pub write-requires : goal.write-requires
write-requires c =
    check_holds _ _ _ (sym c.check.ensures ∙ c.in_ok-n.was) c.if-n-points.false

-- the text
pub returns : goal.returns
returns c =
    let given = c.args in
    let is = check_text given.bytes.now given.points.now _ (sym c.check.ensures ∙ c.in_ok-n.was)
    c.if-n-points.false in
    record { answer = is; left = c.write.ensures }
