-- `encoder::encode` meets its contract: each refusal, and the text. Assumes nothing.
use Rattle.lists.proofs.Kit.{sym, ◌∙◌, arith, not-true, not-false}
use Rattle.utf8.proofs.Encodes.{encode_long, encode_wrong, encode_short, encode_text}
use Rattle.utf8.proofs.encoder.encode.Goals as goal

-- 1
pub returns-then-points-gt1048576 : goal.returns-then-points-gt1048576
returns-then-points-gt1048576 c = encode_long _ _ c.if-points-gt1048576.true

-- 2
pub returns-then-not-all_scalar : goal.returns-then-not-all_scalar
returns-then-not-all_scalar c = encode_wrong _ _ c.if-points-gt1048576.false (not-false _ (sym c.all_scalar.ensures ∙ c.if-not-all_scalar.true))

-- 14
pub returns-then-n-bytes : goal.returns-then-n-bytes
returns-then-n-bytes c =
    encode_short _ _ c.if-points-gt1048576.false (not-true _ (sym c.all_scalar.ensures ∙ c.if-not-all_scalar.false))
    (omega (arith, c.size_all-n.ensures, c.if-n-bytes.true))

pub write-requires : goal.write-requires
write-requires c =
    record {
      scalar = not-true _ (sym c.all_scalar.ensures ∙ c.if-not-all_scalar.false);
      room = omega (arith, c.size_all-n.ensures, c.if-n-bytes.false);
    }

-- the text
pub returns : goal.returns
returns c =
    encode_text c.args.points.now c.args.bytes.now c.if-points-gt1048576.false
    (not-true _ (sym c.all_scalar.ensures ∙ c.if-not-all_scalar.false)) _ _ c.size_all-n.ensures
    (omega (arith, c.size_all-n.ensures, c.if-n-bytes.false)) c.write.ensures
