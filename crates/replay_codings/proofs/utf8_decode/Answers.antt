-- `utf8_decode` meets its contract: the tests of the definition in their order. Assumes nothing.
use Rattle.lists.proofs.Kit.{sym, ◌∙◌, arith, length-take-le, rules, le-leb, lt-leb}
use Rattle.replay_verdicts.specs.Answers.{filler}
use Rattle.replay_verdicts.proofs.Comparing.{take_replicate}
use Rattle.replay_codings.specs.Codings.{decode_verdict}
use Rattle.replay_codings.proofs.utf8_decode.Goals as goal

pub returns-then-n-gt64 : goal.returns-then-n-gt64
unfolding decode_verdict
returns-then-n-gt64 c = rw (lt-leb _ 64 c.if-n-gt64.true)

pub returns-then-room-gt64 : goal.returns-then-room-gt64
unfolding decode_verdict
returns-then-room-gt64 c = rw (le-leb _ 64 c.if-n-gt64.false, lt-leb _ 64 c.if-room-gt64.true)

-- a number that is no byte
pub returns-then-not-narrow : goal.returns-then-not-narrow
unfolding decode_verdict
returns-then-not-narrow c =
    rw (le-leb _ 64 c.if-n-gt64.false, le-leb _ 64 c.if-room-gt64.false, sym c.narrow.ensures.told ∙ c.if-not-narrow.true)

-- the bytes and the places that are lent
pub slice_bounds-decode_into-end : goal.slice_bounds-decode_into-end
slice_bounds-decode_into-end c =
    sym (length-take-le _ _ (omega (arith, c.narrow.ensures.same, c.if-n-gt64.false)))

pub returns : goal.returns
unfolding decode_verdict
returns c =
    let given_k = c.args.k in
    let is_true = c.if-not-narrow.false in
    rw (
      le-leb _ 64 c.if-n-gt64.false,
      le-leb _ 64 c.if-room-gt64.false,
      sym c.narrow.ensures.told ∙ is_true,
      ← take_replicate given_k.a 64 filler c.if-room-gt64.false,
    ) (rw (c.narrow.ensures.front is_true) at c.decode_into.ensures)

pub slice_bounds-decode_into-end-2 : goal.slice_bounds-decode_into-end-2
slice_bounds-decode_into-end-2 c = search (rules, length-take-le)
