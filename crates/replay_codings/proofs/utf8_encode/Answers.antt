-- `utf8_encode` meets its contract: the test of the definition, and the places that are lent. Assumes nothing.
use Rattle.lists.proofs.Kit.{length-take-le, rules, le-leb, lt-leb}
use Rattle.replay_verdicts.proofs.Comparing.{take_replicate}
use Rattle.replay_codings.specs.Codings.{encode_verdict}
use Rattle.replay_codings.proofs.utf8_encode.Goals as goal

pub returns-then-room-gt64 : goal.returns-then-room-gt64
unfolding encode_verdict
returns-then-room-gt64 c = rw (lt-leb _ 64 c.if-room-gt64.true)

pub returns : goal.returns
unfolding encode_verdict
returns c =
    let given_k = c.args.k in
    rw (le-leb _ 64 c.if-room-gt64.false, ← take_replicate given_k.a 64 165 c.if-room-gt64.false) c.encode_into.ensures

pub slice_bounds-encode_into-end : goal.slice_bounds-encode_into-end
slice_bounds-encode_into-end c = search (rules, length-take-le)

pub slice_bounds-encode_into-end-2 : goal.slice_bounds-encode_into-end-2
slice_bounds-encode_into-end-2 c = search (rules, length-take-le)

pub encode_into-requires : goal.encode_into-requires
encode_into-requires c = search (rules, length-take-le)
