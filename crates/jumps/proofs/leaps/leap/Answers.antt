-- `leaps::leap` meets its contract: `%`, or the rounds of a word motion. Assumes nothing.
use Rattle.lists.proofs.Kit.{sym}
use Rattle.word_kinds.specs.Spots.{place_of}
use Rattle.word_kinds.specs.Lent.{kind_by, kinds_by}
use Rattle.word_kinds.proofs.Telling.{tells_too}
use Rattle.jumps.proofs.Spots.{leapt_key, rounds_leapt}
use Rattle.jumps.proofs.leaps.leap.Goals as goal

pub to_partner-requires : goal.to_partner-requires
to_partner-requires c =
    let footing = c.requires.footing in
    record { clear = footing.clear; tabled = footing.tabled; spot = footing.round.folded.spot }

pub returns-then-kind-eq3 : goal.returns-then-kind-eq3
returns-then-kind-eq3 c =
    let given = c.args in
    record {
      lands = tells_too c.to_partner.ensures
          (sym (leapt_key given.t.now given.folds.now (kinds_by given.by.now) given.kind given.count
          (place_of given.t.now given.p) c.if-kind-eq3.true));
      bare = c.requires.bare;
    }

pub rounds_from-requires : goal.rounds_from-requires
rounds_from-requires c =
    record { round = c.requires.footing.round; bare = c.requires.bare }

pub returns : goal.returns
returns c =
    let given = c.args in
    let walked = c.rounds_from.ensures in
    record {
      lands = tells_too walked.lands (rounds_leapt given.t.now given.folds.now (kinds_by given.by.now) given.kind given.count
          (place_of given.t.now given.p) c.requires.footing.small c.motion_of.ensures c.max.ensures c.if-kind-eq3.false);
      bare = walked.bare;
    }
