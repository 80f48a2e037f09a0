-- `words::rounds::round_near` meets its contract: in the stretch a round without folds is the same. Assumes nothing.
use Rattle.lists.proofs.Kit.{false}
use Rattle.word_kinds.specs.Spots.{place_of}
use Rattle.word_kinds.specs.Lent.{kind_by, kinds_by}
use Rattle.word_kinds.proofs.Telling.{tells_too}
use Rattle.words.proofs.Bare.{round_bare, set_bare}
use Rattle.words.proofs.rounds.round_near.Goals as goal

pub round-requires : goal.round-requires
round-requires c =
    set_bare c.requires.round

pub returns-then-w-p : goal.returns-then-w-p
returns-then-w-p c =
    tells_too c.round.ensures (round_bare c.args.t.now c.args.folds.now c.requires.bare (place_of c.args.t.now c.args.p)
    c.if-w-p.true (kinds_by c.args.by.now) c.args.by.now.setting.big c.args.m false)
