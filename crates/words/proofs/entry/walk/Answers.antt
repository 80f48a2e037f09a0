-- `words::entry::walk` meets its contract: the first round, and the rest. Assumes nothing.
use Rattle.lists.proofs.Kit.{ap, sym, ℕ, ◌-◌}
use Rattle.word_kinds.specs.Spots.{place_of}
use Rattle.word_kinds.specs.Lent.{kind_by, kinds_by}
use Rattle.word_kinds.proofs.Telling.{tells_as, tells_too, lands_here}
use Rattle.word_rounds.proofs.Counts.{motion_on, motion_off}
use Rattle.word_rounds.proofs.Turning.{set_at}
use Rattle.words.proofs.entry.walk.Goals as goal

pub rounds-requires : goal.rounds-requires
rounds-requires c =
    set_at c.requires _ (tells_as c.round.ensures c.in-On.is).inside

pub returns-in-On : goal.returns-in-On
returns-in-On c =
    let found = tells_as c.round.ensures c.in-On.is in
    tells_too c.rounds.ensures
    (motion_on c.args.t.now c.args.folds.now (kinds_by c.args.by.now) c.args.by.now.setting.big c.args.m
    c.args.stop c.args.count (place_of c.args.t.now c.args.p) _ (sym found.place)
    (ap (λ (n : ℕ). n - 1) c.max.ensures))

pub returns-in-Off : goal.returns-in-Off
returns-in-Off c =
    let found = tells_as c.round.ensures c.in-Off.is in
    tells_too (lands_here found.inside)
    (motion_off c.args.t.now c.args.folds.now (kinds_by c.args.by.now) c.args.by.now.setting.big c.args.m
    c.args.stop c.args.count (place_of c.args.t.now c.args.p) (sym found.place))
