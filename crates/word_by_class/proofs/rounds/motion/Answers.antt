-- `word_by_class::rounds::motion` meets its contract: the first round, and the rest of the count from where it ended. Assumes nothing.
use Rattle.lists.proofs.Kit.{ap, sym, ◌∙◌, false, ℕ, ◌-◌, arith}
use Rattle.word_by_class.specs.Rounds.{round_of, counted}
use Rattle.word_by_class.proofs.Counts.{motion_on, motion_off}
use Rattle.word_by_class.proofs.Fits.{on_in}
use Rattle.word_by_class.proofs.Asks.{ready_at}
use Rattle.word_by_class.proofs.rounds.motion.Goals as goal

pub moved-requires : goal.moved-requires
moved-requires c =
    record {
      stands = c.requires.stands;
      within = omega (arith, on_in c.requires.classes _ _ c.requires.inside _ _ _ _ (sym c.round.ensures ∙ c.in-On.is));
    }

pub rounds-requires : goal.rounds-requires
rounds-requires c =
    let high = on_in c.requires.classes _ _ c.requires.inside _ _ _ _ (sym c.round.ensures ∙ c.in-On.is) in
    ready_at c.requires c.moved.result c.moved.ensures.stands (omega (arith, high, c.moved.ensures.place))

pub returns-in-On : goal.returns-in-On
returns-in-On c =
    let given = c.args in
    c.rounds.ensures ∙ ap (counted (round_of given.c.now given.folds.now given.big given.m false) _) c.moved.ensures.place
    ∙ motion_on given.c.now given.folds.now given.big given.m given.stop given.count given.p.at _ _
    (sym c.round.ensures ∙ c.in-On.is) (ap (λ (n : ℕ). n - 1) c.max.ensures)

pub returns-in-Off : goal.returns-in-Off
returns-in-Off c =
    let given = c.args in
    motion_off given.c.now given.folds.now given.big given.m given.stop given.count given.p.at _
    (sym c.round.ensures ∙ c.in-Off.is)
