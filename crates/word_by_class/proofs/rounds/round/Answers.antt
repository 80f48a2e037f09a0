-- `word_by_class::rounds::round` meets its contract, motion by motion. Assumes nothing.
use Rattle.word_by_class.specs.Rounds.{round_of}
use Rattle.word_by_class.proofs.Fits.{fwd_in, back_in}
use Rattle.word_by_class.proofs.rounds.round.Goals as goal

pub prev_start-requires : goal.prev_start-requires
prev_start-requires c =
    rw c.jump_back-from.ensures (back_in c.requires.classes c.args.folds.now c.args.p.at c.requires.inside)

pub end_round-requires : goal.end_round-requires
end_round-requires c =
    rw c.jump_fwd.ensures (fwd_in c.requires.classes c.args.folds.now c.args.p.at c.requires.inside)

pub returns-in-Fwd : goal.returns-in-Fwd
unfolding round_of
returns-in-Fwd c =
    rw (c.in-Fwd.is, ← c.jump_fwd-from.ensures, ← c.next_start.ensures) c.turned.ensures

pub returns-in-Back : goal.returns-in-Back
unfolding round_of
returns-in-Back c =
    rw (c.in-Back.is, ← c.jump_back-from.ensures, ← c.prev_start.ensures) c.turned-in-Back.ensures

pub returns-in-End : goal.returns-in-End
unfolding round_of
returns-in-End c =
    rw (c.in-End.is, ← c.jump_fwd.ensures) c.end_round.ensures

pub returns-in-EndBack : goal.returns-in-EndBack
unfolding round_of
returns-in-EndBack c = rw (c.in-EndBack.is, ← c.prev_end.ensures) c.turned-in-EndBack.ensures
