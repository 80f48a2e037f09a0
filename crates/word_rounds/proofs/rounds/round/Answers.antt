-- `word_rounds::rounds::round` meets its contract, motion by motion. Assumes nothing.
use Rattle.word_rounds.specs.Rounds.{round_of}
use Rattle.word_rounds.proofs.rounds.round.Goals as goal

pub returns-in-Fwd : goal.returns-in-Fwd
unfolding round_of
returns-in-Fwd c = rw c.in-Fwd.is c.fwd_round.ensures

pub returns-in-Back : goal.returns-in-Back
unfolding round_of
returns-in-Back c = rw c.in-Back.is c.back_round.ensures

pub returns-in-End : goal.returns-in-End
unfolding round_of
returns-in-End c = rw c.in-End.is c.end_round.ensures

pub returns-in-EndBack : goal.returns-in-EndBack
unfolding round_of
returns-in-EndBack c = rw c.in-EndBack.is c.end_back_round.ensures
