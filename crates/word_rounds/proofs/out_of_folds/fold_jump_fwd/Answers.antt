-- `word_rounds::out_of_folds::fold_jump_fwd` meets its contract: the last row of the fold is one of the text. Assumes nothing.
use Rattle.word_rounds.specs.Rounds.{to_last}
use Rattle.word_kinds.specs.Spots.{place_of}
use Rattle.word_kinds.proofs.Telling.{lands_here}
use Rattle.word_rounds.proofs.Folding.{fold_asked, span_rows, jump_lands}
use Rattle.word_rounds.proofs.out_of_folds.fold_jump_fwd.Goals as goal

pub row_last-requires : goal.row_last-requires
row_last-requires c =
    let required = c.requires in
    record { spot = required.spot; in_rows = (span_rows required c.closed_fold_at.ensures c.in-Some.is).1 }

pub returns-in-Some : goal.returns-in-Some
returns-in-Some c =
    jump_lands c.requires c.closed_fold_at.ensures (to_last c.args.t.now (place_of c.args.t.now c.args.p))
    c.in-Some.is c.row_last.ensures

pub returns-in-None : goal.returns-in-None
returns-in-None c =
    jump_lands c.requires c.closed_fold_at.ensures (to_last c.args.t.now (place_of c.args.t.now c.args.p))
    c.in-None.is (lands_here c.requires.spot)

pub closed_fold_at-requires : goal.closed_fold_at-requires
closed_fold_at-requires c = fold_asked c.requires
