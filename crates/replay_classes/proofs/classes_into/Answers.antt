-- `classes_into` meets its contract: what the call answers, and leaves in its place and in the slice, is compared. Assumes nothing.
use Rattle.word_classes.specs.Call.{written_of}
use Rattle.call_classes.specs.Classed.{told_written}
use Rattle.replay_verdicts.proofs.Comparing.{told_sized, places_count}
use Rattle.replay_classes.specs.Classes.{classes_into}
use Rattle.replay_classes.proofs.Parts.{slice_compared}
use Rattle.replay_classes.proofs.classes_into.Goals as goal

pub slice_bounds-compared_all-end : goal.slice_bounds-compared_all-end
slice_bounds-compared_all-end c =
    let given = c.args in
    places_count 1 c.word_classes-n.ensures.replied (told_sized (told_written (written_of given.text.now given.list.now given.classes.now)))

pub returns : goal.returns
unfolding classes_into
returns c =
    let word_classes_told = c.word_classes-n.ensures in
    slice_compared 1 _ word_classes_told.replied word_classes_told.classes_after c.compared_all.ensures
