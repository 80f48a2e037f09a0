-- `classed_into` meets its contract: what the call answers, and leaves in the places and in the slice, is compared. Assumes nothing.
use Rattle.replay_verdicts.proofs.Comparing.{places_count}
use Rattle.replay_classes.specs.Classes.{classed_into}
use Rattle.replay_classes.proofs.Parts.{slice_compared, moved_sized}
use Rattle.replay_classes.proofs.classed_into.Goals as goal

pub slice_bounds-compared_all-end : goal.slice_bounds-compared_all-end
slice_bounds-compared_all-end c = places_count 4 c.word_by_class-n.ensures.replied (moved_sized _)

pub returns : goal.returns
unfolding classed_into
returns c =
    let word_by_class_told = c.word_by_class-n.ensures in
    slice_compared 4 _ word_by_class_told.replied word_by_class_told.classes_after c.compared_all.ensures
