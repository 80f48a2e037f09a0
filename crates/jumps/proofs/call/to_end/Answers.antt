-- `call::to_end` meets its contract: the caret's spot goes in, and the spot at the end is a caret again. Assumes nothing.
use Rattle.lists.proofs.Kit.{ap, ◌∙◌, false, arith}
use Rattle.list_tokens.specs.Tokens.{any_token}
use Rattle.keywords.specs.Table.{kept}
use Rattle.word_kinds.specs.Places.{kind_of}
use Rattle.motions.specs.Carets.{put}
use Rattle.motions.proofs.Wording.{place_of_lem, word_ready}
use Rattle.jumps.specs.Leaps.{leap_places, leap_end}
use Rattle.jumps.proofs.Calling.{over_as}
use Rattle.jumps.proofs.call.to_end.Goals as goal

pub overflow_add-at : goal.overflow_add-at
overflow_add-at c =
    omega (arith, c.requires.accepted.here.within, c.requires.accepted.brief)

pub run_by-r-requires : goal.run_by-r-requires
run_by-r-requires c =
    let given = c.args in
    let required = c.requires in
    record {
      clear = required.clear;
      tabled = required.tabled;
      short = required.short;
      folded = word_ready given.t.now given.folds.now given.k given.e required.accepted required.good;
      course = required.course;
    }

pub caret_of-requires : goal.caret_of-requires
caret_of-requires c =
    record { clear = c.requires.clear; tabled = c.requires.tabled; spot = c.run_by-r.ensures.lands.inside }

pub shape_of-answers : goal.shape_of-answers
shape_of-answers c = c.run_by-r.ensures.left.size

pub returns : goal.returns
returns c =
    let given = c.args in
    let class = kind_of (any_token (kept given.spec)) false in
    let from = place_of_lem given.t.now given.k given.e c.requires.accepted in
    record {
      caret = c.caret_of.ensures
          ∙ ap (put given.k) (c.run_by-r.ensures.lands.place ∙ ap (leap_end given.t.now given.folds.now class given.jumps.now) from);
      left = over_as (ap (leap_places given.t.now given.folds.now class given.jumps.now) from) c.run_by-r.ensures.left;
    }
