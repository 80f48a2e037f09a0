-- `cases::by_group` meets its contract, arm by arm. Assumes nothing.
use Rattle.lists.proofs.Kit.{ne_eqb}
use Rattle.replay.specs.Cases.{by_group}
use Rattle.replay.proofs.cases.by_group.Goals as goal

pub returns-in_default : goal.returns-in_default
unfolding by_group
returns-in_default c =
    let other = c.in_default.in_default-own.rest in
    rw (
      ne_eqb _ 0 other.0.0.0.0.0.0.0.0.0.0.0.0.0.0.0.0.0.0.0.0.0.0.0.0.0.1,
      ne_eqb _ 1 other.0.0.0.0.0.0.0.0.0.0.0.0.0.0.0.0.0.0.0.0.0.0.0.0.1,
      ne_eqb _ 2 other.0.0.0.0.0.0.0.0.0.0.0.0.0.0.0.0.0.0.0.0.0.0.0.1,
      ne_eqb _ 3 other.0.0.0.0.0.0.0.0.0.0.0.0.0.0.0.0.0.0.0.0.0.0.1,
      ne_eqb _ 4 other.0.0.0.0.0.0.0.0.0.0.0.0.0.0.0.0.0.0.0.0.0.1,
      ne_eqb _ 5 other.0.0.0.0.0.0.0.0.0.0.0.0.0.0.0.0.0.0.0.0.1,
      ne_eqb _ 6 other.0.0.0.0.0.0.0.0.0.0.0.0.0.0.0.0.0.0.0.1,
      ne_eqb _ 7 other.0.0.0.0.0.0.0.0.0.0.0.0.0.0.0.0.0.0.1,
      ne_eqb _ 8 other.0.0.0.0.0.0.0.0.0.0.0.0.0.0.0.0.0.1,
      ne_eqb _ 9 other.0.0.0.0.0.0.0.0.0.0.0.0.0.0.0.0.1,
      ne_eqb _ 10 other.0.0.0.0.0.0.0.0.0.0.0.0.0.0.0.1,
      ne_eqb _ 11 other.0.0.0.0.0.0.0.0.0.0.0.0.0.0.1,
      ne_eqb _ 12 other.0.0.0.0.0.0.0.0.0.0.0.0.0.1,
    ) (rw (
      ne_eqb _ 13 other.0.0.0.0.0.0.0.0.0.0.0.0.1,
      ne_eqb _ 14 other.0.0.0.0.0.0.0.0.0.0.0.1,
      ne_eqb _ 15 other.0.0.0.0.0.0.0.0.0.0.1,
      ne_eqb _ 16 other.0.0.0.0.0.0.0.0.0.1,
      ne_eqb _ 17 other.0.0.0.0.0.0.0.0.1,
      ne_eqb _ 18 other.0.0.0.0.0.0.0.1,
      ne_eqb _ 19 other.0.0.0.0.0.0.1,
      ne_eqb _ 20 other.0.0.0.0.0.1,
      ne_eqb _ 21 other.0.0.0.0.1,
      ne_eqb _ 22 other.0.0.0.1,
      ne_eqb _ 23 other.0.0.1,
      ne_eqb _ 24 other.0.1,
      ne_eqb _ 25 other.1,
    ))

pub returns-in-0 : goal.returns-in-0
unfolding by_group
returns-in-0 c = rw c.in-0.is c.character.ensures

pub returns-in-1 : goal.returns-in-1
unfolding by_group
returns-in-1 c = rw c.in-1.is c.keywords.ensures

pub returns-in-2 : goal.returns-in-2
unfolding by_group
returns-in-2 c = rw c.in-2.is c.columns.ensures

pub returns-in-3 : goal.returns-in-3
unfolding by_group
returns-in-3 c = rw c.in-3.is c.offsets.ensures

pub returns-in-4 : goal.returns-in-4
unfolding by_group
returns-in-4 c = rw c.in-4.is c.segment_for_col.ensures

pub returns-in-5 : goal.returns-in-5
unfolding by_group
returns-in-5 c = rw c.in-5.is c.wrap_segments.ensures

pub returns-in-6 : goal.returns-in-6
unfolding by_group
returns-in-6 c = rw c.in-6.is c.content_row_count.ensures

pub returns-in-7 : goal.returns-in-7
unfolding by_group
returns-in-7 c = rw c.in-7.is c.matching_bracket_pos.ensures

pub returns-in-8 : goal.returns-in-8
unfolding by_group
returns-in-8 c = rw c.in-8.is c.motion.ensures

pub returns-in-9 : goal.returns-in-9
unfolding by_group
returns-in-9 c = rw c.in-9.is c.seek.ensures

pub returns-in-10 : goal.returns-in-10
unfolding by_group
returns-in-10 c = rw c.in-10.is c.word.ensures

pub returns-in-11 : goal.returns-in-11
unfolding by_group
returns-in-11 c = rw c.in-11.is c.vertical.ensures

pub returns-in-12 : goal.returns-in-12
unfolding by_group
returns-in-12 c = rw c.in-12.is c.viewport.ensures

pub returns-in-13 : goal.returns-in-13
unfolding by_group
returns-in-13 c = rw c.in-13.is c.inner_pair.ensures

pub returns-in-14 : goal.returns-in-14
unfolding by_group
returns-in-14 c = rw c.in-14.is c.utf8_decode.ensures

pub returns-in-15 : goal.returns-in-15
unfolding by_group
returns-in-15 c = rw c.in-15.is c.utf8_encode.ensures

pub returns-in-16 : goal.returns-in-16
unfolding by_group
returns-in-16 c = rw c.in-16.is c.enter.ensures

pub returns-in-17 : goal.returns-in-17
unfolding by_group
returns-in-17 c = rw c.in-17.is c.without_plus.ensures

pub returns-in-18 : goal.returns-in-18
unfolding by_group
returns-in-18 c = rw c.in-18.is c.screen_kept.ensures

pub returns-in-19 : goal.returns-in-19
unfolding by_group
returns-in-19 c = rw c.in-19.is c.edit.ensures

pub returns-in-20 : goal.returns-in-20
unfolding by_group
returns-in-20 c = rw c.in-20.is c.fold_file.ensures

pub returns-in-21 : goal.returns-in-21
unfolding by_group
returns-in-21 c = rw c.in-21.is c.by_class.ensures

pub returns-in-22 : goal.returns-in-22
unfolding by_group
returns-in-22 c = rw c.in-22.is c.tabled.ensures

pub returns-in-23 : goal.returns-in-23
unfolding by_group
returns-in-23 c = rw c.in-23.is c.vim.ensures

pub returns-in-24 : goal.returns-in-24
unfolding by_group
returns-in-24 c = rw c.in-24.is c.jumped.ensures

pub returns-in-25 : goal.returns-in-25
unfolding by_group
returns-in-25 c = rw c.in-25.is c.word_vim.ensures
