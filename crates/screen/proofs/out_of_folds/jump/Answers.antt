use Rattle.lists.proofs.Kit.{sym, ap, ◌∙◌, arith}
use Rattle.text.proofs.Content.{content_near}
use Rattle.screen.specs.Screen.{jumped_to}
use Rattle.screen.proofs.Spans.{end_within, jumped_out, jumped_not}
use Rattle.screen.proofs.out_of_folds.jump.Goals as goal

pub closed_fold_at-requires : goal.closed_fold_at-requires
closed_fold_at-requires c =
    let required = c.requires in (
      required.folds_good,
      omega (arith, required.line.in_row, required.counts.all_rows),
      omega (arith, required.counts.content_rows, content_near c.args.t.now),
    )

pub jump_to-requires : goal.jump_to-requires
jump_to-requires c =
    let given = c.args in
    let required = c.requires in
    let all = required.counts.all_rows in
    let content = required.counts.content_rows in
    let near = content_near given.t.now in
    let by_end_within = end_within given.folds.now given.rows given.content (omega (arith, content)) (omega (arith, content, all)) given.down
    given.l.row _ _ (omega (arith, required.line.in_row, all)) (sym c.closed_fold_at.ensures ∙ c.in-Some.is) in
    record { line = required.line; small = required.small; in_rows = omega (arith, by_end_within, c.pick.ensures, all) }

pub returns-in-Some : goal.returns-in-Some
returns-in-Some c =
    let given = c.args in
    let jump_to_told = c.jump_to.ensures in
    record {
      place = jump_to_told.place ∙ ap (jumped_to given.t.now (record { row = given.l.row; col = given.col })) c.pick.ensures ∙
          sym (jumped_out given.t.now given.folds.now given.down (record { row = given.l.row; col = given.col })
          c.requires.counts c.closed_fold_at.ensures _ _ c.in-Some.is);
      line = jump_to_told.line;
      small = jump_to_told.small;
    }

pub returns-in-None : goal.returns-in-None
returns-in-None c =
    let given = c.args in
    record {
      place = sym (jumped_not given.t.now given.folds.now given.down (record { row = given.l.row; col = given.col })
          c.requires.counts c.closed_fold_at.ensures c.in-None.is);
      line = c.requires.line;
      small = c.requires.small;
    }
