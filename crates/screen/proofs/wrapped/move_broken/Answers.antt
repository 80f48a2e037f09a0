use Rattle.lists.proofs.Kit.{refl, arith}
use Rattle.chars.specs.White.{whites}
use Rattle.chars.specs.Width.{width_with}
use Rattle.text.proofs.Parts.{row_fits}
use Rattle.screen_segments.specs.Parts.{lay_of}
use Rattle.screen.proofs.Spans.{target_made}
use Rattle.screen.proofs.wrapped.move_broken.Goals as goal

pub start-j-requires : goal.start-j-requires
start-j-requires c =
    let required = c.requires.moving in
    let place = required.accepted.place in
    record {
      counts = required.counts;
      folds_good = rw required.counts.all_rows place.folds_good;
      line = place.line;
      small = omega (
        arith,
        place.here.in_col,
        row_fits c.args.t.now c.args.l.row place.row_good.in_rows,
        place.row_good.brief,
      );
    }

pub screen_from-g-requires : goal.screen_from-g-requires
unfolding whites
screen_from-g-requires c =
    let required = c.requires.moving in
    let place = required.accepted.place in
    record {
      sets_out = record {
        ready = record {
          breaks = record { tables = record { widths = required.accepted.widths; whites_are = refl }; wide = c.requires.wide };
          brief = place.row_good.brief;
          all_rows = required.counts.all_rows;
          folds_good = rw required.counts.all_rows place.folds_good;
        };
        line = c.start-j.ensures.line;
        some = omega (arith, c.max-n.ensures);
      };
      small = c.start-j.ensures.small;
    }

pub returns : goal.returns
returns c =
    let given = c.args in
    let width = width_with given.by in
    target_made width given.t.now given.folds.now given.tabstop (lay_of width given.word given.width) given.down given.count
    given.l.row given.col given.sticky given.offset
    c.wanted-want.ensures c.max-n.ensures c.start-j.ensures.place c.screen_from-g.ensures.answer
