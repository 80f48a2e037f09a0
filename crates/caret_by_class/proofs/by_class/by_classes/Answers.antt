-- `caret_by_class::by_class::by_classes` meets its contract: the classes are written, and the second engine's motion by them is the first engine's.
-- Assumes nothing.
use Rattle.lists.proofs.Kit.{ap, ◌∙◌}
use Rattle.text_check.proofs.Accepted.{accepted_short}
use Rattle.list_tokens.specs.Tokens.{any_token}
use Rattle.keywords.specs.Table.{kept}
use Rattle.motions.specs.Carets.{here}
use Rattle.motions.specs.WordMoves.{at_place}
use Rattle.motions.proofs.Fitting.{part_count}
use Rattle.caret_by_class.proofs.Equal.{front_there, asked_of, leads_to, led_fits}
use Rattle.caret_by_class.proofs.by_class.by_classes.Goals as goal

pub slice_bounds-word_by_class-end : goal.slice_bounds-word_by_class-end
slice_bounds-word_by_class-end c =
    let given = c.args in
    part_count _ (front_there given.t.now (any_token (kept given.spec)) given.classes.now _ c.write_classes.ensures)

pub word_by_class-to-requires : goal.word_by_class-to-requires
word_by_class-to-requires c =
    let given = c.args in
    asked_of given.t.now (any_token (kept given.spec)) given.classes.now _ c.write_classes.ensures (here given.k)
    c.requires.inside given.own.now c.requires.good

pub placed-requires : goal.placed-requires
placed-requires c =
    let given = c.args in
    let by_fits = led_fits given.t.now (any_token (kept given.spec)) given.classes.now _ c.write_classes.ensures (here given.k)
    c.requires.inside given.own.now given.big given.m given.stop given.count c.word_by_class-to.result c.word_by_class-to.ensures
    (accepted_short given.t.now c.requires.writable.clear) in
    record { row = by_fits.0; col = by_fits.1 }

pub returns : goal.returns
returns c =
    let given = c.args in
    record {
      answer = c.placed.ensures
          ∙ ap (at_place given.k) (leads_to given.t.now (any_token (kept given.spec)) given.classes.now _ c.write_classes.ensures
          (here given.k) c.requires.inside given.own.now given.big given.m given.stop given.count c.word_by_class-to.result
          c.word_by_class-to.ensures);
      left = c.write_classes.ensures;
    }
