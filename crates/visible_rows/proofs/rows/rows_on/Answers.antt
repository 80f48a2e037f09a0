-- `visible_rows::rows::rows_on` meets its contract. The invariant of its loop: the n rounds from the first row are the `left` rounds from r.
-- The measure is `left`. Assumes nothing.
use Rattle.lists.proofs.Kit.{refl, sym, ap, ◌∙◌, arith}
use Rattle.visible_rows.specs.Visible.{toward}
use Rattle.lists.proofs.Rounds.{rounds_none}
use Rattle.visible_rows.proofs.Visible.{toward_within, shift_within, shift_small, free_rounds, free_hop, free_edge}
use Rattle.visible_rows.proofs.rows.rows_on.Goals as goal

pub loop-left-init : goal.loop-left-init
loop-left-init c = record { same = refl; inside = c.requires.row_good.in_rows }

-- the rows that no fold hides are the text's
pub shifted-requires : goal.shifted-requires
shifted-requires c =
    omega (
      arith,
      shift_small c.args.down c.args.rows c.loop-left.r c.free_rows-free.result c.loop-left.invariant.inside
          c.free_rows-free.ensures.within,
      c.if-left-free.true,
      c.requires.few,
    )

pub returns-then-left-free : goal.returns-then-left-free
returns-then-left-free c =
    record {
      row = c.shifted.ensures ∙ sym (c.loop-left.invariant.same ∙ free_rounds c.free_rows-free.ensures c.loop-left.left c.if-left-free.true);
      inside = rw c.shifted.ensures
          (shift_within c.args.down c.args.rows c.loop-left.r c.loop-left.left c.loop-left.invariant.inside
          (omega (arith, c.if-left-free.true, c.free_rows-free.ensures.within)));
    }

pub shifted-edge-requires : goal.shifted-edge-requires
shifted-edge-requires c =
    omega (
      arith,
      shift_small c.args.down c.args.rows c.loop-left.r c.free_rows-free.result c.loop-left.invariant.inside
          c.free_rows-free.ensures.within,
      c.requires.few,
    )

pub visible_row-requires : goal.visible_row-requires
visible_row-requires c =
    record {
      folds_good = c.requires.row_good.folds_good;
      in_rows = rw c.shifted-edge.ensures
          (shift_within c.args.down c.args.rows c.loop-left.r c.free_rows-free.result c.loop-left.invariant.inside
          c.free_rows-free.ensures.within);
    }

-- a visible row comes next
pub loop-left-preserved : goal.loop-left-preserved
loop-left-preserved c =
    let given = c.args in
    let found = ap (toward given.folds.now given.rows given.down) (sym c.shifted-edge.ensures)
    ∙ sym c.visible_row.ensures ∙
    c.in-Some.is in
    record {
      same = c.loop-left.invariant.same
          ∙ free_hop c.free_rows-free.ensures c.loop-left.left (omega (arith, c.if-left-free.false)) _ found;
      inside = toward_within given.folds.now given.rows given.down _ _
          (shift_within given.down given.rows c.loop-left.r c.free_rows-free.result c.loop-left.invariant.inside
          c.free_rows-free.ensures.within) found;
    }

-- none does
pub returns-in-None : goal.returns-in-None
returns-in-None c =
    let given = c.args in
    let none = ap (toward given.folds.now given.rows given.down) (sym c.shifted-edge.ensures)
    ∙ sym c.visible_row.ensures ∙
    c.in-None.is in
    record {
      row = c.shifted-edge.ensures ∙ sym (c.loop-left.invariant.same ∙ free_edge c.free_rows-free.ensures c.loop-left.left
          (omega (arith, c.if-left-free.false)) none);
      inside = rw c.shifted-edge.ensures
          (shift_within given.down given.rows c.loop-left.r c.free_rows-free.result c.loop-left.invariant.inside
          c.free_rows-free.ensures.within);
    }

pub returns : goal.returns
returns c =
    let at_loop = c.loop-left in
    record { row = sym (at_loop.invariant.same ∙ rounds_none _ at_loop.left at_loop.r (omega (arith, c.loop-left-test.false))); inside = at_loop.invariant.inside }
