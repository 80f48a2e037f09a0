-- `walks::walk` meets its contract. The invariant of its loop: the n rounds from the first spot are the `left` rounds from this one,
-- and no fold hides the next `free` rows. The measure is `left`. Assumes nothing.
use Rattle.lists.proofs.Kit.{◌≡◌, refl, sym, ap, ◌∙◌, List, ℕ, arith}
use Rattle.chars.specs.Width.{width_with}
use Rattle.text.proofs.Parts.{count_le}
use Rattle.text.proofs.Stands.{line_there, stands_own}
use Rattle.text.specs.declared.Line.{Line}
use Rattle.visible_rows.specs.Visible.{toward}
use Rattle.screen_segments.specs.Parts.{segment_count, lay_of}
use Rattle.visible_rows.proofs.Visible.{toward_within}
use Rattle.screen.proofs.Walking.{walking_start, walking_cross, walking_edge, walking_end, walking_spot}
use Rattle.screen.proofs.walks.walk.Goals as goal

pub free_rows-free-requires : goal.free_rows-free-requires
free_rows-free-requires c =
    omega (arith, c.requires.spot.line.in_row, c.requires.ready.all_rows)

pub loop-ahead-init : goal.loop-ahead-init
loop-ahead-init c =
    record { walking = walking_start c.args.from c.requires.spot; clear = c.free_rows-free.ensures }

pub hop-hop-requires : goal.hop-hop-requires
hop-hop-requires c =
    let all = c.requires.ready.all_rows in
    record {
      walk = record {
        row_good = record { folds_good = c.requires.ready.folds_good; in_rows = omega (arith, c.loop-ahead.invariant.walking.line.in_row, all) };
        few = omega (arith, all, count_le c.args.t.now, c.requires.ready.brief);
      };
      clear = c.loop-ahead.invariant.clear;
    }

pub line_to-next-requires : goal.line_to-next-requires
line_to-next-requires c =
    let given = c.args in
    let all = c.requires.ready.all_rows in (
      stands_own c.loop-ahead.invariant.walking.line,
      omega (
        arith,
        all,
        toward_within given.folds.now given.rows given.down c.loop-ahead.row _ (omega (arith, all, c.loop-ahead.invariant.walking.line.in_row))
            (sym c.hop-hop.ensures.found ∙ c.in-Some.is),
      ),
    )

pub row-line-requires : goal.row-line-requires
row-line-requires c =
    let given = c.args in
    let all = c.requires.ready.all_rows in
    line_there given.t.now c.line_to-next.result _ c.line_to-next.ensures (omega (
      arith,
      all,
      toward_within given.folds.now given.rows given.down c.loop-ahead.row _ (omega (arith, all, c.loop-ahead.invariant.walking.line.in_row))
          (sym c.hop-hop.ensures.found ∙ c.in-Some.is),
    ))

pub segment_count-ahead-requires : goal.segment_count-ahead-requires
segment_count-ahead-requires c =
    c.requires.ready.breaks

-- the next visible row comes, with the rows behind it that no fold hides
pub loop-ahead-preserved : goal.loop-ahead-preserved
loop-ahead-preserved c =
    let given = c.args in
    let all = c.requires.ready.all_rows in
    let width = width_with given.by in
    let is = c.in-Some.is in
    let seen = sym c.hop-hop.ensures.found ∙ is in
    let found = ap (λ (n : ℕ). toward given.folds.now n given.down c.loop-ahead.row) (sym all) ∙ seen in
    let there : c.line_to-next.result.row ≡ c.in-Some.x = ap (λ (x : Line). x.row) c.line_to-next.ensures in
    record {
      walking = walking_cross c.loop-ahead.invariant.walking _ c.segment_count-ahead.result c.line_to-next.result c.loop-ahead-test.true found
          (omega (
            arith,
            all,
            toward_within given.folds.now given.rows given.down c.loop-ahead.row _
                (omega (arith, all, c.loop-ahead.invariant.walking.line.in_row)) seen,
          )) c.line_to-next.ensures
          (c.segment_count-ahead.ensures.count ∙ ap (λ (x : List ℕ). segment_count (lay_of width given.word given.width x)) c.row-line.ensures)
          c.segment_count-ahead.ensures.some;
      clear = rw there (c.hop-hop.ensures.onward _ is);
    }

pub returns-in-None : goal.returns-in-None
returns-in-None c =
    let given = c.args in
    let none = ap (λ (k : ℕ). toward given.folds.now k given.down c.loop-ahead.row) (sym c.requires.ready.all_rows)
    ∙ sym c.hop-hop.ensures.found ∙
    c.in-None.is in
    record {
      leads = walking_edge c.loop-ahead.invariant.walking given.from refl refl (omega (arith, c.loop-ahead-test.true)) none;
      stands = walking_spot c.loop-ahead.invariant.walking 0 (omega arith);
    }

pub returns : goal.returns
returns c =
    record {
      leads = walking_end c.loop-ahead.invariant.walking c.args.from refl refl (omega (arith, c.loop-ahead-test.false));
      stands = walking_spot c.loop-ahead.invariant.walking _ (omega arith);
    }
