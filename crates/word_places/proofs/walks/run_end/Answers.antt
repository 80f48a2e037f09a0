-- `word_places::walks::run_end` meets its contract. The invariant of its loop: the walk stands at `cur`, with turns enough for the places ahead.
-- The measure is the length of the slice less the place. Assumes nothing.
use Rattle.lists.proofs.Kit.{refl, ap, sym, ◌-◌, arith, eq-eqb, ne_eqb, lt-ltb, le-ltb}
use Rattle.word_places.specs.Walks.{place}
use Rattle.word_places.proofs.Walking.{walking_start, walking_on, walking_off}
use Rattle.word_places.proofs.walks.run_end.Goals as goal

pub loop-cur-init : goal.loop-cur-init
loop-cur-init c = walking_start _ _ _ _ _ (omega arith)

-- the next place has another kind
pub returns-then-kind-k : goal.returns-then-kind-k
returns-then-kind-k c =
    sym (ap place (walking_off c.loop-cur.invariant (rw (
      ← c.kind.ensures,
      ← c.kind-k.ensures,
      ← c.text_end-end.ensures,
      lt-ltb _ _ c.loop-cur-test.true,
      ne_eqb _ _ c.if-kind-k.true,
    ))))

pub loop-cur-smaller : goal.loop-cur-smaller
loop-cur-smaller c =
    omega (arith, c.loop-cur-test.true, c.text_end-end.ensures)

pub loop-cur-preserved : goal.loop-cur-preserved
loop-cur-preserved c =
    walking_on c.loop-cur.invariant _ _ (rw (
      ← c.kind.ensures,
      ← c.kind-k.ensures,
      ← c.text_end-end.ensures,
      lt-ltb _ _ c.loop-cur-test.true,
      eq-eqb _ _ c.if-kind-k.false,
    ))
    refl (omega (arith, c.loop-cur-test.true, c.text_end-end.ensures))

-- the text's end
pub returns : goal.returns
returns c =
    sym (ap place (walking_off c.loop-cur.invariant (rw (← c.text_end-end.ensures, le-ltb _ _ c.loop-cur-test.false))))
