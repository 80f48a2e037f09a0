-- `narrow` meets its contract. The invariant of its loop: the numbers before i are bytes, and stand in the places.
-- Assumes nothing.
use Rattle.lists.proofs.Kit.{◌≡◌, ap, sym, ◌∙◌, false, not, arith, length, get_or, take_all, lt-ltb, le-ltb}
use Rattle.lists.proofs.Any.{any_on, any_end, any_there}
use Rattle.replay_codings.specs.Codings.{is_wide}
use Rattle.replay_codings.proofs.Coded.{take_on, no_true}
use Rattle.replay_codings.proofs.narrow.Goals as goal

-- a number that is no byte
pub returns-then-x-gt255 : goal.returns-then-x-gt255
returns-then-x-gt255 c =
    let numbers_now = c.args.numbers.now in
    let index = c.loop-i.i in
    let wide = any_there is_wide numbers_now index c.loop-i-test.true (lt-ltb 255 (get_or numbers_now index 0) c.if-x-gt255.true) in
    record { told = sym (ap not wide); front = λ e. no_true e; same = omega arith }

pub loop-i-preserved : goal.loop-i-preserved
loop-i-preserved c =
    let numbers_now = c.args.numbers.now in
    let index = c.loop-i.i in
    let tested = c.loop-i-test.true in
    record {
      rest = rw (le-ltb 255 (get_or numbers_now index 0) c.if-x-gt255.false) at (any_on is_wide numbers_now index false tested c.loop-i.invariant.rest);
      front = take_on numbers_now c.loop-i.bytes index tested (omega arith) c.loop-i.invariant.front;
    }

pub returns : goal.returns
returns c =
    let numbers_now = c.args.numbers.now in
    let at_loop = c.loop-i in
    let all : at_loop.i ≡ length numbers_now = omega arith in
    record {
      told = sym (ap not (any_end is_wide numbers_now at_loop.i false c.loop-i-test.false at_loop.invariant.rest));
      front = λ e. (rw all at at_loop.invariant.front) ∙ take_all (length numbers_now) numbers_now (omega arith);
      same = omega arith;
    }
