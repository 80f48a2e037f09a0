-- `text::separators` meets its contract. The invariant of its loop: n separators are counted, the rest of the part has the others, and
-- `last` is the end of that rest behind its whole stretches. Assumes nothing.
use Rattle.lists.proofs.Kit.{◌≡◌, refl, ap, ◌∙◌, List, ℕ, ◌++◌, ◌+◌, ◌-◌, ◌%◌, ◌<◌, arith, length, length-append, drop}
use Rattle.std.proofs.Math.Seq.{drop-append-add}
use Rattle.std.specs.Slice.Iter.{chunks_exact_rest}
use Rattle.text.specs.Text.{row_count}
use Rattle.text.proofs.Parts.{count_both}
use Rattle.text.proofs.separators.Goals as goal

-- what stands behind the whole stretches is the same where one of them goes
last_on : (x rest : List ℕ) → length x ≡ 256 → drop (length (x ++ rest) - length (x ++ rest) % 256) (x ++ rest) ≡ drop (length rest - length rest % 256) rest
last_on x rest e =
    let k : ℕ = length rest - length rest % 256 in
    let long : length (x ++ rest) - length (x ++ rest) % 256 ≡ length x + k = omega (arith, length-append x rest) in
    rw long (drop-append-add x rest k)

-- and all of it where none is left
last_all : (rest : List ℕ) → length rest < 256 → drop (length rest - length rest % 256) rest ≡ rest
last_all rest h = let none : length rest - length rest % 256 ≡ 0 = omega arith in rw none

pub loop-stretch-init : goal.loop-stretch-init
loop-stretch-init c =
    let all = c.chunks_exact-stretches.ensures in
    rw (c.into_iter-stretch-iterator.ensures.into_iter_gives, all.rest, all.size)
    (record { count = omega arith; few = omega arith; size_is = refl; last_is = c.remainder-last.ensures ∙ all.remainder })

pub few-requires : goal.few-requires
few-requires c = omega (arith, c.in-Some.ensures.steps.1.1, c.loop-stretch.invariant.size_is)

pub loop-stretch-preserved : goal.loop-stretch-preserved
loop-stretch-preserved c =
    let so_far = c.loop-stretch.invariant in
    let stretch = c.in-Some.stretch.now in
    let rest = chunks_exact_rest c.next.new.self in
    let step = c.in-Some.ensures.steps in
    record {
      count = omega (arith, so_far.count, ap row_count step.1.0, count_both stretch rest, c.few.ensures.count);
      few = omega (arith, so_far.few, ap length step.1.0, length-append stretch rest, c.few.ensures.inside);
      size_is = step.0 ∙ so_far.size_is;
      last_is = so_far.last_is ∙ ap (λ (l : List ℕ). drop (length l - length l % 256) l) step.1.0 ∙
          last_on stretch rest (step.1.1 ∙ so_far.size_is);
    }

pub few-requires-2 : goal.few-requires-2
few-requires-2 c = omega (arith, ap length c.remainder-last.ensures, c.chunks_exact-stretches.ensures.remainder_len)

pub returns : goal.returns
returns c =
    let so_far = c.loop-stretch.invariant in
    let rest = chunks_exact_rest c.loop-stretch.stretch-iterator in
    let last_is = so_far.last_is ∙ last_all rest (omega (arith, c.in-None.ensures.steps.1.0, so_far.size_is)) in
    record {
      count = omega (arith, so_far.count, ap row_count last_is, c.few-2.ensures.count);
      inside = omega (arith, so_far.few, ap length last_is, c.few-2.ensures.inside);
    }
