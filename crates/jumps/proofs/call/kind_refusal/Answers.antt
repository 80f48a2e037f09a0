-- `jumps::call::kind_refusal` meets its contract. The invariant of its loop: what is refused of the jumps from i on is what is refused of all.
-- Assumes nothing.
use Rattle.lists.proofs.Kit.{◌≡◌, refl, sym, ◌∙◌, ℕ, ◌+◌, ◌<◌, arith}
use Rattle.jumps.proofs.Pairs.{kinds_none, kinds_odd, kinds_bad, kinds_on}
use Rattle.jumps.proofs.call.kind_refusal.Goals as goal

pub loop-i-init : goal.loop-i-init
loop-i-init c = record { refusal = refl; all = refl }

pub returns-then-i-n : goal.returns-then-i-n
returns-then-i-n c =
    sym (c.loop-i.invariant.refusal ∙ kinds_odd _ c.loop-i.i c.if-i-n.true)

-- two numbers are left
left_two : (i n : ℕ) → i < n → (i + 1 ≡ n → ⊥) → i + 1 < n
left_two i n h ne = omega (arith, ne)

pub returns-then-jumps-i-gt3 : goal.returns-then-jumps-i-gt3
returns-then-jumps-i-gt3 c =
    let by_left_two = left_two _ _ c.loop-i-test.true c.if-i-n.false in
    sym (c.loop-i.invariant.refusal ∙ kinds_bad _ c.loop-i.i by_left_two c.if-jumps-i-gt3.true)

pub loop-i-preserved : goal.loop-i-preserved
loop-i-preserved c =
    let by_left_two = left_two _ _ c.loop-i-test.true c.if-i-n.false in
    record { refusal = c.loop-i.invariant.refusal ∙ kinds_on _ c.loop-i.i by_left_two (omega (arith, c.if-jumps-i-gt3.false)); all = refl }

pub returns : goal.returns
returns c = let at_loop = c.loop-i in sym (at_loop.invariant.refusal ∙ kinds_none _ at_loop.i (omega (arith, c.loop-i-test.false)))

-- behind the last pair
pub returns-else-jumps-i-gt3 : goal.returns-else-jumps-i-gt3
returns-else-jumps-i-gt3 c =
    let at_loop = c.loop-i in
    let by_left_two = left_two _ _ c.loop-i-test.true c.if-i-n.false in
    sym (at_loop.invariant.refusal ∙ kinds_on _ at_loop.i by_left_two (omega (arith, c.if-jumps-i-gt3.false)) ∙ kinds_none _ (at_loop.i + 2) (omega arith))
