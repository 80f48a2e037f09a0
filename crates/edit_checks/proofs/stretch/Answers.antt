-- `edit_checks::stretch` meets its contract: the two positions, and then their order. Assumes nothing.
use Rattle.lists.proofs.Kit.{sym, ◌∙◌, ◌+◌, ◌<◌, ◌^◌, arith}
use Rattle.text.proofs.Stands.{first_line}
use Rattle.edit_checks.specs.Refusals.{stretch_refusal}
use Rattle.edit_checks.proofs.Spots.{out_outside, in_inside, in_line, in_fits, checked_refused, stretch_first, stretch_second, stretch_order}
use Rattle.edit_checks.proofs.Spots.{stretch_none}
use Rattle.edit_checks.proofs.stretch.Goals as goal

pub spot_in-requires : goal.spot_in-requires
spot_in-requires c = record { line = first_line _; rows_are = c.requires.rows_are }

-- the first position stands outside
pub returns-in_default : goal.returns-in_default
returns-in_default c =
    let given = c.args in
    let text_now = given.t.now in
    checked_refused text_now given.p given.q (stretch_refusal text_now given.p given.q) 11 _ c.refused.ensures
    (stretch_first text_now given.p given.q (out_outside text_now given.p (sym c.spot_in.ensures ∙ c.in_default.is)))
    (λ z. omega (arith, z))

pub spot_in-requires-2 : goal.spot_in-requires-2
spot_in-requires-2 c =
    record {
      line = in_line c.args.t.now c.args.p c.in-Some.l (sym c.spot_in.ensures ∙ c.in-Some.is);
      rows_are = c.requires.rows_are;
    }

-- the second
pub returns-in_default-spot_in : goal.returns-in_default-spot_in
returns-in_default-spot_in c =
    let given = c.args in
    let text_now = given.t.now in
    let in_p = in_inside text_now given.p c.in-Some.l (sym c.spot_in.ensures ∙ c.in-Some.is) in
    checked_refused text_now given.p given.q (stretch_refusal text_now given.p given.q) 11 _ c.refused-in_default-spot_in.ensures
    (stretch_second text_now given.p given.q in_p.0
    (out_outside text_now given.q (sym c.spot_in-2.ensures ∙ c.in_default-spot_in.is))) (λ z. omega (arith, z))

-- the second before the first
pub returns-then-is_before : goal.returns-then-is_before
returns-then-is_before c =
    let given = c.args in
    let text_now = given.t.now in
    let in_p = in_inside text_now given.p c.in-Some.l (sym c.spot_in.ensures ∙ c.in-Some.is) in
    let in_q = in_inside text_now given.q c.in-Some-spot_in.m (sym c.spot_in-2.ensures ∙ c.in-Some-spot_in.is) in
    checked_refused text_now given.p given.q (stretch_refusal text_now given.p given.q) 11 _ c.refused-then-is_before.ensures
    (stretch_order text_now given.p given.q in_p.0 in_q.0 _ (sym c.is_before.ensures ∙ c.if-is_before.true)) (λ z. omega (arith, z))

pub overflow_add-result : goal.overflow_add-result
overflow_add-result c =
    let given = c.args in
    omega (arith, in_fits given.t.now given.p c.in-Some.l (sym c.spot_in.ensures ∙ c.in-Some.is))

pub overflow_add-result-2 : goal.overflow_add-result-2
overflow_add-result-2 c =
    let given = c.args in
    let by_in_fits = in_fits given.t.now given.q c.in-Some-spot_in.m (sym c.spot_in-2.ensures ∙ c.in-Some-spot_in.is) in
    let sum_below : c.in-Some-spot_in.m.start + given.q.col < 2 ^ 64 = omega (arith, by_in_fits, c.requires.brief) in
    record { fits = sum_below }

pub returns : goal.returns
returns c =
    let given = c.args in
    let text_now = given.t.now in
    let in_p = in_inside text_now given.p c.in-Some.l (sym c.spot_in.ensures ∙ c.in-Some.is) in
    let in_q = in_inside text_now given.q c.in-Some-spot_in.m (sym c.spot_in-2.ensures ∙ c.in-Some-spot_in.is) in
    stretch_none text_now given.p given.q c.in-Some.l c.in-Some-spot_in.m given.rows c.requires.rows_are in_p in_q
    (sym c.is_before.ensures ∙ c.if-is_before.false)
