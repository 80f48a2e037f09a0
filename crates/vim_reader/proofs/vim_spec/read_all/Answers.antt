-- `vim_spec::read_all` meets its contract. The invariant of its loop: what is read is what was read before i, and then what is read from there on.
-- Assumes nothing.
use Rattle.lists.proofs.Kit.{◌≡◌, ap, sym, length, ◌∙◌, ◌+◌, arith, set, rules}
use Rattle.vim_grammar.specs.declared.VimToken.{VimToken}
use Rattle.vim_reader.specs.Table.{answered}
use Rattle.vim_reader.proofs.RunLaws.{run_start_lem, run_dead, run_on, run_part}
use Rattle.vim_reader.proofs.RunEnds.{run_cut, run_none, run_many, run_last}
use Rattle.vim_reader.proofs.vim_spec.read_all.Goals as goal
use Rattle.vim_reader.proofs.vim_spec.read_all.Goals.{then-p-eq1, else-p-eq1, then-n-lt128, else-n-lt128}

-- no list goes on so
pub returns-then-p-eq0 : goal.returns-then-p-eq0
unfolding answered
returns-then-p-eq0 c =
    c.refused_at.ensures ∙ sym (ap answered
    (run_dead c.loop-i.invariant c.loop-i-test.true _ c.step-next.ensures _
    c.phase-p.ensures c.if-p-eq0.true))

-- a comma, with a place for its token or none; or no comma
pub loop-i-preserved : goal.loop-i-preserved
loop-i-preserved c =
    let so_far = c.loop-i.invariant in
    elim c.if-p-eq1.branch [
      | then-p-eq1 w ↦ rw (w.state-is, w.n-is, w.spec-is) (
          run_part so_far c.loop-i-test.true _ c.step-next.ensures _ c.phase-p.ensures w.if-p-eq1.true _
          (λ few. elim w.if-n-lt128.branch [
            | then-n-lt128 u ↦ u.spec-is ∙ ap (λ (t : VimToken). record { tokens = set c.loop-i.spec.tokens c.loop-i.n t; len = c.loop-i.n + 1 }) u.token_of.ensures
            | else-n-lt128 u ↦ absurd (omega arith)
          ])
          )
      | else-p-eq1 w ↦ rw (w.state-is, w.n-is, w.spec-is) (
          run_on so_far c.loop-i-test.true _ c.step-next.ensures _ c.phase-p.ensures c.if-p-eq0.false w.if-p-eq1.false
          )
    ]

-- the list ends too early
pub returns-then-not-may_end : goal.returns-then-not-may_end
returns-then-not-may_end c =
    let i_is : c.loop-i.i ≡ length c.args.list.now = omega (arith, c.loop-i.invariant.inside) in
    c.refused_at-then-not-may_end.ensures
    ∙ (rw i_is at (run_cut c.loop-i.invariant c.loop-i-test.false (sym c.may_end.ensures ∙ c.if-not-may_end.true)))

pub returns-then-phase-eq2 : goal.returns-then-phase-eq2
returns-then-phase-eq2 c = run_none c.loop-i.invariant c.loop-i-test.false
    (sym c.may_end.ensures ∙ c.if-not-may_end.false) (sym c.phase.ensures ∙ c.if-phase-eq2.true)

pub returns-then-n-ge128 : goal.returns-then-n-ge128
returns-then-n-ge128 c =
    c.refused_at-then-n-ge128.ensures ∙ run_many c.loop-i.invariant c.loop-i-test.false
    (sym c.may_end.ensures ∙ c.if-not-may_end.false)
    (λ z. c.if-phase-eq2.false (c.phase.ensures ∙ z)) c.if-n-ge128.true

-- the last token
pub returns : goal.returns
returns c =
    ap (λ (t : VimToken).
    record {
      refusal = 0;
      place = 0;
      spec = record { tokens = set c.loop-i.spec.tokens c.loop-i.n t; len = c.loop-i.n + 1 };
    }) c.token_of-2.ensures ∙ run_last c.loop-i.invariant c.loop-i-test.false
    (sym c.may_end.ensures ∙ c.if-not-may_end.false)
    (λ z. c.if-phase-eq2.false (c.phase.ensures ∙ z)) (omega arith)

pub loop-i-init : goal.loop-i-init
loop-i-init c = search (rules, run_start_lem)
