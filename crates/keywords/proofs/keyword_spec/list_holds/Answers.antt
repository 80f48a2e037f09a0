-- `keywords::keyword_spec::list_holds` meets its contract. The invariant of its loop: the parts before `from` do not hold c. The measure is how
-- far `from` is from past the list's end. Assumes nothing.
use Rattle.lists.proofs.Kit.{ap, sym, ◌∙◌, List, ℕ, arith, rules}
use Rattle.list_tokens.specs.Tokens.{tokens_in, any_token}
use Rattle.lists.proofs.Decides.{decides_stop, decides_on, decides_end}
use Rattle.lists.proofs.Splits.{split_from_start}
use Rattle.list_tokens.proofs.TokenLaws.{step_next, step_any, parts_none}
use Rattle.keywords.proofs.keyword_spec.list_holds.Goals as goal

pub loop-from-init : goal.loop-from-init
loop-from-init c =
    let given = c.args in
    record { inside = search rules; same = ap (λ (ps : List (List ℕ)). any_token (tokens_in ps) given.c) (sym (split_from_start 44 given.list.now)) }

pub holds-requires : goal.holds-requires
holds-requires c = c.is_letter-letter.ensures

pub returns-then-holds : goal.returns-then-holds
returns-then-holds c =
    let given = c.args in
    let at_loop = c.loop-from in
    decides_stop at_loop.invariant c.read_part-step.result.next
    (step_any given.list.now at_loop.from c.loop-from-test.true c.read_part-step.result c.read_part-step.ensures given.c)
    (sym c.holds.ensures ∙ c.if-holds.true)

pub loop-from-smaller : goal.loop-from-smaller
loop-from-smaller c =
    let given = c.args in
    omega (
      arith,
      step_next given.list.now c.loop-from.from c.loop-from-test.true c.read_part-step.result
          c.read_part-step.ensures,
    )

pub loop-from-preserved : goal.loop-from-preserved
loop-from-preserved c =
    let given = c.args in
    let at_loop = c.loop-from in
    let by_step_next = step_next given.list.now at_loop.from c.loop-from-test.true c.read_part-step.result
    c.read_part-step.ensures in
    decides_on at_loop.invariant c.read_part-step.result.next
    (step_any given.list.now at_loop.from c.loop-from-test.true c.read_part-step.result c.read_part-step.ensures given.c)
    by_step_next.1 (sym c.holds.ensures ∙ c.if-holds.false)

pub returns : goal.returns
returns c = decides_end c.loop-from.invariant (parts_none _ _ c.args.c c.loop-from-test.false)
