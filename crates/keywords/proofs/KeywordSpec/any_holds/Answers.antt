-- `keywords::KeywordSpec::any_holds` meets its contract. The invariant of its loop: the tokens before the index do not hold c. Assumes nothing.
use Rattle.lists.proofs.Kit.{sym, ◌∙◌, ◌+◌, arith}
use Rattle.lists.proofs.Decides.{decides_stop, decides_on, decides_end}
use Rattle.list_tokens.specs.Tokens.{token_holds}
use Rattle.keywords.proofs.TableLaws.{any_here, any_past}
use Rattle.keywords.proofs.KeywordSpec.any_holds.Goals as goal

pub holds-requires : goal.holds-requires
holds-requires c = c.is_letter-letter.ensures

pub returns-then-holds : goal.returns-then-holds
returns-then-holds c =
    let at_loop = c.loop-t in
    decides_stop at_loop.invariant (at_loop.t-index + 1) (any_here (λ t. token_holds t c.args.c) _ at_loop.t-index c.loop-t-test.true)
    (sym c.holds.ensures ∙ c.if-holds.true)

pub loop-t-preserved : goal.loop-t-preserved
loop-t-preserved c =
    let at_loop = c.loop-t in
    decides_on at_loop.invariant (at_loop.t-index + 1) (any_here (λ t. token_holds t c.args.c) _ at_loop.t-index c.loop-t-test.true)
    (omega arith) (sym c.holds.ensures ∙ c.if-holds.false)

pub returns : goal.returns
returns c =
    let at_loop = c.loop-t in
    decides_end at_loop.invariant (any_past (λ t. token_holds t c.args.c) _ at_loop.t-index c.loop-t-test.false)
