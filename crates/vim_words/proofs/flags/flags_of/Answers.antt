-- `vim_words::flags::flags_of` meets its contract. The invariant of its loop: the tokens before i have been told. Assumes nothing.
use Rattle.lists.proofs.Kit.{◌≡◌, refl, subst, ◌<◌, arith, length, length-take-le, take, get_or-take, rules}
use Rattle.list_tokens.proofs.Lists.{places}
use Rattle.vim_grammar.specs.declared.VimToken.{VimToken}
use Rattle.vim_grammar.specs.Tokens.{no_token}
use Rattle.vim_words.specs.Flags.{Told}
use Rattle.vim_words.proofs.Telling.{spoken_start, spoken_next, spoken_end}
use Rattle.vim_words.proofs.flags.flags_of.Goals as goal

pub loop-t-init : goal.loop-t-init
loop-t-init c = record { up_to = omega arith; size = refl; so_far = spoken_start (take c.args.spec.len c.args.spec.tokens) }

pub tell-requires : goal.tell-requires
tell-requires c = c.loop-t.invariant.size

pub loop-t-preserved : goal.loop-t-preserved
loop-t-preserved c =
    let spec = c.args.spec in
    let in_loop = c.loop-t in
    let told = c.tell.ensures in
    let size_is : length spec.tokens ≡ 128 = search (rules, places) in
    let taken : length (take spec.len spec.tokens) ≡ spec.len = length-take-le spec.len spec.tokens (omega arith) in
    let there : in_loop.t-index < spec.len = omega arith in
    record {
      up_to = omega arith;
      size = told.size;
      so_far = spoken_next spec.tokens spec.len in_loop.t-index (omega arith) there in_loop.flags c.tell.new.flags in_loop.invariant.so_far
          (subst (λ (v : VimToken). Told v in_loop.flags c.tell.new.flags) (get_or-take spec.len spec.tokens in_loop.t-index no_token there) told);
    }

pub returns : goal.returns
returns c =
    let spec = c.args.spec in
    let in_loop = c.loop-t in
    let size_is : length spec.tokens ≡ 128 = search (rules, places) in
    let taken : length (take spec.len spec.tokens) ≡ spec.len = length-take-le spec.len spec.tokens (omega arith) in
    spoken_end spec.tokens spec.len in_loop.t-index (omega arith) (omega (arith, c.loop-t-test.false)) in_loop.flags in_loop.invariant.so_far
