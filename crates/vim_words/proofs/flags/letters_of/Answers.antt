-- `vim_words::flags::letters_of` meets its contract. The invariant of its loop: the tokens before i have said `is` of the letters. Assumes nothing.
use Rattle.lists.proofs.Kit.{◌≡◌, refl, ap, sym, ◌∙◌, ◌+◌, ◌<◌, not, arith, length, length-take-le, take, drop, get_or-take, rules, eqb, eq-eqb, ne_eqb}
use Rattle.list_tokens.proofs.Lists.{places}
use Rattle.vim_grammar.specs.declared.VimToken.{VimToken}
use Rattle.vim_grammar.specs.Tokens.{no_token}
use Rattle.vim_words.specs.Flags.{last_letters}
use Rattle.vim_words.proofs.Telling.{letters_said, letters_on, letters_end}
use Rattle.vim_words.proofs.flags.letters_of.Goals as goal
use Rattle.vim_words.proofs.flags.letters_of.Goals.{then-t-eq1, else-t-eq1}

pub loop-t-init : goal.loop-t-init
loop-t-init c = record { up_to = omega arith; so_far = refl }

-- a token of letters, and another
pub loop-t-preserved : goal.loop-t-preserved
loop-t-preserved c =
    let at_loop = c.loop-t in
    let spec = c.args.spec in
    let size_is : length spec.tokens ≡ 128 = search (rules, places) in
    let taken : length (take spec.len spec.tokens) ≡ spec.len = length-take-le spec.len spec.tokens (omega arith) in
    let there : at_loop.t-index < spec.len = omega arith in
    let read = sym (get_or-take spec.len spec.tokens at_loop.t-index no_token there) in
    elim c.if-t-eq1.branch [
      | then-t-eq1 w ↦ rw w.is-is (record {
        up_to = omega arith;
        so_far = at_loop.invariant.so_far
            ∙ letters_said spec.tokens spec.len at_loop.t-index (omega arith) there at_loop.is
            (ap (λ (v : VimToken). eqb v.kind 1) read ∙ eq-eqb _ _ w.if-t-eq1.true)
            ∙ ap (λ (v : VimToken). last_letters (not v.out) (drop (at_loop.t-index + 1) (take spec.len spec.tokens))) read;
      })
      | else-t-eq1 w ↦ rw w.is-is (record {
        up_to = omega arith;
        so_far = at_loop.invariant.so_far
            ∙ letters_on spec.tokens spec.len at_loop.t-index (omega arith) there at_loop.is
            (ap (λ (v : VimToken). eqb v.kind 1) read ∙ ne_eqb _ _ w.if-t-eq1.false);
      })
    ]

pub returns : goal.returns
returns c =
    let at_loop = c.loop-t in
    let spec = c.args.spec in
    let size_is : length spec.tokens ≡ 128 = search (rules, places) in
    let taken : length (take spec.len spec.tokens) ≡ spec.len = length-take-le spec.len spec.tokens (omega arith) in
    sym (at_loop.invariant.so_far ∙ letters_end spec.tokens spec.len at_loop.t-index (omega arith) (omega (arith, c.loop-t-test.false)) at_loop.is)
