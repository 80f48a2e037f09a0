-- `writer::list_size` meets its contract. The invariant of its loop: n is the length of the first i tokens' list. Assumes nothing.
use Rattle.lists.proofs.Kit.{◌≡◌, refl, ap, ◌∙◌, List, arith, length, get_or, take, length-take, take_all}
use Rattle.vim_grammar.specs.declared.VimToken.{VimToken}
use Rattle.vim_grammar.specs.Tokens.{no_token}
use Rattle.vim_writer.specs.Written.{written}
use Rattle.vim_writer.proofs.TokenLaws.{token_most}
use Rattle.vim_writer.proofs.WrittenLaws.{take_most, written_none, written_first, next_length}
use Rattle.vim_writer.proofs.writer.list_size.Goals as goal
use Rattle.vim_writer.proofs.writer.list_size.Goals.{then-i-gt0, else-i-gt0}

pub loop-i-init : goal.loop-i-init
unfolding written
loop-i-init c = record { within = omega arith; size = refl }

pub overflow_add-n : goal.overflow_add-n
overflow_add-n c =
    let given = c.args.spec in
    let at_loop = c.loop-i in
    omega (arith, at_loop.invariant.size, take_most (take given.len given.tokens) at_loop.i (omega arith), length-take given.len given.tokens)

pub overflow_add-n-in-loop-i : goal.overflow_add-n-in-loop-i
overflow_add-n-in-loop-i c =
    let given = c.args.spec in
    let at_loop = c.loop-i in
    let ts = take given.len given.tokens in
    let few = take_most ts at_loop.i (omega arith) in
    let short = length-take given.len given.tokens in
    let most = token_most (get_or ts at_loop.i no_token) in
    elim c.if-i-gt0.branch [
      | then-i-gt0 w ↦ omega (arith, at_loop.invariant.size, few, short, most, c.token_size-n.ensures)
      | else-i-gt0 w ↦ omega (arith, at_loop.invariant.size, few, short, most, c.token_size-n.ensures)
    ]

pub loop-i-preserved : goal.loop-i-preserved
loop-i-preserved c =
    let given = c.args.spec in
    let at_loop = c.loop-i in
    let ts = take given.len given.tokens in
    elim c.if-i-gt0.branch [
      | then-i-gt0 w ↦
          let next = next_length ts at_loop.i c.loop-i-test.true (λ z. omega arith) in
          record { within = omega arith; size = omega (arith, at_loop.invariant.size, next, c.token_size-n.ensures) }
      -- the first token
      | else-i-gt0 w ↦
          let first = written_first ts at_loop.i c.loop-i-test.true (omega arith) in
          let none : length (written (take at_loop.i ts)) ≡ 0 = written_none ts at_loop.i (omega arith) in
          record { within = omega arith; size = omega (arith, at_loop.invariant.size, none, ap length first, c.token_size-n.ensures) }
    ]

pub returns : goal.returns
returns c =
    let given = c.args.spec in
    let at_loop = c.loop-i in
    let whole = take_all at_loop.i (take given.len given.tokens) c.loop-i-test.false in
    at_loop.invariant.size ∙ ap (λ (ts : List VimToken). length (written ts)) whole
