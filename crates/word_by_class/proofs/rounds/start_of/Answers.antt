-- `word_by_class::rounds::start_of` meets its contract: behind the end of the row before. Assumes nothing.
use Rattle.lists.proofs.Kit.{ap, sym, ◌∙◌, ℕ, ◌+◌, ◌-◌, arith}
use Rattle.word_class_rows.proofs.Counting.{row_first, end_there, start_next}
use Rattle.word_by_class.proofs.rounds.start_of.Goals as goal

pub returns-then-row-eq0 : goal.returns-then-row-eq0
returns-then-row-eq0 c = rw c.if-row-eq0.true

pub row_end-requires : goal.row_end-requires
row_end-requires c =
    record {
      stands = record { within = omega arith; row_is = sym (row_first c.args.c.now) };
      not_past = omega arith;
      in_row = omega (arith, c.requires);
    }

pub overflow_add-result : goal.overflow_add-result
overflow_add-result c =
    omega (arith, c.row_end.ensures, (end_there c.args.c.now (c.args.row - 1) (omega (arith, c.requires))).0)

pub returns : goal.returns
returns c =
    ap (λ (x : ℕ). x + 1) c.row_end.ensures ∙ start_next c.args.c.now c.args.row (omega (arith, c.if-row-eq0.false))
