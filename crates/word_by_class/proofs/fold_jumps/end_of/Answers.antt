-- `word_by_class::fold_jumps::end_of` meets its contract: from a row behind it by the row's first place. Assumes nothing.
use Rattle.lists.proofs.Kit.{arith}
use Rattle.word_class_rows.proofs.Counting.{start_stands}
use Rattle.word_by_class.proofs.fold_jumps.end_of.Goals as goal

pub row_end-requires : goal.row_end-requires
row_end-requires c =
    record {
      stands = start_stands c.args.c.now c.args.row c.row_start-start.result c.row_start-start.ensures c.requires.in_row;
      not_past = omega arith;
      in_row = c.requires.in_row;
    }
