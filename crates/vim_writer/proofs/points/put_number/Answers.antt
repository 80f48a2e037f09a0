-- `points::put_number` meets its contract: its digits go into ten places, and from there into the room. Assumes nothing.
use Rattle.lists.proofs.Kit.{arith, rules}
use Rattle.print.proofs.Laws.{length_decimal}
use Rattle.vim_writer.proofs.RoomLaws.{wrote_as, wrote_front}
use Rattle.vim_writer.proofs.points.put_number.Goals as goal

pub put_decimal-k-requires : goal.put_decimal-k-requires
put_decimal-k-requires c = omega (arith, length_decimal c.args.n)

pub put_ascii-requires : goal.put_ascii-requires
put_ascii-requires c =
    let put_decimal_told = c.put_decimal-k.ensures in
    record {
      there = omega (arith, length_decimal c.args.n, put_decimal_told.next, put_decimal_told.size);
      room = omega (arith, put_decimal_told.next);
    }

pub returns : goal.returns
returns c = search (rules, length_decimal, wrote_as, wrote_front)
