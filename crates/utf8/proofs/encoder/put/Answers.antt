-- `encoder::put` meets its contract, by the ranges of RFC 3629's table. Assumes nothing.
use Rattle.lists.proofs.Kit.{arith, length-set}
use Rattle.utf8.proofs.Encodings.{size_one, size_two, size_three, size_four}
use Rattle.utf8.proofs.Puts.{put_one, put_two, put_three, put_four}
use Rattle.utf8.proofs.encoder.put.Goals as goal

-- one byte
pub bounds-bytes-at : goal.bounds-bytes-at
bounds-bytes-at c = omega (arith, size_one c.args.x c.if-x-lt128.true)

pub returns-then-x-lt128 : goal.returns-then-x-lt128
returns-then-x-lt128 c = put_one _ _ _ c.if-x-lt128.true

-- two
pub bounds-bytes-at-then-x-lt2048 : goal.bounds-bytes-at-then-x-lt2048
bounds-bytes-at-then-x-lt2048 c = omega (arith, size_two c.args.x c.if-x-lt128.false c.if-x-lt2048.true)

pub bounds-bytes-at-then-x-lt2048-2 : goal.bounds-bytes-at-then-x-lt2048-2
bounds-bytes-at-then-x-lt2048-2 c = simp length-set (omega (arith, size_two c.args.x c.if-x-lt128.false c.if-x-lt2048.true))

pub returns-then-x-lt2048 : goal.returns-then-x-lt2048
returns-then-x-lt2048 c = put_two _ _ _ c.if-x-lt128.false c.if-x-lt2048.true

-- three
pub bounds-bytes-at-then-x-lt65536 : goal.bounds-bytes-at-then-x-lt65536
bounds-bytes-at-then-x-lt65536 c = omega (arith, size_three c.args.x c.if-x-lt2048.false c.if-x-lt65536.true)

pub bounds-bytes-at-then-x-lt65536-2 : goal.bounds-bytes-at-then-x-lt65536-2
bounds-bytes-at-then-x-lt65536-2 c = simp length-set (omega (arith, size_three c.args.x c.if-x-lt2048.false c.if-x-lt65536.true))

pub bounds-bytes-at-then-x-lt65536-3 : goal.bounds-bytes-at-then-x-lt65536-3
bounds-bytes-at-then-x-lt65536-3 c = simp length-set (omega (arith, size_three c.args.x c.if-x-lt2048.false c.if-x-lt65536.true))

pub returns-then-x-lt65536 : goal.returns-then-x-lt65536
returns-then-x-lt65536 c = put_three _ _ _ c.if-x-lt2048.false c.if-x-lt65536.true

-- four
pub bounds-bytes-at-2 : goal.bounds-bytes-at-2
bounds-bytes-at-2 c = omega (arith, size_four c.args.x c.if-x-lt65536.false)

pub bounds-bytes-at-3 : goal.bounds-bytes-at-3
bounds-bytes-at-3 c = simp length-set (omega (arith, size_four c.args.x c.if-x-lt65536.false))

pub bounds-bytes-at-4 : goal.bounds-bytes-at-4
bounds-bytes-at-4 c = simp length-set (omega (arith, size_four c.args.x c.if-x-lt65536.false))

pub bounds-bytes-at-5 : goal.bounds-bytes-at-5
bounds-bytes-at-5 c = simp length-set (omega (arith, size_four c.args.x c.if-x-lt65536.false))

pub returns : goal.returns
returns c = put_four _ _ _ c.if-x-lt65536.false

pub overflow_cast-bytes-2 : goal.overflow_cast-bytes-2
overflow_cast-bytes-2 c = omega (arith, c.requires.point)
