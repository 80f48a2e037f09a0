-- `encoder::size` meets its contract, by the ranges of RFC 3629's table. Assumes nothing.
use mathlib.Core.Path.{sym}
use Rattle.utf8.proofs.Encodings.{size_one, size_two, size_three, size_four}
use Rattle.utf8.proofs.encoder.size.Goals as goal

pub returns-then-x-lt128 : goal.returns-then-x-lt128
returns-then-x-lt128 c = sym (size_one _ c.if-x-lt128.true)

pub returns-then-x-lt2048 : goal.returns-then-x-lt2048
returns-then-x-lt2048 c = sym (size_two _ c.if-x-lt128.false c.if-x-lt2048.true)

pub returns-then-x-lt65536 : goal.returns-then-x-lt65536
returns-then-x-lt65536 c = sym (size_three _ c.if-x-lt2048.false c.if-x-lt65536.true)

pub returns : goal.returns
returns c = sym (size_four _ c.if-x-lt65536.false)
