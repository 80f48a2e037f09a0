-- The replies of the calls on Vim's own lists; a refusal has its place in the high half. Cited by `call_vim`. Document 02, #108.
-- Definitions only. Assumes nothing.
use Rattle.std.specs.Prelude.{ℕ, List, cond, eqb}
use Rattle.call_bytes.specs.Reply.{bit}
use Rattle.call_signs.specs.declared.Placed.{Placed}
use Rattle.call_signs.specs.declared.Placed.TheVariants.{Value, Refused}
use Rattle.call_signs.specs.Entry.{placed}
use Rattle.vim_reader.specs.declared.VimTested.{VimTested}
use Rattle.vim_reader.specs.declared.VimTested.TheVariants.{Is, Bad, Refused as Tested-as-Refused}
use Rattle.vim_reader.specs.Table.{read_of, tested_of}
use Rattle.vim_writer.specs.declared.VimWritten.{VimWritten}
use Rattle.vim_writer.specs.declared.VimWritten.TheVariants.{Made, Refused as Written-as-Refused}
use Rattle.vim_writer.specs.Written.{written_of, written_in}

-- how many tokens a list has
unfoldable pub vim_count : List ℕ → Placed
vim_count list = cond (eqb (read_of list).refusal 0) (Value (read_of list).spec.len) (Refused (placed (read_of list).refusal (read_of list).place))

-- whether it holds x
unfoldable pub tested_placed : VimTested → Placed
tested_placed (Is b) = Value (bit b)
tested_placed (Bad n) = Refused (placed 17 n)
tested_placed (Tested-as-Refused f) = Refused f

abbrev pub vim_matches : List ℕ → ℕ → Placed
vim_matches list x = tested_placed (tested_of x list)

-- what a number stands for; 100 where it stands for nothing
unfoldable pub vim_by : ℕ → ℕ → List ℕ → Placed
vim_by op x list = cond (eqb op 0) (vim_count list) (cond (eqb op 1) (vim_matches list x) (Refused 100))

-- a list read and written into a room, and what is left there
unfoldable pub written_placed : VimWritten → Placed
written_placed (Made n) = Value n
written_placed (Written-as-Refused f) = Refused f

unfoldable pub vim_writing : List ℕ → List ℕ → Placed
vim_writing list room =
    cond (eqb (read_of list).refusal 0) (written_placed (written_of (read_of list).spec room)) (Refused (placed (read_of list).refusal (read_of list).place))

unfoldable pub vim_left : List ℕ → List ℕ → List ℕ
vim_left list room = cond (eqb (read_of list).refusal 0) (written_in (read_of list).spec room) room
