-- The statements about what is written of a list that was read. Their proofs are in `proofs/Again.antt`. Document 02, #108.
-- Definitions only. Assumes nothing.
use Rattle.std.specs.Prelude.{ℕ, ◌≤◌, ◌≡◌, List, length, take}
use Rattle.vim_grammar.specs.Tokens.{in_vim}
use Rattle.vim_reader.specs.Table.{kept, read_of}
use Rattle.vim_writer.specs.declared.VimWritten.TheVariants.{Made}
use Rattle.vim_writer.specs.Written.{written, written_of, written_in}

-- of a list that `parse` accepted
pub record Again (l : List ℕ) : Type 0 where
  -- what is written of its table is accepted, with the same table, and so with the same characters
  pub same : read_of (written (kept (read_of l).spec)) ≡ read_of l
  pub holds : (c : ℕ) → in_vim (kept (read_of (written (kept (read_of l).spec))).spec) c ≡ in_vim (kept (read_of l).spec) c
  -- and is not longer than the list
  pub shorter : length (written (kept (read_of l).spec)) ≤ length l
  -- with room enough it is what stands in the room
  pub written_there :
      (room : List ℕ) (n : ℕ) → written_of (read_of l).spec room ≡ Made n → take n (written_in (read_of l).spec room) ≡ written (kept (read_of l).spec)
