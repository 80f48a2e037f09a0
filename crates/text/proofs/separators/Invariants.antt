-- `text::separators` meets its contract. The invariant of its loop: n separators are counted, the rest of the part has the others, and
-- `last` is the end of that rest behind its whole stretches. Assumes nothing.
use Rattle.lists.proofs.Kit.{◌≡◌, List, ℕ, ◌+◌, ◌-◌, ◌%◌, ◌≤◌, length, drop}
use Rattle.std.specs.Slice.Iter.{chunks_exact_rest, chunks_exact_size}
use Rattle.text.specs.Text.{row_count}
use Rattle.text.proofs.separators.Given as goal

pub record Counting (part rest last : List ℕ) (n size : ℕ) : Type 0 where
  pub count : row_count part ≡ n + row_count rest
  pub few : n + length rest ≤ length part
  pub size_is : size ≡ 256
  pub last_is : last ≡ drop (length rest - length rest % 256) rest

abbrev pub invariant-loop-stretch : goal.invariant-loop-stretch
invariant-loop-stretch l =
    Counting l.part (chunks_exact_rest l.stretch-iterator) l.last l.n (chunks_exact_size l.stretch-iterator)
