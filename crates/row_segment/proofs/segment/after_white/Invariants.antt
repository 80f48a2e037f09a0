-- `row_segment::segment::after_white` meets its contract. The invariant of its loop: the characters from b on and before n are no white space.
-- Assumes nothing.
use Rattle.lists.proofs.Kit.{◌≡◌, List, ℕ, ◌≤◌}
use Rattle.chars.specs.White.{is_white}
use Rattle.row_segment.specs.Segments.{after_white}
use Rattle.row_segment.proofs.segment.after_white.Given as goal

pub record Passed (row : List ℕ) (n k : ℕ) : Type 0 where
  pub before : k ≤ n
  pub rest : after_white is_white row n ≡ after_white is_white row k

abbrev pub invariant-loop-b : goal.invariant-loop-b
invariant-loop-b l = Passed l.row l.n l.b
