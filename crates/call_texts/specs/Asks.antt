-- What the move that a number asks for answers. Cited by `call_texts::asks`; the numbers of each call are in the files beside. Assumes nothing.
use Rattle.std.specs.Prelude.{ℕ, List, [], Option, Some, None}
use Rattle.motions.specs.declared.Move.{Move}
use Rattle.motions.specs.declared.Caret.{Caret}
use Rattle.motions.specs.declared.Moved.{Moved}
use Rattle.motions.specs.declared.Moved.TheVariants.{Refused}
use Rattle.motions.specs.declared.Sought.{Sought}
use Rattle.motions.specs.declared.Sought.TheVariants.{Refused as Sought-as-Refused}
use Rattle.motions.specs.Going.{moved_by, goes}

-- the caret after the move, n its count; 100 where the number stands for none
unfoldable pub move_as : Option Move → ℕ → Caret → List ℕ → List ℕ → List ℕ → ℕ → Moved
move_as (Some m) n k t folds list tabstop = moved_by t folds list tabstop m n k
move_as None n k t folds list tabstop = Refused 100

-- the answer of a search, which takes neither folds nor list nor tabstop
unfoldable pub seek_as : Option Move → Caret → List ℕ → Sought
seek_as (Some m) k t = goes t [] [] 0 m 1 k
seek_as None k t = Sought-as-Refused 100
