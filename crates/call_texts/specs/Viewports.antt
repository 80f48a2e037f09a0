-- The edges of a viewport by the number that stands for each. Cited by `call_texts::viewports`; number by number in `proofs/Numbers.antt`.
-- Assumes nothing.
use Rattle.std.specs.Prelude.{ℕ, List, [], cond, eqb, Option, Some, None}
use Rattle.motions.specs.declared.Move.{Move}
use Rattle.vertical.specs.declared.Edge.TheVariants.{Top, Middle, Bottom}
use Rattle.motions.specs.declared.Caret.{Caret}
use Rattle.motions.specs.declared.Move.TheVariants.{Viewport}
use Rattle.motions.specs.declared.Moved.{Moved}
use Rattle.call_bytes.specs.Reply.{Reply}
use Rattle.call_texts.specs.Asks.{move_as}
use Rattle.call_texts.specs.Carets.{moved}

unfoldable pub edge_of : ℕ → ℕ → ℕ → ℕ → Option Move
edge_of op top height offset =
    cond (eqb op 0) (Some (Viewport Top top 0 offset))
    (cond (eqb op 1) (Some (Viewport Middle top height 0))
    (cond (eqb op 2) (Some (Viewport Bottom top height offset))
    None))

-- the answer of the motion; 100 where the number stands for none
unfoldable pub viewport : ℕ → ℕ → ℕ → ℕ → Caret → List ℕ → Moved
viewport op top height offset k t = move_as (edge_of op top height offset) 1 k t [] [] 0

abbrev pub viewports : ℕ → ℕ → ℕ → ℕ → Caret → List ℕ → Reply
viewports op top height offset k t = moved (viewport op top height offset k t)
