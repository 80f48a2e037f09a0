-- The motion that a number stands for, in the order of motions.rs. Cited by `call_texts::moves`; number by number in `proofs/Numbers.antt`.
-- Assumes nothing.
use Rattle.std.specs.Prelude.{ℕ, List, [], cond, eqb, Option, Some, None}
use Rattle.motions.specs.declared.Move.{Move}
use Rattle.text_moves.specs.declared.Way.{Way}
use Rattle.text_moves.specs.declared.Way.TheVariants as way
use Rattle.motions.specs.declared.Caret.{Caret}
use Rattle.motions.specs.declared.Move.TheVariants.{By}
use Rattle.motions.specs.declared.Moved.{Moved}
use Rattle.call_bytes.specs.Reply.{Reply}
use Rattle.call_texts.specs.Asks.{move_as}
use Rattle.call_texts.specs.Carets.{moved}

abbrev by : Way → Option Move
by w = Some (By w)

unfoldable pub way_of : ℕ → Option Move
way_of op =
    cond (eqb op 0) (by way.Left)
    (cond (eqb op 1) (by way.RightInLine)
    (cond (eqb op 2) (by way.RightToEnd)
    (cond (eqb op 3) (by way.SpaceFwd)
    (cond (eqb op 4) (by way.BackspaceBack)
    (cond (eqb op 5) (by way.LineStart)
    (cond (eqb op 6) (by way.FirstNonBlank)
    (cond (eqb op 7) (by way.LineEnd)
    (cond (eqb op 8) (by way.GotoColumn)
    (cond (eqb op 9) (by way.LastNonBlank)
    (cond (eqb op 10) (by way.ParagraphPrev)
    (cond (eqb op 11) (by way.ParagraphNext)
    (cond (eqb op 12) (by way.SectionBackward)
    (cond (eqb op 13) (by way.SectionForward)
    (cond (eqb op 14) (by way.SectionEndBackward)
    (cond (eqb op 15) (by way.SectionEndForward)
    (cond (eqb op 16) (by way.NextLine)
    (cond (eqb op 17) (by way.PrevLine)
    (cond (eqb op 18) (by way.ThisLine)
    (cond (eqb op 19) (by way.Top)
    (cond (eqb op 20) (by way.Bottom)
    None))))))))))))))))))))

-- the answer of the motion; 100 where the number stands for none
unfoldable pub motion : ℕ → ℕ → Caret → List ℕ → Moved
motion op n k t = move_as (way_of op) n k t [] [] 0

abbrev pub motions : ℕ → ℕ → Caret → List ℕ → Reply
motions op n k t = moved (motion op n k t)
