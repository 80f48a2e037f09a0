-- The moves whose counts add, document 02's #109 and #110, and the move and the caret of the second call. Cited by `specs/CountsAdd.antt`. Definitions
-- only. Assumes nothing.
use Rattle.std.specs.Prelude.{false, None}
use Rattle.text_moves.specs.declared.Way.{Way}
use Rattle.text_moves.specs.declared.Way.TheVariants as way
use Rattle.motions.specs.declared.Caret.{Caret}
use Rattle.motions.specs.declared.Move.{Move}
use Rattle.motions.specs.declared.Move.TheVariants.{By, Word, Rows, Screen, ScreenKept, Viewport, Bracket, Find}
use Rattle.motions.specs.Carets.{caret_at}

-- the ways that are named; of the others nothing is said
abbrev pub WayAdds : Way → Type 0
WayAdds way.Left = Unit
WayAdds way.RightInLine = Unit
WayAdds way.RightToEnd = Unit
WayAdds way.SpaceFwd = Unit
WayAdds way.BackspaceBack = Unit
WayAdds way.SectionBackward = Unit
WayAdds way.SectionForward = Unit
WayAdds way.SectionEndBackward = Unit
WayAdds way.SectionEndForward = Unit
WayAdds way.NextLine = Unit
WayAdds way.PrevLine = Unit
WayAdds way.ParagraphPrev = ⊥
WayAdds way.ParagraphNext = ⊥
WayAdds way.LineStart = ⊥
WayAdds way.FirstNonBlank = ⊥
WayAdds way.LineEnd = ⊥
WayAdds way.GotoColumn = ⊥
WayAdds way.LastNonBlank = ⊥
WayAdds way.ThisLine = ⊥
WayAdds way.Top = ⊥
WayAdds way.Bottom = ⊥

-- the moves: those ways, the word motions, small and big, up and down, and the screen moves that remember
abbrev pub Adds : Move → Type 0
Adds (By w) = WayAdds w
Adds (Word m big stop) = Unit
Adds (Rows down a) = Unit
Adds (Screen mode width down a) = ⊥
Adds (ScreenKept mode width down a) = Unit
Adds (Viewport edge top height offset) = ⊥
Adds Bracket = ⊥
Adds (Find x forward till skip) = ⊥

-- the move of the second call: `stop` holds in the first one alone
abbrev pub going_on : Move → Move
going_on (By w) = By w
going_on (Word m big stop) = Word m big false
going_on (Rows down a) = Rows down a
going_on (Screen mode width down a) = Screen mode width down a
going_on (ScreenKept mode width down a) = ScreenKept mode width down a
going_on (Viewport edge top height offset) = Viewport edge top height offset
going_on Bracket = Bracket
going_on (Find x forward till skip) = Find x forward till skip

-- the caret of the second call: the one that the first returned, as it is; and without its sticky column and offset, for examples
abbrev pub whole : Caret → Caret
whole k = k

abbrev pub dropped : Caret → Caret
dropped k = caret_at k.row k.col None
