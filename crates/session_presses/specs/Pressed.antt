-- What a key does: its move, and the sticky column after it. Document 01, "The session", and document 02, #104. Definitions only; the laws are in
-- `proofs/Laws.antt` and `proofs/Numbers.antt`. Long by its keys: a clause for each. Assumes nothing.
use Rattle.std.specs.Prelude.{ℕ, List, [], Bool, true, false, Option, Some, None}
use Rattle.lists.specs.Codes.{codes}
use Rattle.widths.specs.declared.Ambiguous.TheVariants.{Narrow}
use Rattle.word_rounds.specs.declared.Motion.{Motion}
use Rattle.word_rounds.specs.declared.Motion.TheVariants.{Fwd, Back, End, EndBack}
use Rattle.text_moves.specs.declared.Way.{Way}
use Rattle.text_moves.specs.declared.Way.TheVariants as way
use Rattle.motions.specs.declared.Caret.{Caret}
use Rattle.motions.specs.declared.Move.{Move}
use Rattle.motions.specs.declared.Move.TheVariants.{By, Word, Rows, Bracket}
use Rattle.motions.specs.declared.Moved.{Moved}
use Rattle.motions.specs.declared.Moved.TheVariants.{To, Refused}
use Rattle.motions.specs.Carets.{caret_with}
use Rattle.motions.specs.Going.{moved_by}
use Rattle.session_keys.specs.declared.Key.{Key}
use Rattle.session_keys.specs.declared.Key.TheVariants as Key
use Rattle.session_keys.specs.Keys.{key_of}
use Rattle.session_presses.specs.declared.Column.{Column}
use Rattle.session_presses.specs.declared.Column.TheVariants.{Cleared, Kept, Ends}

-- a move on the text alone, and a word motion with stop off
abbrev pub by : Way → Option (Move × Column)
by w = Some (By w, Cleared)

abbrev pub word : Bool → Motion → Option (Move × Column)
word big m = Some (Word m big false, Cleared)

-- what each key does; the sticky column is cleared, but by j and k, which keep it, and by `$`, which sets it past the end of every row
unfoldable pub act_of : Key → Option (Move × Column)
act_of Key.Left = by way.Left
act_of Key.Right = by way.RightInLine
act_of Key.Word = word false Fwd
act_of Key.Back = word false Back
act_of Key.End = word false End
act_of Key.BigWord = word true Fwd
act_of Key.BigBack = word true Back
act_of Key.BigEnd = word true End
act_of Key.EndBack = word false EndBack
act_of Key.BigEndBack = word true EndBack
act_of Key.LineStart = by way.LineStart
act_of Key.FirstNonBlank = by way.FirstNonBlank
act_of Key.LineEnd = Some (By way.LineEnd, Ends)
act_of Key.LastNonBlank = by way.LastNonBlank
act_of Key.ParagraphPrev = by way.ParagraphPrev
act_of Key.ParagraphNext = by way.ParagraphNext
act_of Key.SectionBackward = by way.SectionBackward
act_of Key.SectionForward = by way.SectionForward
act_of Key.SectionEndBackward = by way.SectionEndBackward
act_of Key.SectionEndForward = by way.SectionEndForward
act_of Key.NextLine = by way.NextLine
act_of Key.PrevLine = by way.PrevLine
act_of Key.Line = by way.ThisLine
act_of Key.Top = by way.Top
act_of Key.Bottom = by way.Bottom
act_of Key.Column = by way.GotoColumn
act_of Key.Bracket = Some (Bracket, Cleared)
act_of Key.Down = Some (Rows true Narrow, Kept)
act_of Key.Up = Some (Rows false Narrow, Kept)
act_of Key.Unknown = None

-- what a key does with a text, a count and a caret
abbrev pub Presses : Type 0
Presses = List ℕ → ℕ → Caret → Moved

-- a move with no folds, the list `@,48-57,_` and a tabstop of 8
abbrev pub does : Move → Presses
does m t n k = moved_by t [] (codes "@,48-57,_") 8 m n k

-- past the end of every row
abbrev pub past_ends : ℕ
past_ends = 4294967295

-- the sticky column after a move that left s
abbrev pub sticky_after : Column → Option ℕ → Option ℕ
sticky_after Cleared s = None
sticky_after Kept s = s
sticky_after Ends s = Some past_ends

abbrev pub held : Column → Moved → Moved
held c (To k) = To (caret_with k.row k.col (sticky_after c k.sticky) k.offset)
held c (Refused f) = Refused f

-- 0 stands for a key that is unknown, and for no other (`pressed_unknown` of `proofs/Numbers.antt`)
unfoldable pub acted : Option (Move × Column) → Presses
acted (Some (m, c)) t n k = held c (does m t n k)
acted None t n k = Refused 0

abbrev pub pressed : List ℕ → Presses
pressed name = acted (act_of (key_of name))
