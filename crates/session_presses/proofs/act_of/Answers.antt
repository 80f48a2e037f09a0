-- `act_of` meets its contract, key by key. Assumes nothing.
use Rattle.session_presses.specs.Pressed.{act_of}
use Rattle.session_presses.proofs.act_of.Goals as goal

pub returns-in-Left : goal.returns-in-Left
unfolding act_of
returns-in-Left c = rw c.in-Left.is c.by.ensures

pub returns-in-Right : goal.returns-in-Right
unfolding act_of
returns-in-Right c = rw c.in-Right.is c.by-in-Right.ensures

pub returns-in-Word : goal.returns-in-Word
unfolding act_of
returns-in-Word c = rw c.in-Word.is c.word.ensures

pub returns-in-Back : goal.returns-in-Back
unfolding act_of
returns-in-Back c = rw c.in-Back.is c.word-in-Back.ensures

pub returns-in-End : goal.returns-in-End
unfolding act_of
returns-in-End c = rw c.in-End.is c.word-in-End.ensures

pub returns-in-BigWord : goal.returns-in-BigWord
unfolding act_of
returns-in-BigWord c = rw c.in-BigWord.is c.word-in-BigWord.ensures

pub returns-in-BigBack : goal.returns-in-BigBack
unfolding act_of
returns-in-BigBack c = rw c.in-BigBack.is c.word-in-BigBack.ensures

pub returns-in-BigEnd : goal.returns-in-BigEnd
unfolding act_of
returns-in-BigEnd c = rw c.in-BigEnd.is c.word-in-BigEnd.ensures

pub returns-in-EndBack : goal.returns-in-EndBack
unfolding act_of
returns-in-EndBack c = rw c.in-EndBack.is c.word-in-EndBack.ensures

pub returns-in-BigEndBack : goal.returns-in-BigEndBack
unfolding act_of
returns-in-BigEndBack c = rw c.in-BigEndBack.is c.word-in-BigEndBack.ensures

pub returns-in-LineStart : goal.returns-in-LineStart
unfolding act_of
returns-in-LineStart c = rw c.in-LineStart.is c.by-in-LineStart.ensures

pub returns-in-FirstNonBlank : goal.returns-in-FirstNonBlank
unfolding act_of
returns-in-FirstNonBlank c = rw c.in-FirstNonBlank.is c.by-in-FirstNonBlank.ensures

pub returns-in-LineEnd : goal.returns-in-LineEnd
unfolding act_of
returns-in-LineEnd c = rw c.in-LineEnd.is

pub returns-in-LastNonBlank : goal.returns-in-LastNonBlank
unfolding act_of
returns-in-LastNonBlank c = rw c.in-LastNonBlank.is c.by-in-LastNonBlank.ensures

pub returns-in-ParagraphPrev : goal.returns-in-ParagraphPrev
unfolding act_of
returns-in-ParagraphPrev c = rw c.in-ParagraphPrev.is c.by-in-ParagraphPrev.ensures

pub returns-in-ParagraphNext : goal.returns-in-ParagraphNext
unfolding act_of
returns-in-ParagraphNext c = rw c.in-ParagraphNext.is c.by-in-ParagraphNext.ensures

pub returns-in-SectionBackward : goal.returns-in-SectionBackward
unfolding act_of
returns-in-SectionBackward c = rw c.in-SectionBackward.is c.by-in-SectionBackward.ensures

pub returns-in-SectionForward : goal.returns-in-SectionForward
unfolding act_of
returns-in-SectionForward c = rw c.in-SectionForward.is c.by-in-SectionForward.ensures

pub returns-in-SectionEndBackward : goal.returns-in-SectionEndBackward
unfolding act_of
returns-in-SectionEndBackward c = rw c.in-SectionEndBackward.is c.by-in-SectionEndBackward.ensures

pub returns-in-SectionEndForward : goal.returns-in-SectionEndForward
unfolding act_of
returns-in-SectionEndForward c = rw c.in-SectionEndForward.is c.by-in-SectionEndForward.ensures

pub returns-in-NextLine : goal.returns-in-NextLine
unfolding act_of
returns-in-NextLine c = rw c.in-NextLine.is c.by-in-NextLine.ensures

pub returns-in-PrevLine : goal.returns-in-PrevLine
unfolding act_of
returns-in-PrevLine c = rw c.in-PrevLine.is c.by-in-PrevLine.ensures

pub returns-in-Line : goal.returns-in-Line
unfolding act_of
returns-in-Line c = rw c.in-Line.is c.by-in-Line.ensures

pub returns-in-Top : goal.returns-in-Top
unfolding act_of
returns-in-Top c = rw c.in-Top.is c.by-in-Top.ensures

pub returns-in-Bottom : goal.returns-in-Bottom
unfolding act_of
returns-in-Bottom c = rw c.in-Bottom.is c.by-in-Bottom.ensures

pub returns-in-Column : goal.returns-in-Column
unfolding act_of
returns-in-Column c = rw c.in-Column.is c.by-in-Column.ensures

pub returns-in-Bracket : goal.returns-in-Bracket
unfolding act_of
returns-in-Bracket c = rw c.in-Bracket.is

pub returns-in-Down : goal.returns-in-Down
unfolding act_of
returns-in-Down c = rw c.in-Down.is c.rows.ensures

pub returns-in-Up : goal.returns-in-Up
unfolding act_of
returns-in-Up c = rw c.in-Up.is c.rows-in-Up.ensures

pub returns-in-Unknown : goal.returns-in-Unknown
unfolding act_of
returns-in-Unknown c = rw c.in-Unknown.is
