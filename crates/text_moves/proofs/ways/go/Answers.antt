-- `moves::go` meets its contract, move by move. Long by its moves: an answer for each. Assumes nothing.
use Rattle.lists.proofs.Kit.{◌≡◌, ap, sym, ◌∙◌, List, ℕ, arith}
use Rattle.text.specs.declared.Position.{Position}
use Rattle.positions.specs.Positions.{in_row}
use Rattle.text_moves.specs.declared.Way.{Way}
use Rattle.text_moves.specs.Ways.{gone}
use Rattle.text_moves.proofs.ways.go.Goals as goal

-- the move that was taken is w
told : (t : List ℕ) {w v : Way} (n : ℕ) (p q : Position) → w ≡ v → q ≡ gone t v n p → q ≡ gone t w n p
told t {w} {v} n p q e h = h ∙ ap (λ (x : Way). gone t x n p) (sym e)

pub returns-in-Left : goal.returns-in-Left
returns-in-Left c =
    let given = c.args in
    told given.t.now given.count given.p _ c.in-Left.is (c.in_row.ensures ∙ ap (in_row given.p) (omega arith))

pub returns-in-RightInLine : goal.returns-in-RightInLine
returns-in-RightInLine c =
    let given = c.args in
    told given.t.now given.count given.p _ c.in-RightInLine.is
    (c.in_row-in-RightInLine.ensures ∙ ap (in_row given.p) (omega arith))

pub returns-in-RightToEnd : goal.returns-in-RightToEnd
returns-in-RightToEnd c =
    let given = c.args in
    told given.t.now given.count given.p _ c.in-RightToEnd.is
    (c.in_row-in-RightToEnd.ensures ∙ ap (in_row given.p) (omega arith))

pub returns-in-SpaceFwd : goal.returns-in-SpaceFwd
returns-in-SpaceFwd c =
    let given = c.args in
    told given.t.now given.count given.p _ c.in-SpaceFwd.is c.space_fwd.ensures

pub returns-in-BackspaceBack : goal.returns-in-BackspaceBack
returns-in-BackspaceBack c =
    let given = c.args in
    told given.t.now given.count given.p _ c.in-BackspaceBack.is c.backspace_back.ensures

pub returns-in-LineStart : goal.returns-in-LineStart
returns-in-LineStart c =
    let given = c.args in
    told given.t.now given.count given.p _ c.in-LineStart.is c.in_row-in-LineStart.ensures

pub returns-in-FirstNonBlank : goal.returns-in-FirstNonBlank
returns-in-FirstNonBlank c =
    let given = c.args in
    told given.t.now given.count given.p _ c.in-FirstNonBlank.is
    (c.in_row-in-FirstNonBlank.ensures ∙ ap (in_row given.p) c.first_non_blank.ensures.column)

pub returns-in-LineEnd : goal.returns-in-LineEnd
returns-in-LineEnd c =
    let given = c.args in
    told given.t.now given.count given.p _ c.in-LineEnd.is
    (c.in_row-in-LineEnd.ensures ∙ ap (in_row given.p) (omega arith))

pub returns-in-GotoColumn : goal.returns-in-GotoColumn
returns-in-GotoColumn c =
    let given = c.args in
    told given.t.now given.count given.p _ c.in-GotoColumn.is
    (c.in_row-in-GotoColumn.ensures ∙ ap (in_row given.p) (omega arith))

pub returns-in-LastNonBlank : goal.returns-in-LastNonBlank
returns-in-LastNonBlank c =
    let given = c.args in
    told given.t.now given.count given.p _ c.in-LastNonBlank.is
    (c.in_row-in-LastNonBlank.ensures ∙ ap (in_row given.p) c.last_non_blank.ensures.column)

pub returns-in-ParagraphPrev : goal.returns-in-ParagraphPrev
returns-in-ParagraphPrev c =
    let given = c.args in
    told given.t.now given.count given.p _ c.in-ParagraphPrev.is c.paragraph_prev.ensures

pub returns-in-ParagraphNext : goal.returns-in-ParagraphNext
returns-in-ParagraphNext c =
    let given = c.args in
    told given.t.now given.count given.p _ c.in-ParagraphNext.is c.paragraph_next.ensures

pub returns-in-SectionBackward : goal.returns-in-SectionBackward
returns-in-SectionBackward c =
    let given = c.args in
    told given.t.now given.count given.p _ c.in-SectionBackward.is c.section_back.ensures

pub returns-in-SectionForward : goal.returns-in-SectionForward
returns-in-SectionForward c =
    let given = c.args in
    told given.t.now given.count given.p _ c.in-SectionForward.is c.section_on.ensures

pub returns-in-SectionEndBackward : goal.returns-in-SectionEndBackward
returns-in-SectionEndBackward c =
    let given = c.args in
    told given.t.now given.count given.p _ c.in-SectionEndBackward.is c.section_back-in-SectionEndBackward.ensures

pub returns-in-SectionEndForward : goal.returns-in-SectionEndForward
returns-in-SectionEndForward c =
    let given = c.args in
    told given.t.now given.count given.p _ c.in-SectionEndForward.is c.section_on-in-SectionEndForward.ensures

pub returns-in-NextLine : goal.returns-in-NextLine
returns-in-NextLine c =
    let given = c.args in
    told given.t.now given.count given.p _ c.in-NextLine.is c.next_line.ensures

pub returns-in-PrevLine : goal.returns-in-PrevLine
returns-in-PrevLine c =
    let given = c.args in
    told given.t.now given.count given.p _ c.in-PrevLine.is c.prev_line.ensures

pub returns-in-ThisLine : goal.returns-in-ThisLine
returns-in-ThisLine c =
    let given = c.args in
    told given.t.now given.count given.p _ c.in-ThisLine.is c.this_line.ensures

pub returns-in-Top : goal.returns-in-Top
returns-in-Top c =
    let given = c.args in
    told given.t.now given.count given.p _ c.in-Top.is c.top.ensures

pub returns-in-Bottom : goal.returns-in-Bottom
returns-in-Bottom c =
    let given = c.args in
    told given.t.now given.count given.p _ c.in-Bottom.is c.bottom.ensures
