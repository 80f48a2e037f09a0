-- `brackets::matching::matching_bracket_pos` meets its contract: the text is refused, the place is outside it, or the answer is that of `partner`.
-- Assumes nothing.
use Rattle.lists.proofs.Kit.{sym, ◌∙◌, ap, ◌<◌, arith}
use Rattle.text.specs.Text.{row_count}
use Rattle.bracket_walks.specs.declared.Partner.TheVariants.{Refused}
use Rattle.brackets.proofs.Call.{call_refused, call_outside, no_row, row_there, no_col, place_starts, place_answer}
use Rattle.brackets.proofs.matching.matching_bracket_pos.Goals as goal

pub returns-then-f-ne0 : goal.returns-then-f-ne0
returns-then-f-ne0 c =
    let text_refusal_told = c.text_refusal-f.ensures in
    let given = c.args in
    ap Refused text_refusal_told ∙ sym (call_refused given.t.now given.row given.col (λ e. omega (arith, c.if-f-ne0.true, text_refusal_told)))

-- the text has no such row
pub returns-then-wanted-rows : goal.returns-then-wanted-rows
returns-then-wanted-rows c =
    let given = c.args in
    let ok = sym c.text_refusal-f.ensures ∙ c.if-f-ne0.false in
    sym (call_outside given.t.now given.row given.col ok
    (no_row given.t.now given.row given.col (omega (arith, c.row_count-rows.ensures, c.if-wanted-rows.true))))

pub row_line-l-requires : goal.row_line-l-requires
row_line-l-requires c = (c.row_count-rows.ensures, omega (arith, c.if-wanted-rows.false))

pub offset_of-f-requires : goal.offset_of-f-requires
offset_of-f-requires c =
    let within : c.args.row < row_count c.args.t.now =
    (omega (arith, c.row_count-rows.ensures, c.if-wanted-rows.false)) in
    let given = c.args in
    row_there given.t.now given.row given.col within c.row_line-l.ensures

pub partner-requires : goal.partner-requires
partner-requires c =
    let within : c.args.row < row_count c.args.t.now =
    (omega (arith, c.row_count-rows.ensures, c.if-wanted-rows.false)) in
    let given = c.args in
    let ok = sym c.text_refusal-f.ensures ∙ c.if-f-ne0.false in
    place_starts given.t.now given.row given.col within c.row_line-l.ensures c.offset_of-f.ensures ok
    c.in-Some.is

pub returns-in-Some : goal.returns-in-Some
returns-in-Some c =
    let within : c.args.row < row_count c.args.t.now =
    (omega (arith, c.row_count-rows.ensures, c.if-wanted-rows.false)) in
    let given = c.args in
    let ok = sym c.text_refusal-f.ensures ∙ c.if-f-ne0.false in
    place_answer given.t.now given.row given.col within c.row_line-l.ensures c.offset_of-f.ensures ok
    c.in-Some.is c.partner.ensures

-- the row has no such column
pub returns-in-None : goal.returns-in-None
returns-in-None c =
    let within : c.args.row < row_count c.args.t.now =
    (omega (arith, c.row_count-rows.ensures, c.if-wanted-rows.false)) in
    let given = c.args in
    let ok = sym c.text_refusal-f.ensures ∙ c.if-f-ne0.false in
    let out = no_col given.t.now given.row given.col within c.row_line-l.ensures c.offset_of-f.ensures
    c.in-None.is in
    sym (call_outside given.t.now given.row given.col ok out)
