-- `call::jumps` meets its contract: what is refused, in its order; no jump; or the run, which is the single calls in turn. Assumes nothing.
use Rattle.lists.proofs.Kit.{ap, sym, ◌∙◌, List, false}
use Rattle.list_tokens.specs.declared.Token.{Token}
use Rattle.list_tokens.specs.Tokens.{any_token}
use Rattle.keywords.specs.declared.Parsed.{Parsed}
use Rattle.keywords.proofs.Agree.{parse_kept, parse_length}
use Rattle.word_kinds.specs.Places.{kind_of}
use Rattle.positions.proofs.Checks.{inside, entry_number, entry_clear, entered}
use Rattle.positions.proofs.Entered.{folds_none, folds_number}
use Rattle.motions.specs.Carets.{here}
use Rattle.jumps.proofs.Calling.{refused_early, refused_list, refused_late, run_through, none_caret, none_places, through_caret, through_places}
use Rattle.jumps.proofs.Late.{late_accepted}
use Rattle.jumps.proofs.call.jumps.Goals as goal

pub returns-then-f-ne0 : goal.returns-then-f-ne0
returns-then-f-ne0 c =
    let given = c.args in
    let number = c.or_folds-f.ensures ∙ folds_number given.t.now (here given.k) c.enter-e.result c.enter-e.ensures given.folds.now in
    refused_early given.t.now given.starts.now given.content given.folds.now given.list.now given.k given.jumps.now
    given.answers.now c.if-f-ne0.true number

pub returns-then-p-ne0 : goal.returns-then-p-ne0
returns-then-p-ne0 c =
    let given = c.args in
    let number = c.or_folds-f.ensures ∙ folds_number given.t.now (here given.k) c.enter-e.result c.enter-e.ensures given.folds.now in
    refused_list given.t.now given.starts.now given.content given.folds.now given.list.now given.k given.jumps.now
    given.answers.now c.if-p-ne0.true (sym number ∙ c.if-f-ne0.false) (ap (λ (x : Parsed). x.refusal) c.parse-p.ensures)

pub late_refusal-g-requires : goal.late_refusal-g-requires
late_refusal-g-requires c =
    let given = c.args in
    let none = folds_none c.enter-e.result given.folds.now (sym c.or_folds-f.ensures ∙ c.if-f-ne0.false) in
    (entered given.t.now (here given.k) c.enter-e.result c.enter-e.ensures none.0).all_rows

pub returns-then-g-ne0 : goal.returns-then-g-ne0
returns-then-g-ne0 c =
    let given = c.args in
    let number = c.or_folds-f.ensures ∙ folds_number given.t.now (here given.k) c.enter-e.result c.enter-e.ensures given.folds.now in
    refused_late given.t.now given.starts.now given.content given.folds.now given.list.now given.k given.jumps.now
    given.answers.now
    (sym number ∙ c.if-f-ne0.false) (sym (ap (λ (x : Parsed). x.refusal) c.parse-p.ensures) ∙ c.if-p-ne0.false) c.if-g-ne0.true
    c.late_refusal-g.ensures

-- no jump
pub returns-then-jumps-eq0 : goal.returns-then-jumps-eq0
returns-then-jumps-eq0 c =
    let given = c.args in
    let number = c.or_folds-f.ensures ∙ folds_number given.t.now (here given.k) c.enter-e.result c.enter-e.ensures given.folds.now in
    run_through given.t.now given.starts.now given.content given.folds.now given.list.now given.k given.jumps.now
    given.answers.now (sym number ∙ c.if-f-ne0.false) (sym (ap (λ (x : Parsed). x.refusal) c.parse-p.ensures) ∙ c.if-p-ne0.false)
    (sym c.late_refusal-g.ensures ∙ c.if-g-ne0.false)
    (none_caret given.t.now given.folds.now given.list.now given.jumps.now given.k c.if-jumps-eq0.true)
    (none_places given.t.now given.folds.now given.list.now given.jumps.now given.answers.now given.k c.if-jumps-eq0.true)

pub to_end-requires : goal.to_end-requires
to_end-requires c =
    let given = c.args in
    let enter_result = c.enter-e.result in
    let is = c.enter-e.ensures in
    let none = folds_none enter_result given.folds.now (sym c.or_folds-f.ensures ∙ c.if-f-ne0.false) in
    let clear = entry_clear given.t.now (here given.k) enter_result is none.0 in
    let accepted = entered given.t.now (here given.k) enter_result is none.0 in
    let last = late_accepted given.t.now given.starts.now given.content given.jumps.now given.answers.now clear
    (sym c.late_refusal-g.ensures ∙ c.if-g-ne0.false) in
    record {
      clear = clear;
      tabled = last.0;
      short = parse_length given.list.now c.parse-p.result c.parse-p.ensures c.if-p-ne0.false;
      accepted = accepted;
      good = rw (sym accepted.all_rows) none.1;
      course = last.1;
    }

pub shape_of-answers : goal.shape_of-answers
shape_of-answers c = c.to_end.ensures.left.size

pub returns : goal.returns
returns c =
    let given = c.args in
    let text_now = given.t.now in
    let enter_result = c.enter-e.result in
    let is = c.enter-e.ensures in
    let number = c.or_folds-f.ensures ∙ folds_number text_now (here given.k) enter_result is given.folds.now in
    let none = folds_none enter_result given.folds.now (sym c.or_folds-f.ensures ∙ c.if-f-ne0.false) in
    let clear = entry_clear text_now (here given.k) enter_result is none.0 in
    let good = rw (entered text_now (here given.k) enter_result is none.0).all_rows at none.1 in
    let listed = sym (ap (λ (x : Parsed). x.refusal) c.parse-p.ensures) ∙ c.if-p-ne0.false in
    let placed = inside text_now (here given.k) (sym (entry_number text_now (here given.k) enter_result is) ∙ none.0) in
    let nothing = sym c.late_refusal-g.ensures ∙ c.if-g-ne0.false in
    let course = (late_accepted text_now given.starts.now given.content given.jumps.now given.answers.now clear nothing).1 in
    let same = ap (λ (ts : List Token). kind_of (any_token ts) false)
    (parse_kept given.list.now c.parse-p.result c.parse-p.ensures c.if-p-ne0.false) in
    run_through text_now given.starts.now given.content given.folds.now given.list.now given.k given.jumps.now given.answers.now
    (sym number ∙ c.if-f-ne0.false) listed nothing (through_caret text_now given.folds.now given.list.now given.k given.jumps.now
    given.answers.now clear good listed placed course same c.if-jumps-eq0.false c.to_end.ensures.caret)
    (through_places text_now given.folds.now given.list.now given.k given.jumps.now
    given.answers.now clear good listed placed course same c.to_end.ensures.left)
