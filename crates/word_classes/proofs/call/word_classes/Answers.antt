-- `word_classes::call::word_classes` meets its contract: each refusal in its turn, and else the classes are written. Assumes nothing.
use Rattle.lists.proofs.Kit.{ap, sym, ◌∙◌, List}
use Rattle.list_tokens.specs.declared.Token.{Token}
use Rattle.list_tokens.specs.Tokens.{any_token}
use Rattle.keywords.specs.declared.Parsed.{Parsed}
use Rattle.keywords.proofs.Agree.{parse_kept, parse_length}
use Rattle.word_classes.specs.Classes.{classes_of, holding}
use Rattle.word_classes.proofs.Refusing.{places_there, slice_kept, slice_written, count_refused, count_made, by_text, by_list, by_places}
use Rattle.word_classes.proofs.call.word_classes.Goals as goal

-- the text
pub returns-then-f-ne0 : goal.returns-then-f-ne0
returns-then-f-ne0 c =
    let given = c.args in
    let text_refusal_told = c.text_refusal-f.ensures in
    let text_told = text_refusal_told ∙ by_text given.t.now given.list.now given.classes.now (λ z. c.if-f-ne0.true (text_refusal_told ∙ z)) in
    record { answer = count_refused text_told _ c.if-f-ne0.true; left = slice_kept text_told given.t.now given.list.now given.classes.now c.if-f-ne0.true }

-- the list
pub returns-then-p-ne0 : goal.returns-then-p-ne0
returns-then-p-ne0 c =
    let given = c.args in
    let same_refusal = ap (λ (x : Parsed). x.refusal) c.parse-p.ensures in
    let text_refusal_is = same_refusal
    ∙ by_list given.t.now given.list.now given.classes.now (sym c.text_refusal-f.ensures ∙ c.if-f-ne0.false)
    (λ z. c.if-p-ne0.true (same_refusal ∙ z)) in
    record { answer = count_refused text_refusal_is _ c.if-p-ne0.true; left = slice_kept text_refusal_is given.t.now given.list.now given.classes.now c.if-p-ne0.true }

-- the places
pub returns-then-g-ne0 : goal.returns-then-g-ne0
returns-then-g-ne0 c =
    let given = c.args in
    let same_refusal = ap (λ (x : Parsed). x.refusal) c.parse-p.ensures in
    let places_refusal_is = c.places_refusal-g.ensures ∙ by_places given.t.now given.list.now given.classes.now
    (sym c.text_refusal-f.ensures ∙ c.if-f-ne0.false) (sym same_refusal ∙ c.if-p-ne0.false) in
    record { answer = count_refused places_refusal_is _ c.if-g-ne0.true; left = slice_kept places_refusal_is given.t.now given.list.now given.classes.now c.if-g-ne0.true }

pub write_classes-requires : goal.write_classes-requires
write_classes-requires c =
    let given = c.args in
    record {
      clear = sym c.text_refusal-f.ensures ∙ c.if-f-ne0.false;
      short = parse_length given.list.now c.parse-p.result c.parse-p.ensures c.if-p-ne0.false;
      places = places_there given.t.now given.classes.now (sym c.places_refusal-g.ensures ∙ c.if-g-ne0.false);
    }

-- nothing is refused
pub returns : goal.returns
returns c =
    let given = c.args in
    let same_refusal = ap (λ (x : Parsed). x.refusal) c.parse-p.ensures in
    let places_refusal_is = c.places_refusal-g.ensures ∙ by_places given.t.now given.list.now given.classes.now
    (sym c.text_refusal-f.ensures ∙ c.if-f-ne0.false) (sym same_refusal ∙ c.if-p-ne0.false) in
    let kept_is = parse_kept given.list.now c.parse-p.result c.parse-p.ensures c.if-p-ne0.false in
    record {
      answer = count_made places_refusal_is _ c.if-g-ne0.false;
      left = slice_written places_refusal_is given.t.now given.list.now given.classes.now _ c.if-g-ne0.false
          (c.write_classes.ensures ∙ ap (λ (ts : List Token). holding (classes_of (any_token ts) given.t.now) given.classes.now) kept_is);
    }
