-- `caret_by_class::by_class::word_by_class` meets its contract: each refusal in its turn, and else the motion by the classes. Assumes nothing.
use Rattle.lists.proofs.Kit.{refl, ap, sym, ◌∙◌, List, ℕ, take}
use Rattle.list_tokens.specs.declared.Token.{Token}
use Rattle.list_tokens.specs.Tokens.{any_token, in_list}
use Rattle.keywords.specs.declared.Parsed.{Parsed}
use Rattle.keywords.proofs.Agree.{parse_kept, parse_length}
use Rattle.word_classes.specs.Classes.{classes_of, holding}
use Rattle.word_classes.proofs.Refusing.{places_there, slice_kept, slice_written}
use Rattle.motions.specs.WordMoves.{folds_of, word_caret}
use Rattle.motions.proofs.Fitting.{part_count}
use Rattle.caret_by_class.proofs.Refusing.{by_three, by_list, by_places, answer_refused, answer_given, entered_three, three_none}
use Rattle.caret_by_class.proofs.by_class.word_by_class.Goals as goal

pub slice_bounds-own-end : goal.slice_bounds-own-end
slice_bounds-own-end c =
    part_count c.args.folds.now c.taken-n.ensures.inside

-- text, caret or folds
pub returns-then-f-ne0 : goal.returns-then-f-ne0
returns-then-f-ne0 c =
    let given = c.args in
    let by_entered_three = entered_three given.t.now _ (folds_of given.m given.folds.now) given.k _ c.enter-e.ensures
    c.taken-n.ensures.part c.or_folds-f.ensures in
    let three_told = sym (by_three given.t.now (folds_of given.m given.folds.now) given.list.now given.k
    given.classes.now _ by_entered_three c.if-f-ne0.true) in
    record { answer = answer_refused three_told _ c.if-f-ne0.true; left = slice_kept three_told given.t.now given.list.now given.classes.now c.if-f-ne0.true }

-- the list
pub returns-then-p-ne0 : goal.returns-then-p-ne0
returns-then-p-ne0 c =
    let given = c.args in
    let by_entered_three = entered_three given.t.now _ (folds_of given.m given.folds.now) given.k _ c.enter-e.ensures
    c.taken-n.ensures.part c.or_folds-f.ensures in
    let same_refusal = ap (λ (x : Parsed). x.refusal) c.parse-p.ensures in
    let list_told = same_refusal ∙ sym (by_list given.t.now (folds_of given.m given.folds.now) given.list.now given.k given.classes.now
    (sym by_entered_three ∙ c.if-f-ne0.false) (λ z. c.if-p-ne0.true (same_refusal ∙ z))) in
    record { answer = answer_refused list_told _ c.if-p-ne0.true; left = slice_kept list_told given.t.now given.list.now given.classes.now c.if-p-ne0.true }

-- the places
pub returns-then-g-ne0 : goal.returns-then-g-ne0
returns-then-g-ne0 c =
    let given = c.args in
    let by_entered_three = entered_three given.t.now _ (folds_of given.m given.folds.now) given.k _ c.enter-e.ensures
    c.taken-n.ensures.part c.or_folds-f.ensures in
    let same_refusal = ap (λ (x : Parsed). x.refusal) c.parse-p.ensures in
    let places_refusal_is = c.places_refusal-g.ensures
    ∙ sym (by_places given.t.now (folds_of given.m given.folds.now) given.list.now given.k
    given.classes.now (sym by_entered_three ∙ c.if-f-ne0.false) (sym same_refusal ∙ c.if-p-ne0.false)) in
    record { answer = answer_refused places_refusal_is _ c.if-g-ne0.true; left = slice_kept places_refusal_is given.t.now given.list.now given.classes.now c.if-g-ne0.true }

pub by_classes-requires : goal.by_classes-requires
by_classes-requires c =
    let given = c.args in
    let by_entered_three = entered_three given.t.now _ (take c.taken-n.result given.folds.now) given.k _ c.enter-e.ensures refl
    c.or_folds-f.ensures in
    let by_three_none = three_none given.t.now (take c.taken-n.result given.folds.now) given.k
    (sym by_entered_three ∙ c.if-f-ne0.false) in
    record {
      writable =
          record {
            clear = by_three_none.0;
            short = parse_length given.list.now c.parse-p.result c.parse-p.ensures c.if-p-ne0.false;
            places = places_there given.t.now given.classes.now (sym c.places_refusal-g.ensures ∙ c.if-g-ne0.false);
          };
      inside = by_three_none.1;
      good = by_three_none.2;
    }

pub returns : goal.returns
returns c =
    let given = c.args in
    let by_entered_three = entered_three given.t.now _ (folds_of given.m given.folds.now) given.k _ c.enter-e.ensures
    c.taken-n.ensures.part c.or_folds-f.ensures in
    let same_refusal = ap (λ (x : Parsed). x.refusal) c.parse-p.ensures in
    let places_refusal_is = c.places_refusal-g.ensures
    ∙ sym (by_places given.t.now (folds_of given.m given.folds.now) given.list.now given.k
    given.classes.now (sym by_entered_three ∙ c.if-f-ne0.false) (sym same_refusal ∙ c.if-p-ne0.false)) in
    let kept_is = parse_kept given.list.now c.parse-p.result c.parse-p.ensures c.if-p-ne0.false in
    let by_classes_is = c.by_classes.ensures.answer
    ∙ ap (λ (ts : List Token). word_caret given.t.now (take c.taken-n.result given.folds.now) (any_token ts)
    given.big given.m given.stop given.count given.k) kept_is
    ∙ ap (λ (own : List ℕ). word_caret given.t.now own (in_list given.list.now) given.big given.m given.stop
    given.count given.k) c.taken-n.ensures.part in
    record {
      answer = answer_given places_refusal_is _ _ c.if-g-ne0.false by_classes_is;
      left = slice_written places_refusal_is given.t.now given.list.now given.classes.now _ c.if-g-ne0.false
          (c.by_classes.ensures.left ∙ ap (λ (ts : List Token). holding (classes_of (any_token ts) given.t.now) given.classes.now) kept_is);
    }
