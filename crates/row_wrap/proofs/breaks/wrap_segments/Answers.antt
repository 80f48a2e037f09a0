-- `row_wrap::breaks::wrap_segments` meets its contract: the row's refusal first, then the one segment or those of a broken row. Assumes nothing.
use Rattle.lists.proofs.Kit.{◌≡◌, refl, sym, ap, ◌∙◌, Bool}
use Rattle.chars.specs.White.{is_white}
use Rattle.widths.specs.Widths.{width_as}
use Rattle.row_check.proofs.Answers.{accepted_brief}
use Rattle.row_wrap.proofs.Room.{wrapped_refused, wrapped_is, segments_whole, segments_broken}
use Rattle.row_wrap.specs.Calls.{row_segments}
use Rattle.row_wrap.specs.Modes.{is_word}
use Rattle.row_wrap.specs.declared.Wrap.{Wrap}
use Rattle.row_wrap.specs.declared.Wrap.TheVariants.{None, Char, Word}
use Rattle.row_wrap.specs.contracts.Wrap.{the_type}
use denote.Enum.Bare.{sameb}
use Rattle.row_wrap.proofs.breaks.wrap_segments.Goals as goal

-- `==` with Word
word_is : (m : Wrap) → sameb the_type m Word ≡ is_word m
word_is None = refl
word_is Char = refl
word_is Word = refl

pub returns-then-f-ne0 : goal.returns-then-f-ne0
returns-then-f-ne0 c = wrapped_refused _ _ _ _ c.row_refusal-f.ensures _ c.if-f-ne0.true

pub whole-requires : goal.whole-requires
whole-requires c = accepted_brief _ (sym c.row_refusal-f.ensures ∙ c.if-f-ne0.false)

pub returns-then-is_whole : goal.returns-then-is_whole
returns-then-is_whole c =
    let given = c.args in
    let whole = segments_whole (width_as given.ambiguous) is_white _ _ _ (sym c.is_whole.ensures ∙ c.if-is_whole.true) in
    wrapped_is _ _ _ _ c.row_refusal-f.ensures c.if-f-ne0.false whole c.whole.ensures

pub broken-requires : goal.broken-requires
broken-requires c = accepted_brief _ (sym c.row_refusal-f.ensures ∙ c.if-f-ne0.false)

pub returns : goal.returns
returns c =
    let given = c.args in
    let parts = segments_broken (width_as given.ambiguous) is_white _ _ _ (sym c.is_whole.ensures ∙ c.if-is_whole.false) in
    let same : is_word given.mode ≡ c.eq.result = sym (c.eq.ensures ∙ word_is given.mode) in
    let word = ap (λ (b : Bool). row_segments (width_as given.ambiguous) b given.width given.row.now) same in
    wrapped_is _ _ _ _ c.row_refusal-f.ensures c.if-f-ne0.false
    (parts ∙ word) c.broken.ensures
