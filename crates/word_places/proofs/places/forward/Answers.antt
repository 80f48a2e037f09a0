-- `word_places::places::forward` meets its contract, by whether the step goes over a row's end. Assumes nothing.
use Rattle.lists.proofs.Kit.{sym, ◌∙◌, arith}
use Rattle.word_places.proofs.Walking.{forward_none, forward_over, forward_next}
use Rattle.word_places.proofs.places.forward.Goals as goal

pub returns-then-i-end : goal.returns-then-i-end
returns-then-i-end c = sym (forward_none _ _ (omega (arith, c.if-i-end.true, c.text_end-end.ensures)))

pub returns-then-is_end : goal.returns-then-is_end
returns-then-is_end c =
    let here = rw (c.is_end.ensures, c.is_end-2.ensures) at c.if-is_end.true in
    c.before-then-is_end.ensures ∙ rw c.text_end-end.ensures (sym (forward_over _ _ here))

pub returns : goal.returns
returns c =
    let here = rw (c.is_end.ensures, c.is_end-2.ensures) at c.if-is_end.false in
    c.before-2.ensures ∙ rw c.text_end-end.ensures (sym (forward_next _ _ here))
