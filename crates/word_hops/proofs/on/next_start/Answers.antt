-- `word_hops::on::next_start` meets its contract, from a row's end and from a character. Assumes nothing.
use Rattle.lists.proofs.Kit.{ap, sym, ◌∙◌, Some}
use Rattle.word_hops.specs.Hops.{next_start}
use Rattle.word_hops.proofs.on.next_start.Goals as goal

pub returns-in-Some : goal.returns-in-Some
unfolding next_start
returns-in-Some c =
    rw (sym c.is_end.ensures ∙ c.if-is_end.true, sym c.forward.ensures ∙ c.in-Some.is) c.from_end.ensures

pub returns-in-None : goal.returns-in-None
unfolding next_start
returns-in-None c =
    rw (sym c.is_end.ensures ∙ c.if-is_end.true, sym c.forward.ensures ∙ c.in-None.is)

pub returns-in-Some-forward : goal.returns-in-Some-forward
unfolding next_start
returns-in-Some-forward c =
    rw (
      sym c.is_end.ensures ∙ c.if-is_end.false,
      ← c.run_end.ensures,
      sym c.forward-2.ensures ∙ c.in-Some-forward.is,
    ) c.over_space.ensures

pub returns-in-None-forward : goal.returns-in-None-forward
unfolding next_start
returns-in-None-forward c =
    rw (
      sym c.is_end.ensures ∙ c.if-is_end.false,
      ← c.run_end.ensures,
      sym c.forward-2.ensures ∙ c.in-None-forward.is,
    ) (ap Some c.content_end.ensures)
