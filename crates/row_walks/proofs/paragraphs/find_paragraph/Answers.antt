-- `row_walks::paragraphs::find_paragraph` meets its contract. The invariant of its loop: a round from `here` and those still owed lead where all of them do.
-- The measure is the rounds owed. Assumes nothing.
use Rattle.lists.proofs.Kit.{refl, ap, sym, ◌∙◌, ℕ, ◌-◌}
use Rattle.text.proofs.Rows.{rows_pos}
use Rattle.row_walks.specs.Paragraphs.{at_last, go_on, paragraphs}
use Rattle.row_walks.proofs.Walks.{last_round, one_round}
use Rattle.row_walks.proofs.paragraphs.find_paragraph.Goals as goal

pub loop-l-init : goal.loop-l-init
loop-l-init c = record { line = c.requires.round.line; same = refl }

pub paragraph_round-requires : goal.paragraph_round-requires
paragraph_round-requires c =
    let required = c.requires.round in
    record { line = c.loop-l.invariant.line; is_last = required.is_last; brief = required.brief }

-- the round has found its row
pub returns-then-owed-eq0 : goal.returns-then-owed-eq0
returns-then-owed-eq0 c =
    let given = c.args in
    let ended = rw c.in-Found.is at c.paragraph_round.ensures.line in
    record {
      answer = sym (c.loop-l.invariant.same ∙ last_round given.t.now given.forward _ _ c.if-owed-eq0.true ∙
          ap at_last (sym c.paragraph_round.ensures.answer ∙ c.in-Found.is));
      line = ended;
    }

pub loop-l-preserved : goal.loop-l-preserved
loop-l-preserved c =
    let given = c.args in
    record {
      line = rw c.in-Found.is at c.paragraph_round.ensures.line;
      same = c.loop-l.invariant.same ∙ one_round given.t.now given.forward _ _ c.if-owed-eq0.false ∙
          ap (go_on (λ (x : ℕ). paragraphs given.t.now given.forward (c.loop-l.owed - 1) x))
          (sym c.paragraph_round.ensures.answer ∙ c.in-Found.is);
    }

-- the round has run off
pub returns-then-owed-eq0-2 : goal.returns-then-owed-eq0-2
returns-then-owed-eq0-2 c =
    let given = c.args in
    let ended = rw c.in-RanOff.is at c.paragraph_round.ensures.line in
    record {
      answer = sym (c.loop-l.invariant.same ∙ last_round given.t.now given.forward _ _ c.if-owed-eq0-2.true ∙
          ap at_last (sym c.paragraph_round.ensures.answer ∙ c.in-RanOff.is));
      line = ended;
    }

pub returns-in-RanOff : goal.returns-in-RanOff
returns-in-RanOff c =
    let given = c.args in
    record {
      answer = sym (c.loop-l.invariant.same ∙ one_round given.t.now given.forward _ _ c.if-owed-eq0-2.false ∙
          ap (go_on (λ (x : ℕ). paragraphs given.t.now given.forward (c.loop-l.owed - 1) x))
          (sym c.paragraph_round.ensures.answer ∙ c.in-RanOff.is));
      line = rows_pos given.t.now;
    }
