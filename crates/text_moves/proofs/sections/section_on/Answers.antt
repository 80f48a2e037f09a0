-- `sections::section_on` meets its contract: column 0 of the row that the walk leads to.
-- Assumes nothing.
use Rattle.lists.proofs.Kit.{ap, ◌∙◌, ℕ, ◌-◌, arith}
use Rattle.text.specs.Text.{content_rows, position}
use Rattle.positions.proofs.Entered.{accepted_rows}
use Rattle.row_walks.specs.Sections.{section_down}
use Rattle.text_moves.proofs.sections.section_on.Goals as goal

pub overflow_sub-e : goal.overflow_sub-e
overflow_sub-e c = omega (arith, accepted_rows c.requires.accepted)

-- a mark is no separator
pub section_down-row-requires : goal.section_down-row-requires
section_down-row-requires c =
    record {
      section = record { line = c.requires.accepted.line; no_separator = λ e. omega arith };
      is_last = ap (λ (n : ℕ). n - 1) c.requires.accepted.content_rows;
    }

pub returns : goal.returns
returns c =
    let given = c.args in
    ap (λ (r : ℕ). position r 0) (c.section_down-row.ensures.row ∙
    ap (λ (n : ℕ). section_down given.t.now given.x n given.p.row (content_rows given.t.now - 1 - given.p.row)) c.max.ensures)
