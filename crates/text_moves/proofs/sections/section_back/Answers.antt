-- `sections::section_back` meets its contract: column 0 of the row that the walk leads to.
-- Assumes nothing.
use Rattle.lists.proofs.Kit.{ap, ◌∙◌, ℕ, arith}
use Rattle.text.specs.Text.{position}
use Rattle.row_walks.specs.Sections.{section_up}
use Rattle.text_moves.proofs.sections.section_back.Goals as goal

-- a mark is no separator
pub section_up-row-requires : goal.section_up-row-requires
section_up-row-requires c =
    record { line = c.requires.accepted.line; no_separator = λ e. omega arith }

pub returns : goal.returns
returns c =
    let given = c.args in
    ap (λ (r : ℕ). position r 0) (c.section_up-row.ensures.row ∙
    ap (λ (n : ℕ). section_up given.t.now given.x n given.p.row) c.max.ensures)
