-- `Caret::to_char` meets its contract: the search in the caret's row, by its cases. Assumes nothing.
use Rattle.lists.proofs.Kit.{sym, ap, ◌∙◌, List, ℕ, arith, length}
use Rattle.text.specs.Text.{row_at}
use Rattle.row_search.specs.Find.{find_on_row}
use Rattle.motions.specs.declared.Sought.TheVariants.{Found, Missing}
use Rattle.motions.specs.Finds.{lands_on}
use Rattle.motions.proofs.Finding.{found_fits}
use Rattle.motions.proofs.Caret.to_char.Goals as goal

pub find_on_row-requires : goal.find_on_row-requires
find_on_row-requires c =
    omega (arith, ap length c.row-row.ensures, c.requires.here.in_col)

pub placed-requires : goal.placed-requires
placed-requires c =
    let given = c.args in
    record {
      row = omega arith;
      col = found_fits (row_at given.t.now given.self.row) given.self.col given.x given.forward given.till given.skip
          (c.find_on_row.ensures
          ∙ ap (λ (l : List ℕ). find_on_row l given.self.col given.x given.forward given.till given.skip) c.row-row.ensures)
          c.in-Some.is (omega (arith, c.requires.here.in_col)) c.requires.room;
    }

pub returns-in-Some : goal.returns-in-Some
unfolding lands_on
returns-in-Some c =
    let given = c.args in
    ap Found c.placed.ensures ∙ ap (lands_on given.self) (sym c.in-Some.is ∙ c.find_on_row.ensures
    ∙ ap (λ (l : List ℕ). find_on_row l given.self.col given.x given.forward given.till given.skip) c.row-row.ensures)

pub returns-in-None : goal.returns-in-None
unfolding lands_on
returns-in-None c =
    let given = c.args in
    ap Missing c.cleared.ensures ∙ ap (lands_on given.self) (sym c.in-None.is ∙ c.find_on_row.ensures
    ∙ ap (λ (l : List ℕ). find_on_row l given.self.col given.x given.forward given.till given.skip) c.row-row.ensures)
