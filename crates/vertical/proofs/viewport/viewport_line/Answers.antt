-- `viewport::viewport_line` meets its contract, edge by edge. Assumes nothing.
use Rattle.lists.proofs.Kit.{◌≡◌, ap, sym, ◌∙◌, List, ℕ}
use Rattle.text.specs.Offsets.{line_at}
use Rattle.text.specs.declared.Line.{Line}
use Rattle.vertical.specs.declared.Edge.{Edge}
use Rattle.vertical.specs.Viewport.{viewport_row}
use Rattle.vertical.proofs.viewport.viewport_line.Goals as goal

at_edge : (t : List ℕ) (top height offset : ℕ) (edge e : Edge) (l : Line) → edge ≡ e → l ≡ line_at t (viewport_row e t top height offset) →
    l ≡ line_at t (viewport_row edge t top height offset)
at_edge t top height offset edge e l q s = s ∙ ap (λ (x : Edge). line_at t (viewport_row x t top height offset)) (sym q)

pub returns-in-Top : goal.returns-in-Top
returns-in-Top c =
    let given = c.args in
    at_edge given.t.now given.top given.height given.offset given.edge _ _ c.in-Top.is c.viewport_top.ensures

pub returns-in-Middle : goal.returns-in-Middle
returns-in-Middle c =
    let given = c.args in
    at_edge given.t.now given.top given.height given.offset given.edge _ _ c.in-Middle.is c.viewport_middle.ensures

pub returns-in-Bottom : goal.returns-in-Bottom
returns-in-Bottom c =
    let given = c.args in
    at_edge given.t.now given.top given.height given.offset given.edge _ _ c.in-Bottom.is c.viewport_bottom.ensures
