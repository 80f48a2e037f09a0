use Rattle.vertical.proofs.viewport.viewport_bottom.Goals as goal

pub returns : goal.returns
returns c = rw (← c.bottom_row-bottom.ensures, ← c.saturating_sub.ensures, ← c.max.ensures) c.content_line.ensures
