use Rattle.lists.proofs.Kit.{sym, ◌∙◌}
use Rattle.visible_rows.proofs.Visible.{toward_within, hop_free, hop_past, hop_none}
use Rattle.visible_rows.proofs.rows.hop.Goals as goal

pub returns-then-free-gt0 : goal.returns-then-free-gt0
returns-then-free-gt0 c = hop_free c.requires.clear _ c.shifted.ensures c.if-free-gt0.true

pub free_rows-requires : goal.free_rows-requires
free_rows-requires c =
    toward_within c.args.folds.now c.args.rows c.args.down c.args.row _ c.requires.walk.row_good.in_rows
    (sym c.visible_row.ensures ∙ c.in-Some.is)

pub returns-in-Some : goal.returns-in-Some
returns-in-Some c = hop_past _ (sym c.visible_row.ensures ∙ c.in-Some.is) c.free_rows.ensures

pub returns-in-None : goal.returns-in-None
returns-in-None c = hop_none (sym c.visible_row.ensures ∙ c.in-None.is)
