-- `settings::walk_as` meets its contract, by the measure of the setting. Assumes nothing.
use Rattle.lists.proofs.Kit.{◌≡◌, ap, ◌∙◌, ℕ, rules}
use Rattle.chars.specs.Width.{width_with}
use Rattle.screen.specs.Ready.{Moving}
use Rattle.screen.specs.Keeping.{move_screen_kept}
use Rattle.motions.proofs.settings.walk_as.Goals as goal

pub lend-requires : goal.lend-requires
lend-requires c = λ m lends.
    let given = c.args in
    let required = c.requires in
    let is_moving : Moving m given.t.now given.folds.now given.rows given.content given.l given.col given.tabstop =
    record { accepted = record { widths = lends.fit; place = required.place }; counts = required.counts } in
    search rules

pub returns : goal.returns
returns c =
    let given = c.args in
    let told = c.lend.ensures in
    let by_measure : c.lend.result ≡ move_screen_kept (width_with told.0) given.t.now given.folds.now given.tabstop given.mode given.width given.down
    given.count given.l.row given.col given.sticky given.offset = search rules in
    by_measure ∙ ap (λ (w : ℕ → ℕ). move_screen_kept w given.t.now given.folds.now given.tabstop given.mode given.width given.down
    given.count given.l.row given.col given.sticky given.offset) told.1.same
