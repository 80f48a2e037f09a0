use Rattle.chars.specs.Width.{width_with}
use Rattle.screen_segments.specs.Parts.{lay_of}
use Rattle.screen.proofs.Walking.{leads_place}
use Rattle.screen.proofs.walks.glide.Goals as goal

pub returns : goal.returns
returns c =
    let given = c.args in
    let lay = lay_of (width_with given.by) given.word given.width in
    leads_place given.t.now given.folds.now lay given.down given.offset given.n given.from c.walk-s.result
    c.land.ensures c.walk-s.ensures.leads
