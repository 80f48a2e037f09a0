-- `rows::fill` meets its contract: what stands in the places is x. Assumes nothing.
use Rattle.std.proofs.lemmas.Slice.{put_mid-paste}
use Rattle.lists.proofs.Kit.{◌≡◌, ap, ◌∙◌, ℕ, replicate, length-replicate, arith, rules}
use Rattle.replay_rows.proofs.Reading.{fill_all}
use Rattle.replay_rows.proofs.rows.fill.Goals as goal

pub returns : goal.returns
returns c =
    let given = c.args in
    let filled : c.fill.new.self ≡ replicate given.times given.x =
    c.fill.ensures.after (λ y h. h) ∙ ap (λ (n : ℕ). replicate n given.x) (search rules) in
    fill_all given.room.now given.from given.times given.x c.requires _
    (put_mid-paste _ _ _ _ _ _ filled (omega arith) (omega (arith, length-replicate given.times given.x)))
