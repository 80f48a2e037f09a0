-- `put_zeros` meets its contract: it fills them in. Assumes nothing.
use Rattle.lists.proofs.Kit.{◌≡◌, ◌∙◌, ◌+◌, ◌-◌, arith, drop, length-drop, length-take-le}
use Rattle.fold_writer.proofs.Writes.{wrote_fill}
use Rattle.fold_writer.proofs.put_zeros.Goals as goal

pub returns : goal.returns
returns c =
    let given = c.args in
    let many : given.at + given.n - given.at ≡ given.n = omega arith in
    let part = length-take-le (given.at + given.n - given.at) (drop given.at given.out.now) (omega (arith, many, c.requires, length-drop given.at given.out.now)) in
    wrote_fill given.out.now given.at given.n _ _ c.requires many (part ∙ many) (c.fill.ensures.after (λ y h. h))
