-- `content_in` meets its contract: a text of so many code points has rows that fit a u32. Assumes nothing.
use Rattle.lists.proofs.Kit.{sym, arith, take, length-take-le}
use Rattle.text.proofs.Parts.{count_le}
use Rattle.text.proofs.Content.{content_near}
use Rattle.edit_rows.proofs.content_in.Goals as goal

pub slice_bounds-t-end : goal.slice_bounds-t-end
slice_bounds-t-end c = sym (length-take-le _ _ c.requires.fits)

pub overflow_cast-result : goal.overflow_cast-result
overflow_cast-result c =
    let given = c.args in
    let front = take given.len given.text.now in
    omega (arith, c.content_of.ensures, content_near front, count_le front, length-take-le given.len given.text.now c.requires.fits)
