-- `list::vim_matches` meets its contract: by the cases of the answer. Assumes nothing.
use Rattle.lists.proofs.Kit.{ap, sym, ◌∙◌}
use Rattle.call_signs.specs.declared.Placed.TheVariants.{Value, Refused}
use Rattle.call_bytes.proofs.Replies.{from_bit}
use Rattle.call_vim.specs.Vim.{tested_placed}
use Rattle.call_vim.proofs.Bounds.{tested_place}
use Rattle.call_vim.proofs.list.vim_matches.Goals as goal

pub placed_at-requires : goal.placed_at-requires
placed_at-requires c =
    let given = c.args in
    tested_place given.x given.list.now _ (sym c.is_vim_char.ensures ∙ c.in-Bad.is)

pub returns-in-Is : goal.returns-in-Is
unfolding tested_placed
returns-in-Is c =
    let told = sym c.is_vim_char.ensures ∙ c.in-Is.is in
    ap Value (c.from.ensures ∙ from_bit c.in-Is.b) ∙ sym (ap tested_placed told)

pub returns-in-Bad : goal.returns-in-Bad
unfolding tested_placed
returns-in-Bad c =
    let told = sym c.is_vim_char.ensures ∙ c.in-Bad.is in
    ap Refused c.placed_at.ensures ∙ sym (ap tested_placed told)

pub returns-in-Refused : goal.returns-in-Refused
unfolding tested_placed
returns-in-Refused c = sym (ap tested_placed (sym c.is_vim_char.ensures ∙ c.in-Refused.is))
