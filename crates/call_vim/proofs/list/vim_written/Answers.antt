-- `list::vim_written` meets its contract: a refusal is handed on with its place, else what writing answers. Assumes nothing.
use Rattle.lists.proofs.Kit.{ap, sym, ◌∙◌, arith}
use Rattle.vim_reader.specs.declared.VimRead.{VimRead}
use Rattle.vim_writer.specs.Written.{written_of}
use Rattle.call_vim.specs.Vim.{written_placed}
use Rattle.call_vim.proofs.Bounds.{read_place, written_size, writing_refused, writing_told}
use Rattle.call_vim.proofs.list.vim_written.Goals as goal

pub placed_at-requires : goal.placed_at-requires
placed_at-requires c = rw c.parse-r.ensures (read_place c.args.list.now)

pub returns-then-r-ne0 : goal.returns-then-r-ne0
returns-then-r-ne0 c =
    let told =
    writing_refused c.args.list.now c.args.written.now _ c.parse-r.ensures _ c.placed_at.ensures
    c.if-r-ne0.true in
    record { value = told.0; written_after = told.1 }

pub overflow_cast-result : goal.overflow_cast-result
overflow_cast-result c =
    let list_now = c.args.list.now in
    let room = c.args.written.now in
    let is = c.parse-r.ensures in
    let none = sym (ap (λ (r : VimRead). r.refusal) is) ∙ c.if-r-ne0.false in
    let made = sym (ap (λ (r : VimRead). written_of r.spec room) is) ∙ sym c.write.ensures.value
    ∙ c.in-Made.is in
    omega (arith, written_size list_now room _ none made)

pub returns-in-Made : goal.returns-in-Made
unfolding written_placed
returns-in-Made c =
    let by_writing_told = writing_told c.args.list.now c.args.written.now _ c.parse-r.ensures c.if-r-ne0.false _ _
    (c.write.ensures.value, c.write.ensures.room_after) in
    record { value = sym (ap written_placed c.in-Made.is) ∙ by_writing_told.0; written_after = by_writing_told.1 }

pub returns-in-Refused : goal.returns-in-Refused
unfolding written_placed
returns-in-Refused c =
    let by_writing_told = writing_told c.args.list.now c.args.written.now _ c.parse-r.ensures c.if-r-ne0.false _ _
    (c.write.ensures.value, c.write.ensures.room_after) in
    record { value = sym (ap written_placed c.in-Refused.is) ∙ by_writing_told.0; written_after = by_writing_told.1 }
