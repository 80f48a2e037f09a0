-- `vim_reader::VimSpec::parse` meets its contract: refusal 7, then what reading the list gives. Assumes nothing.
use Rattle.lists.proofs.Kit.{sym, ◌∙◌, ne_eqb}
use Rattle.vim_reader.proofs.VimSpec.parse.Goals as goal

pub returns-then-refused_list-ne0 : goal.returns-then-refused_list-ne0
returns-then-refused_list-ne0 c = c.refused_at.ensures ∙ rw (← c.refused_list.ensures, ne_eqb _ _ c.if-refused_list-ne0.true)

pub returns : goal.returns
returns c = c.read_all.ensures ∙ rw (sym c.refused_list.ensures ∙ c.if-refused_list-ne0.false)
