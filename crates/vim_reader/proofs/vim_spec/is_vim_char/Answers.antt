-- `vim_reader::is_vim_char` meets its contract: refusal 2, then those of the list, then the answer by its table. Assumes nothing.
use Rattle.lists.proofs.Kit.{ap, ◌∙◌, rules}
use Rattle.vim_reader.specs.declared.VimTested.TheVariants.{Is}
use Rattle.vim_reader.proofs.Answers.{read_few, tested_bad, tested_refused, tested_is, tested_first, tested_list}
use Rattle.vim_reader.proofs.vim_spec.is_vim_char.Goals as goal

pub returns-then-read-eq17 : goal.returns-then-read-eq17
returns-then-read-eq17 c =
    tested_bad _ c.parse-read.result c.if-read-eq17.true
    ∙ tested_list c.args.c c.args.list.now _ c.refused_char-n.ensures
    c.if-n-ne0.false _ c.parse-read.ensures

pub returns-then-read-ne0 : goal.returns-then-read-ne0
returns-then-read-ne0 c =
    tested_refused _ c.parse-read.result c.if-read-eq17.false c.if-read-ne0.true
    ∙ tested_list c.args.c c.args.list.now _ c.refused_char-n.ensures
    c.if-n-ne0.false _ c.parse-read.ensures

pub holds-requires : goal.holds-requires
holds-requires c =
    rw c.parse-read.ensures (read_few c.args.list.now)

pub returns : goal.returns
returns c =
    ap Is c.holds.ensures ∙ tested_is _ c.parse-read.result c.if-read-ne0.false
    ∙ tested_list c.args.c c.args.list.now _ c.refused_char-n.ensures c.if-n-ne0.false _ c.parse-read.ensures

pub returns-then-n-ne0 : goal.returns-then-n-ne0
returns-then-n-ne0 c = search (rules, tested_first)
