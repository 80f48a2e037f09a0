-- `make_rows` meets its contract: the table by the text of before, the edit itself, and the rows with content of the new text. Assumes nothing.
use Rattle.edit_rows.proofs.Tables.{keepable}
use Rattle.edit_rows.proofs.Made.{content_asked, made_rows}
use Rattle.edit_rows.proofs.make_rows.Goals as goal

pub keep_starts-requires : goal.keep_starts-requires
keep_starts-requires c =
    keepable c.requires.editable c.requires.tabled

pub content_in-content-requires : goal.content_in-content-requires
content_in-content-requires c =
    content_asked c.requires.editable c.requires.tabled c.make-left.ensures

pub returns : goal.returns
returns c =
    made_rows c.requires.editable c.requires.tabled c.make-left.ensures c.content_in-content.ensures c.keep_starts.ensures
