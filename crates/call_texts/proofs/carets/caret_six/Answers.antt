use Rattle.call_texts.proofs.carets.caret_six.Goals as goal

pub returns : goal.returns
returns c = rw (c.with.ensures, c.sticky_of-s.ensures, c.offset_of-o.ensures)
