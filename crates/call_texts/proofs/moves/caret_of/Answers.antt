use Rattle.call_texts.proofs.moves.caret_of.Goals as goal

pub returns : goal.returns
returns c = rw (c.at.ensures, c.sticky_of-s.ensures)
