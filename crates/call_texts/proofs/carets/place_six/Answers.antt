-- `carets::place_six` meets its contract, by the cases of the answer. Assumes nothing.
use Rattle.call_texts.specs.Carets.{moved_six}
use Rattle.call_texts.proofs.carets.place_six.Goals as goal

pub returns-in-To : goal.returns-in-To
unfolding moved_six
returns-in-To c =
    let m_is = c.in-To.is in
    record {
      numbered = rw m_is;
      out_left = rw (m_is, c.held_of.ensures, c.column_of.ensures, c.keeps_of.ensures, c.within_of.ensures);
    }

pub returns-in-Refused : goal.returns-in-Refused
unfolding moved_six
returns-in-Refused c = let m2_is = c.in-Refused.is in record { numbered = rw m2_is; out_left = rw m2_is }
