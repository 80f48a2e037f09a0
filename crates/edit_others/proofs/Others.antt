-- Every caret that stands in the text of an accepted edit can be corrected by its change, and goes where its offset goes. Assumes nothing.
use Rattle.lists.proofs.Kit.{◌≡◌, refl, ap, sym, ◌∙◌, List, ℕ, ◌≤◌, arith, length, take, length-take-le}
use Rattle.text.specs.declared.Position.{Position}
use Rattle.positions.specs.Positions.{position_refusal}
use Rattle.positions.proofs.Checks.{inside_at}
use Rattle.motions.specs.declared.Caret.{Caret}
use Rattle.motions.specs.declared.Moved.TheVariants.{To}
use Rattle.motions.specs.Carets.{here}
use Rattle.edit_positions.specs.Change.{end_of}
use Rattle.edit_checks.specs.declared.Sizes.{Sizes}
use Rattle.edit_checks.specs.Checks.{check_of}
use Rattle.edit_checks.proofs.Spots.{inside_stays}
use Rattle.edit_carets.proofs.Follows.{corrected_after}
use Rattle.edits.specs.Edits.{refusal_of}
use Rattle.edits.proofs.Making.{near, fits_caret}
use Rattle.edits.proofs.Known.{editable}
use Rattle.edit_others.specs.Others.{Follows}
use Rattle.edit_others.proofs.Near.{follows}

-- k is the caret that the edit was made with, and o any other
pub others_follow : (buf folds : List ℕ) (s : Sizes) (p q : Position) (c : List ℕ) (k o : Caret) → refusal_of buf folds s p q c k ≡ 0 →
    position_refusal (take s.len buf) (here o) ≡ 0 → Follows buf s p q c o
others_follow buf folds s p q c k o none inside =
    let front = take s.len buf in
    let by_editable = editable buf folds s p q c k none (check_of buf folds s p q c (here k)) refl in
    let short : length front ≤ 1048576 = omega (arith, length-take-le s.len buf by_editable.fits, by_editable.brief) in
    let stands = inside_stays front (here o) (inside_at front (here o) inside) in
    let fits = fits_caret front c p q o by_editable.first (near front (here o) stands short) by_editable.first_near by_editable.points_brief in
    record {
      fits = fits;
      goes = sym (follows o (record { from = p; to = q; end = end_of p c }) fits)
          ∙ ap To (corrected_after front c p q o by_editable.first by_editable.second by_editable.order stands);
    }
