-- What a vertical motion goes by once its checks are done, and the caret that it answers with. Assumes nothing.
use Rattle.lists.proofs.Kit.{◌≡◌, ap, List, Bool, ℕ, arith, Option}
use Rattle.widths.specs.declared.Ambiguous.{Ambiguous}
use Rattle.widths.specs.Widths.{width_as}
use Rattle.text.proofs.Parts.{count_le, row_fits}
use Rattle.row_wrap.specs.declared.Wrap.{Wrap}
use Rattle.vertical.specs.Moves
use Rattle.vertical.proofs.Inside.{Inside}
use Rattle.screen.specs.declared.Kept.{Kept}
use Rattle.screen.specs.Keeping.{move_screen_kept}
use Rattle.screen.proofs.Inside.{kept_inside}
use Rattle.positions.specs.declared.Entry.{Entry}
use Rattle.motions.specs.declared.Caret.{Caret}
use Rattle.motions.specs.Ready.{CaretFits, RowsReady}

-- what the walks require of a call that no check refuses
abbrev pub Upright : List ℕ → List ℕ → ℕ → Caret → ℕ → Type 0
Upright t folds tabstop k start = Moves.Accepted t folds (record { row = k.row; start = start }) k.col tabstop

pub upright_ready : {t folds : List ℕ} {tabstop : ℕ} {k : Caret} {e : Entry} → RowsReady t folds tabstop k e → Upright t folds tabstop k e.start
upright_ready r =
    let a = r.accepted in
    record {
      row_good = record { brief = a.brief; in_rows = a.here.in_row; stop = r.takes.stop };
      here = a.here;
      line = a.line;
      folds_good = r.takes.folds_good;
    }

-- the target is in the text, so that its numbers fit a u32
pub target_fits : {t folds : List ℕ} {tabstop start : ℕ} (k : Caret) → Upright t folds tabstop k start →
    (a : Ambiguous) (mode : Wrap) (width : ℕ) (down : Bool) (count : ℕ) (offset : Option ℕ) (p : Kept) →
    p ≡ move_screen_kept (width_as a) t folds tabstop mode width down count k.row k.col k.sticky offset →
    CaretFits p.target.row p.target.col
target_fits {t} {folds} {tabstop} {start} k h a mode width down count offset p e =
    let own : Inside t k.row k.col = record { in_row = h.here.in_row; in_col = omega (arith, h.here.in_col) } in
    let move_screen_kept_lem = (move_screen_kept (width_as a) t folds tabstop mode width down count k.row k.col k.sticky offset).target in
    let by_kept_inside = kept_inside (width_as a) t folds tabstop k.row k.col k.sticky offset mode width down count own in
    let row = ap (λ (x : Kept). x.target.row) e in
    let col = ap (λ (x : Kept). x.target.col) e in
    record {
      row = omega (arith, row, by_kept_inside.in_row, count_le t, h.row_good.brief);
      col = omega (arith, col, by_kept_inside.in_col, row_fits t move_screen_kept_lem.row by_kept_inside.in_row, h.row_good.brief);
    }
