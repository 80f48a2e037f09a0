-- A row and a tabstop that are not refused are ready for the walks. Assumes nothing.
use Rattle.lists.proofs.Kit.{◌≡◌, List, ℕ}
use Rattle.chars.specs.declared.Measure.{Measure}
use Rattle.row_tabs.specs.Cells.{stop_of}
use Rattle.row_tabs.proofs.Accepted.{stop_near}
use Rattle.row_columns.specs.Ready.{Lent, Ready}

pub ready : {m : Measure} {row : List ℕ} {tabstop tab : ℕ} → Lent m row tabstop → tab ≡ stop_of tabstop → Ready m row tab
ready {tabstop = tabstop} lent e =
    record { tables = record { widths = lent.widths; stop = stop_near tabstop lent.fits.near e }; brief = lent.fits.brief }
