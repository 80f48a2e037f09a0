-- A row of an accepted text may be walked. Assumes nothing.
use Rattle.lists.proofs.Kit.{◌≡◌, ap, ◌∙◌, List, ℕ, ◌-◌, ◌≤◌, min, arith, length}
use Rattle.text.specs.Text.{row_count, row_at}
use Rattle.text.proofs.Parts.{row_fits}
use Rattle.text.specs.Offsets.{line_at}
use Rattle.text.specs.declared.Line.{Line}
use Rattle.row_columns.specs.Ready.{Fits}
use Rattle.vertical.specs.Moves.{AcceptedRow}

module _ {t : List ℕ} {row tabstop : ℕ} (a : AcceptedRow t row tabstop) where
  pub row_ready : {line : List ℕ} → line ≡ row_at t row → Fits line tabstop
  row_ready e = record { brief = omega (arith, ap length e, row_fits t row a.in_rows, a.brief); near = a.stop }

  -- the row is found by its number
  pub line_is : {l : Line} → l ≡ line_at t (min row (row_count t - 1)) → l ≡ line_at t row
  line_is e = e ∙ ap (line_at t) (omega (arith, a.in_rows))
