-- Where a paragraph motion was led to, as its callers go by: what the walk answered, for the count that it was given.
-- Assumes nothing.
use Rattle.lists.proofs.Kit.{◌≡◌, ap, sym, ◌∙◌, List, Bool, ℕ, ◌-◌, Option}
use Rattle.text.specs.declared.Line.{Line}
use Rattle.row_walks.specs.Paragraphs.{paragraphs}

pub led : (t : List ℕ) (fwd : Bool) (row : ℕ) {n m : ℕ} {r s : Option Line} → r ≡ s → r ≡ paragraphs t fwd (n - 1) row → n ≡ m → s ≡ paragraphs t fwd (m - 1) row
led t fwd row given found counted = sym given ∙ found ∙ ap (λ (x : ℕ). paragraphs t fwd (x - 1) row) counted
