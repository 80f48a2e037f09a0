-- Spans that are the same have the same ends. Assumes nothing.
use Rattle.lists.proofs.Kit.{◌≡◌, ap, ℕ, Option, Some, None}

abbrev ends : Option (ℕ × ℕ) → ℕ × ℕ
ends (Some p) = p
ends None = (0, 0)

module _ {a b x y : ℕ} (e : ◌≡◌ {A = Option (ℕ × ℕ)} (Some (a, b)) (Some (x, y))) where
  pub same_first : a ≡ x
  same_first = ap (λ (o : Option (ℕ × ℕ)). (ends o).0) e

  pub same_last : b ≡ y
  same_last = ap (λ (o : Option (ℕ × ℕ)). (ends o).1) e
