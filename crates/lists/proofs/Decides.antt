-- Laws of a loop that asks whether some place passes and stops at the first that does: what holds from the place k on decides. A loop gives
-- `rest`, what holds from a place on, and says at each place that it is the test there or else what holds from the next. Assumes nothing.
use Rattle.lists.proofs.Kit.{◌≡◌, sym, ◌∙◌, Bool, true, false, ◌||◌, ℕ, ◌≤◌}

-- of n places none before k passes
pub record Decides (whole : Bool) (rest : ℕ → Bool) (n k : ℕ) : Type 0 where
  pub inside : k ≤ n
  pub same : whole ≡ rest k

module _ {whole : Bool} {rest : ℕ → Bool} {n k : ℕ} (so_far : Decides whole rest n k) where
  module _ (next : ℕ) {b : Bool} (here : rest k ≡ (b || rest next)) where
    pub decides_stop : b ≡ true → true ≡ whole
    decides_stop e = sym (so_far.same ∙ here ∙ rw e)

    pub decides_on : next ≤ n → b ≡ false → Decides whole rest n next
    decides_on h e = record { inside = h; same = so_far.same ∙ here ∙ rw e }

  pub decides_end : rest k ≡ false → false ≡ whole
  decides_end e = sym (so_far.same ∙ e)
