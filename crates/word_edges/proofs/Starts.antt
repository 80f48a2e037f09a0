-- What a walk requires, at another spot. Assumes nothing.
use Rattle.lists.proofs.Kit.{List, ℕ}
use Rattle.word_kinds.specs.declared.Alphabet.{Alphabet}
use Rattle.word_kinds.specs.declared.Spot.{Spot}
use Rattle.word_kinds.specs.declared.Setting.{Setting}
use Rattle.word_kinds.specs.Spots.{IsSpot}
use Rattle.word_edges.specs.Ready.{Ready}

-- the same, on to another spot
pub ready_at : {t : List ℕ} {k : Alphabet} {p : Spot} → Ready t k p → (q : Spot) → IsSpot t q →
    Ready t k q
ready_at w q i = record { lent = w.lent; rows = w.rows; content = w.content; spot = i }
