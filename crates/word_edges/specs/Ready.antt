-- What a walk of this crate requires of what its caller checked. Definitions only. Assumes nothing.
use Rattle.std.specs.Prelude.{ℕ, ◌≡◌, List}
use Rattle.word_kinds.specs.declared.Alphabet.{Alphabet}
use Rattle.text.specs.Text.{row_count, content_rows}
use Rattle.word_kinds.specs.Spots.{IsSpot}
use Rattle.word_kinds.specs.Lent.{Bounds}
use Rattle.word_kinds.specs.declared.Spot.{Spot}
use Rattle.word_kinds.specs.declared.Setting.{Setting}

-- what a walk requires: the bounds and the ranges of the letters lent, the rows counted, and a spot of the text
pub record Ready (t : List ℕ) (k : Alphabet) (p : Spot) : Type 0 where
  pub lent : Bounds t k
  pub rows : k.setting.rows ≡ row_count t
  pub content : k.setting.content ≡ content_rows t
  pub spot : IsSpot t p
