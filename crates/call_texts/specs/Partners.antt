-- The reply of `matching_bracket_pos`. Cited by `call_texts::pairs`. Assumes nothing.
use Rattle.std.specs.Prelude.{ℕ, ◌<◌, ◌^◌, List, [], ◌∷◌}
use Rattle.text.specs.declared.Position.{Position}
use Rattle.bracket_walks.specs.declared.Partner.{Partner}
use Rattle.bracket_walks.specs.declared.Partner.TheVariants.{There, None, Refused}
use Rattle.brackets.specs.Matching.{matching_bracket_pos}
use Rattle.call_bytes.specs.Reply.{Reply, answer, refused}

-- the number and values of a partner: 1, its row and its column; 0, 0 and 0 where there is none; or a refusal's number
unfoldable pub partnered : Partner → Reply
partnered (There p) = answer (1 ∷ p.row ∷ p.col ∷ [])
partnered None = answer (0 ∷ 0 ∷ 0 ∷ [])
partnered (Refused f) = refused f

-- a position whose numbers fit a u32
pub record Small (p : Position) : Type 0 where
  pub row_small : p.row < 2 ^ 32
  pub col_small : p.col < 2 ^ 32

abbrev pub Fits : Partner → Type 0
Fits (There p) = Small p
Fits None = Unit
Fits (Refused f) = Unit

abbrev pub partner : ℕ → ℕ → List ℕ → Reply
partner row col t = partnered (matching_bracket_pos t row col)
