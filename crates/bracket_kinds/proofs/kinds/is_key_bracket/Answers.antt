-- `bracket_kinds::kinds::is_key_bracket` meets its contract.
-- Assumes nothing.
use mathlib.Core.Path.{refl}
use Rattle.bracket_kinds.specs.Kinds.{key_bracket}
use Rattle.bracket_kinds.proofs.kinds.is_key_bracket.Goals as goal

pub returns : goal.returns
unfolding key_bracket
returns c = refl
