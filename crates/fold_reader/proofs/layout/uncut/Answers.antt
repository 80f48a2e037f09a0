-- `layout::uncut` meets its contract: its tests are those of the definition. Assumes nothing.
use mathlib.Core.Path.{refl}
use Rattle.fold_blocks.specs.Layout.{is_uncut}
use Rattle.fold_reader.proofs.layout.uncut.Goals as goal

pub returns : goal.returns
unfolding is_uncut
returns c = refl
