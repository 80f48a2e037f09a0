-- `layout::layout_refusal` meets its contract: each refusal in its order. Assumes nothing.
use Rattle.lists.proofs.Kit.{sym, ◌∙◌}
use Rattle.fold_blocks.specs.Layout.{layout_refusal}
use Rattle.fold_blocks.proofs.Whole.{uncut_false}
use Rattle.fold_reader.proofs.layout.layout_refusal.Goals as goal

-- 18
pub returns-then-uncut : goal.returns-then-uncut
unfolding layout_refusal
returns-then-uncut c = rw (← c.uncut.ensures, c.if-uncut.true)

-- 19
pub returns-then-any_torn : goal.returns-then-any_torn
unfolding layout_refusal
returns-then-any_torn c = rw (← c.uncut.ensures, c.if-uncut.false, ← c.any_torn.ensures, c.if-any_torn.true)

pub broken-requires : goal.broken-requires
broken-requires c =
    (uncut_false c.args.file.now (sym c.uncut.ensures ∙ c.if-uncut.false)).2

-- 20
pub returns-then-broken : goal.returns-then-broken
unfolding layout_refusal
returns-then-broken c = rw (
  ← c.uncut.ensures,
  c.if-uncut.false,
  ← c.any_torn.ensures,
  c.if-any_torn.false,
  ← c.broken.ensures,
  c.if-broken.true,
)

-- none
pub returns : goal.returns
unfolding layout_refusal
returns c = rw (
  ← c.uncut.ensures,
  c.if-uncut.false,
  ← c.any_torn.ensures,
  c.if-any_torn.false,
  ← c.broken.ensures,
  c.if-broken.false,
)
