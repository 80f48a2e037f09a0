-- `wrap_segments` by the number of a mode, from what the call for that mode answers and leaves. Assumes nothing.
use Rattle.lists.proofs.Kit.{◌∙◌, ◌≡◌, ap, subst, List, ◌<◌, ◌≤◌, ℕ, le-leb, lt-leb}
use Rattle.widths.specs.declared.Ambiguous.{Ambiguous}
use Rattle.row_wrap.specs.declared.Wrap.{Wrap}
use Rattle.row_wrap.specs.declared.Segments.{Segments}
use Rattle.row_wrap.specs.Calls.{Wraps}
use Rattle.call_bytes.specs.declared.Told.{Told}
use Rattle.call_bytes.specs.declared.Told.TheVariants.{Refused}
use Rattle.call_rows.specs.Wraps.{mode_of, segmented_under, left_under, told_segments, Segmented}

module _ {a : Ambiguous} {mode width : ℕ} {row segments : List ℕ} where
  -- a mode's own call
  pub segmented_by : {m : Segments} {r : Told} {segments' : List ℕ} {by : Wrap} → by ≡ mode_of mode → mode ≤ 2 → Wraps a by width row segments m segments' →
      r ≡ told_segments m → Segmented a mode width row segments r segments'
  unfolding segmented_under left_under
  segmented_by {m} {r} {segments'} e h w q =
      let here = subst (λ (x : Wrap). Wraps a x width row segments m segments') e w in
      record { answers = rw (le-leb mode 2 h) (q ∙ ap told_segments here.answer); leaves = rw (le-leb mode 2 h) here.left }

  -- a number that stands for no mode
  pub segmented_none : 2 < mode → Segmented a mode width row segments (Refused 100) segments
  unfolding segmented_under left_under
  segmented_none h = record { answers = rw (lt-leb mode 2 h); leaves = rw (lt-leb mode 2 h) }
