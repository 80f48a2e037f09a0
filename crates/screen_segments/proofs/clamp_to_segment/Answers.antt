use Rattle.screen_segments.proofs.clamp_to_segment.Goals as goal

pub returns : goal.returns
returns c =
    rw (
      ← c.saturating_sub-line_max.ensures,
      ← c.last_of-seg_max.ensures,
      ← c.min.ensures,
      ← c.min-2.ensures,
      ← c.min-3.ensures,
    ) c.max.ensures
