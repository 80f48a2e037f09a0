-- `words::entry::walk_made` meets its contract: a text with no high code point needs no ranges of the letters. Assumes nothing.
use Rattle.lists.proofs.Kit.{◌≡◌, sym, ◌∙◌, ℕ, arith}
use Rattle.words.proofs.entry.walk_made.Goals as goal

pub walk_with_letters-requires : goal.walk_with_letters-requires
walk_with_letters-requires c = c.requires.bounded

-- no code point is high
pub walk-requires : goal.walk-requires
walk-requires c =
    let bounded = c.requires.bounded in
    let low = c.requires.none_high c.if-high.false in
    record {
      lent = record { room = bounded.room; lent = λ h. let never : ◌≡◌ {A = ℕ} 0 1 = cc (sym h ∙ low) in absurd (omega arith) };
      folded = bounded.folded;
    }
