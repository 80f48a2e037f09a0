-- Another caret of a text that was edited, corrected by the change. From document 02, #102. Definitions only; that a caret in the text of an accepted
-- edit goes where its offset goes is `others_follow` of `proofs/Others.antt`. Assumes nothing.
use Rattle.std.specs.Prelude.{ℕ, ◌+◌, ◌≡◌, List, Bool, cond, ◌&&◌, leb, take}
use Rattle.text.specs.declared.Position.{Position}
use Rattle.motions.specs.declared.Caret.{Caret}
use Rattle.motions.specs.declared.Moved.{Moved}
use Rattle.motions.specs.declared.Moved.TheVariants.{To, Refused}
use Rattle.edit_positions.specs.declared.Change.{Change}
use Rattle.edit_positions.specs.Change.{end_of}
use Rattle.edit_checks.specs.declared.Sizes.{Sizes}
use Rattle.edit_carets.specs.Carets.{caret_after, corrected_by, Fits}

-- rows and columns stay numbers of a caret
unfoldable pub is_near : Caret → Change → Bool
is_near k c =
    leb c.from.row 4294967295
    && (leb c.from.col 4294967295 && (leb (c.end.row + k.row) 4294967295 && leb (c.end.col + k.col) 4294967295))

unfoldable pub followed : Caret → Change → Moved
followed k c = cond (is_near k c) (To (corrected_by k c)) (Refused 4)

-- the caret o after the edit that put c in the place of what stood from p up to q: it fits what `correct` requires, and goes where its offset goes
pub record Follows (buf : List ℕ) (s : Sizes) (p q : Position) (c : List ℕ) (o : Caret) : Type 0 where
  pub fits : Fits o (record { from = p; to = q; end = end_of p c })
  pub goes : followed o (record { from = p; to = q; end = end_of p c }) ≡ To (caret_after (take s.len buf) p q c o)
