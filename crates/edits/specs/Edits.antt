-- What an edit answers and leaves: the stretch from p up to q gives way to the code points c. From document 02, #102.
-- Definitions only; the laws are in `proofs/`. Assumes nothing.
use Rattle.std.specs.Prelude.{ℕ, ◌-◌, ◌*◌, ◌/◌, ◌≡◌, List, cond, eqb, length, take}
use Rattle.text.specs.Text.{row_count}
use Rattle.text.specs.declared.Position.{Position}
use Rattle.motions.specs.declared.Caret.{Caret}
use Rattle.motions.specs.Carets.{here}
use Rattle.edit_places.specs.Replaced.{refilled}
use Rattle.edit_folds.specs.Folds.{mapped_row, kept_folds}
use Rattle.edit_positions.specs.After.{text_after}
use Rattle.edit_positions.specs.Change.{end_of}
use Rattle.edit_checks.specs.declared.Sizes.{Sizes}
use Rattle.edit_checks.specs.Refusals.{edit_refusal}
use Rattle.edit_carets.specs.Carets.{caret_after}
use Rattle.edits.specs.declared.Left.{Left}
use Rattle.edits.specs.declared.Edited.{Edited}
use Rattle.edits.specs.declared.Edited.TheVariants.{Done, Refused}

-- the folds then: their rows go up to p's row, or move by the separators of c
abbrev pub folds_after : Position → Position → List ℕ → List ℕ → List ℕ
folds_after p q c folds = kept_folds (mapped_row p.row q.row (row_count c - 1)) folds

-- a text in its buffer, and folds in theirs, after the edit
abbrev pub new_text : List ℕ → Sizes → Position → Position → List ℕ → List ℕ
new_text buf s p q c = text_after (take s.len buf) p q c

abbrev pub new_folds : List ℕ → Sizes → Position → Position → List ℕ → List ℕ
new_folds folds s p q c = folds_after p q c (take (3 * s.count) folds)

-- what an accepted edit leaves
abbrev pub left_of : List ℕ → List ℕ → Sizes → Position → Position → List ℕ → Caret → Left
left_of buf folds s p q c k = record {
  sizes = record { len = length (new_text buf s p q c); count = length (new_folds folds s p q c) / 3 };
  caret = caret_after (take s.len buf) p q c k;
  change = record { from = p; to = q; end = end_of p c };
}

-- by the number that refuses: 0 where nothing does
unfoldable pub edited_by : ℕ → Left → Edited
edited_by f l = cond (eqb f 0) (Done l) (Refused f)

unfoldable pub kept_by : ℕ → List ℕ → List ℕ → List ℕ
kept_by f old new = cond (eqb f 0) new old

abbrev pub refusal_of : List ℕ → List ℕ → Sizes → Position → Position → List ℕ → Caret → ℕ
refusal_of buf folds s p q c k = edit_refusal buf folds s p q c (here k)

-- the answer r, and what buf' and folds' hold then, place by place: on a refusal what they held before
pub record EditsTo (buf fold : List ℕ) (s : Sizes) (p q : Position) (c : List ℕ) (k : Caret) (r : Edited) (buf' folds' : List ℕ) : Type 0 where
  pub answer : r ≡ edited_by (refusal_of buf fold s p q c k) (left_of buf fold s p q c k)
  pub text : buf' ≡ kept_by (refusal_of buf fold s p q c k) buf (refilled buf s.len (new_text buf s p q c))
  pub folds : folds' ≡ kept_by (refusal_of buf fold s p q c k) fold (refilled fold (3 * s.count) (new_folds fold s p q c))
