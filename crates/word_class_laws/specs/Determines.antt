-- The one law of the two engines: the classes of a text determine each step of the word motions over it. Document 02, #113.
-- On the left is what the first engine reads of the text at a place (`word_kinds`), on the right what the classes tell. Statements and what they speak of;
-- the proof is `determined` in `proofs/Determined.antt`. Assumes nothing.
use Rattle.std.specs.Prelude.{ℕ, zero, suc, ◌+◌, ◌-◌, ◌≤◌, ◌<◌, ◌≡◌, List, Bool, true, false, eqb, length, Option, Some, None}
use Rattle.text.specs.Text.{row_count, content_rows, position}
use Rattle.text.specs.Offsets
use Rattle.text.specs.declared.Position.{Position}
use Rattle.word_kinds.specs.Places
use Rattle.word_classes.specs.Classes.{classes_of}
use Rattle.word_places.specs.Places.{is_end, is_empty, kind, forward, backward}
use Rattle.word_hops.specs.Hops.{content_end}
use Rattle.word_class_rows.specs.Rows.{row_of, rows_of, content_of}

-- a slice that holds the classes of some text
pub record Classes (c : List ℕ) : Type 0 where
  pub text : List ℕ
  pub word : ℕ → Bool
  pub same : c ≡ classes_of word text

-- the row and the column of a place
abbrev pub pos : List ℕ → ℕ → Position
pos t i = position (Offsets.row_of t i) (i - Offsets.row_start t (Offsets.row_of t i))

-- the kinds by the numbers of the first engine: word 1, mark 2, space 0, row end 3
unfoldable pub named : ℕ → ℕ
named zero = 1
named (suc zero) = 2
named (suc (suc zero)) = 0
named (suc (suc (suc zero))) = 4
named (suc (suc (suc (suc zero)))) = 3
named (suc (suc (suc (suc (suc k))))) = suc (suc (suc (suc (suc k))))

-- a step of the second engine as one of the first
abbrev pub went : List ℕ → Option ℕ → Places.Step
went t (Some j) = Places.To (pos t j)
went t None = Places.Nowhere

pub record Determines (t : List ℕ) (tell : ℕ → ℕ) (c : List ℕ) (big : Bool) : Type 0 where
  pub long : length c ≡ length t + 1
  -- what stands at a place
  pub kinds : (i : ℕ) → i ≤ length t → Places.kind_at t tell (pos t i) ≡ named (kind c big i)
  pub empties : (i : ℕ) → i ≤ length t → Places.on_empty_row t (pos t i) ≡ is_empty c i
  pub ends : (i : ℕ) → i ≤ length t → eqb (kind c big i) 4 ≡ is_end c i
  pub last : is_end c (length t) ≡ true
  -- the steps
  pub on : (i : ℕ) → i ≤ length t → Places.step_forward t (pos t i) ≡ went t (forward c i)
  pub back : (i : ℕ) → i ≤ length t → Places.dec t (pos t i) ≡ went t (backward i)
  pub next : (i : ℕ) → i + 1 < length t → Places.inc t (pos t i) ≡ Places.To (pos t (i + 1))
  pub beside : (i : ℕ) → i ≤ length t → is_end c i ≡ false → position (pos t i).row ((pos t i).col + 1) ≡ pos t (i + 1)
  pub content : Places.end_of_buffer t ≡ pos t (content_end c)
  -- the rows
  pub row : (i : ℕ) → i ≤ length t → Offsets.row_of t i ≡ row_of c i
  pub rows : row_count t ≡ rows_of c
  pub content_rows : content_rows t ≡ content_of c
