-- Kinds and steps by the code points at an offset: each primitive of the Rust, on rows and columns, as the code reads it.
-- Assumes nothing.
use Rattle.lists.proofs.Kit.{◌≡◌, ap, ◌∙◌, List, Bool, true, false, ℕ, ◌+◌, ◌-◌, ◌≤◌, ◌<◌, dec_lt, ℕ_discrete, arith, length, get_or, eqb, eq-eqb, ne_eqb, Some}
use Rattle.lists.proofs.Kit.{eqb-true, eqb-false, lt-ltb, le-ltb}
use Rattle.text.specs.Text.{row_len, position}
use Rattle.text.specs.Offsets.{row_start, At}
use Rattle.text.proofs.At.{on_char, after_char, on_nl, on_end, on_last, point_at}
use Rattle.text.proofs.Stands.{stands_at_lem}
use Rattle.word_kinds.specs.declared.Spot.{Spot}
use Rattle.word_kinds.specs.Places.{To, Nowhere, space, end, kind_at, cls, on_empty_row, next_row, step_forward, inc}
use Rattle.word_kinds.specs.Spots.{place_of, IsSpot, Reaches}
use Rattle.word_kinds.proofs.Onto.{spot_at, col_at, next_none}

module _ (t : List ℕ) (p : Spot) (w : IsSpot t p) where
  abbrev col : ℕ
  col = p.at - row_start t p.row

  here : At t p.row col p.at
  here = stands_at_lem w

  -- past the last character of the row
  module _ (kind : ℕ → ℕ) (e : col ≡ row_len t p.row) where
    kind_past : end ≡ kind_at t kind (place_of t p)
    unfolding kind_at
    kind_past = rw (le-ltb col (row_len t p.row) (omega arith))

  pub forward_past : row_len t p.row ≤ col + 1 → next_row t p.row ≡ step_forward t (place_of t p)
  unfolding step_forward
  forward_past h = rw (le-ltb (col + 1) (row_len t p.row) h)

  pub inc_past : row_len t p.row ≤ col → next_row t p.row ≡ inc t (place_of t p)
  unfolding inc
  inc_past h = rw (le-ltb col (row_len t p.row) h)

  -- at the end of the text
  module _ (h : length t ≤ p.at) where
    pub end_kind : (kind : ℕ → ℕ) → end ≡ kind_at t kind (place_of t p)
    end_kind kind = kind_past kind (on_end here h)

    pub end_forward : Nowhere ≡ step_forward t (place_of t p)
    end_forward = next_none t p.row (on_last here h) ∙ forward_past (omega (arith, on_end here h))

    pub end_inc : Nowhere ≡ inc t (place_of t p)
    end_inc = next_none t p.row (on_last here h) ∙ inc_past (omega (arith, on_end here h))

    pub end_empty : col ≡ 0 → true ≡ on_empty_row t (place_of t p)
    unfolding on_empty_row
    end_empty z = rw (eq-eqb col 0 z, eq-eqb (row_len t p.row) 0 (omega (arith, on_end here h)))

  -- on a separator
  module _ (h : p.at < length t) (e : get_or t p.at 0 ≡ 10) where
    pub nl_kind : (kind : ℕ → ℕ) → end ≡ kind_at t kind (place_of t p)
    nl_kind kind = kind_past kind (on_nl here h e)

    pub nl_forward : next_row t p.row ≡ step_forward t (place_of t p)
    nl_forward = forward_past (omega (arith, on_nl here h e))

    pub nl_inc : next_row t p.row ≡ inc t (place_of t p)
    nl_inc = inc_past (omega (arith, on_nl here h e))

  -- on a character
  module _ (h : p.at < length t) (n : get_or t p.at 0 ≡ 10 → ⊥) where
    next : At t p.row (col + 1) (p.at + 1)
    next = after_char here h n

    pub char_spot : IsSpot t (record { row = p.row; at = p.at + 1 })
    char_spot = spot_at next

    pub char_col_lem : place_of t (record { row = p.row; at = p.at + 1 }) ≡ position p.row (col + 1)
    char_col_lem = col_at next

    pub char_kind : (kind : ℕ → ℕ) → kind (get_or t p.at 0) ≡ kind_at t kind (place_of t p)
    unfolding kind_at
    char_kind kind = rw (lt-ltb col (row_len t p.row) (on_char here h n), point_at here (on_char here h n))

    pub char_inc : Reaches t (Some (record { row = p.row; at = p.at + 1 })) (inc t (place_of t p))
    unfolding inc
    char_inc = record { place = rw (lt-ltb col (row_len t p.row) (on_char here h n)) (ap To (col_at next)); inside = char_spot }

    pub last_forward : length t ≤ p.at + 1 → Nowhere ≡ step_forward t (place_of t p)
    last_forward l = next_none t p.row (on_last next l) ∙ forward_past (omega (arith, on_end next l))

    pub row_forward : p.at + 1 < length t → get_or t (p.at + 1) 0 ≡ 10 → next_row t p.row ≡ step_forward t (place_of t p)
    row_forward l e = forward_past (omega (arith, on_nl next l e))

    pub char_forward : p.at + 1 < length t → (get_or t (p.at + 1) 0 ≡ 10 → ⊥) →
        Reaches t (Some (record { row = p.row; at = p.at + 1 })) (step_forward t (place_of t p))
    unfolding step_forward
    char_forward l m = record { place = rw (lt-ltb (col + 1) (row_len t p.row) (on_char next l m)) (ap To (col_at next)); inside = char_spot }

  -- a place with a class other than white space is on a character
  pub class_there : (kind : ℕ → ℕ) → (cls t kind (place_of t p) ≡ space → ⊥) → (p.at < length t) × (get_or t p.at 0 ≡ 10 → ⊥)
  class_there kind n = go (dec_lt p.at (length t)) (ℕ_discrete (get_or t p.at 0) 10)
    where
      go : Dec (p.at < length t) → Dec (get_or t p.at 0 ≡ 10) → (p.at < length t) × (get_or t p.at 0 ≡ 10 → ⊥)
      go (yes h) (yes e) = absurd (n (rw (← nl_kind h e kind)))
      go (yes h) (no m) = (h, m)
      go (no h) d = absurd (n (rw (← end_kind (omega arith) kind)))

  -- an empty row by the code point at the place
  pub empty_row : (b : Bool) → col ≡ 0 → p.at < length t → eqb (get_or t p.at 0) 10 ≡ b → b ≡ on_empty_row t (place_of t p)
  unfolding on_empty_row
  empty_row true z h e = rw (eq-eqb col 0 z, eq-eqb (row_len t p.row) 0 (omega (arith, on_nl here h (eqb-true _ _ e))))
  empty_row false z h e = rw (eq-eqb col 0 z, ne_eqb (row_len t p.row) 0 (λ m. omega (arith, on_char here h (eqb-false _ _ e))))
