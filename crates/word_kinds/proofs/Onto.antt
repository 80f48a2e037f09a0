-- Spots of places, and the first place of the next row.
-- Assumes nothing.
use Rattle.lists.proofs.Kit.{◌≡◌, refl, ap, List, ℕ, ◌+◌, ◌-◌, ◌≤◌, ◌<◌, arith, length, lt-ltb, le-ltb, Some}
use Rattle.text.specs.Text.{row_count, content_rows, position}
use Rattle.text.specs.Offsets.{row_start, At}
use Rattle.text.specs.declared.Position.{Position}
use Rattle.text.proofs.At.{after_nl}
use Rattle.text.proofs.Content.{content_near, content_yes, content_no}
use Rattle.text.proofs.Stands.{stands_at_lem, at_stands}
use Rattle.word_kinds.specs.declared.Spot.{Spot}
use Rattle.word_kinds.specs.Places.{To, Nowhere, next_row}
use Rattle.word_kinds.specs.Spots.{place_of, IsSpot, Lands, Reaches, Ends}

-- a place of the text is a spot of it
pub spot_at : {t : List ℕ} {r c at : ℕ} → At t r c at → IsSpot t (record { row = r; at = at })
spot_at a = at_stands a _ refl

pub col_at : {t : List ℕ} {r c at : ℕ} → At t r c at → place_of t (record { row = r; at = at }) ≡ position r c
col_at {r = r} a = ap (position r) (omega (arith, a.offset))

pub lands_at : {t : List ℕ} {r c at : ℕ} → At t r c at → Lands t (record { row = r; at = at }) (position r c)
lands_at a = record { place = col_at a; inside = spot_at a }

-- where there is no next row with content
pub next_none : (t : List ℕ) (r : ℕ) → r + 1 ≡ row_count t → Nowhere ≡ next_row t r
unfolding next_row
next_none t r e = rw (le-ltb (r + 1) (content_rows t) (omega (arith, content_near t)))

module _ (t : List ℕ) (r end : ℕ) (w : Ends t r end) where
  next_at : At t (r + 1) 0 (end + 1)
  next_at = after_nl (stands_at_lem w.stands) w.within w.nl

  pub next_yes : end + 1 < length t → Reaches t (Some (record { row = r + 1; at = end + 1 })) (next_row t r)
  unfolding next_row
  next_yes l =
      let by_content_yes = content_yes t (r + 1) (omega arith) next_at.in_row (omega (arith, next_at.offset)) in
      record { place = rw (lt-ltb (r + 1) (content_rows t) by_content_yes) (ap To (col_at next_at)); inside = spot_at next_at }

  pub next_no : length t ≤ end + 1 → Nowhere ≡ next_row t r
  unfolding next_row
  next_no l =
      let by_content_no = content_no t (r + 1) (omega arith) next_at.in_row (omega (arith, next_at.offset)) in
      rw (le-ltb (r + 1) (content_rows t) (omega arith))

-- a place has one spot, so that what is said of the place of a spot of the text says which spot it is
pub one_spot : (t : List ℕ) (p q : Spot) → IsSpot t p → IsSpot t q → place_of t p ≡ place_of t q → p ≡ q
one_spot t p q i j e =
    let row_is : p.row ≡ q.row = ap (λ (x : Position). x.row) e in
    let difference_is : p.at - row_start t p.row ≡ q.at - row_start t q.row = ap (λ (x : Position). x.col) e in
    let at_is : p.at ≡ q.at = omega (arith, difference_is, ap (row_start t) row_is, i.from, j.from) in
    λ k. record { row = row_is k; at = at_is k }
