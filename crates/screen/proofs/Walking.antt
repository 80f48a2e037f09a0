-- The walk of a screen move from spot to spot follows the rounds, whatever offset is kept. Assumes nothing.
use Rattle.lists.proofs.Kit.{◌≡◌, refl, sym, ap, ◌∙◌, List, Bool, ℕ, ◌-◌, ◌≤◌, ◌<◌, arith, Some, None}
use Rattle.text.specs.Text.{row_count, row_at}
use Rattle.text.specs.Offsets.{Stands, line_at}
use Rattle.text.specs.declared.Line.{Line}
use Rattle.text.proofs.Stands.{line_there}
use Rattle.text.specs.declared.Position.{Position}
use Rattle.screen.specs.declared.Spot.{Spot}
use Rattle.lists.specs.Rounds.{rounds}
use Rattle.visible_rows.specs.Visible.{toward, Free}
use Rattle.screen_segments.specs.Parts.{segment_count, lay_of, mode_of}
use Rattle.screen_segments.proofs.Seats.{laid}
use Rattle.screen.specs.Screen.{step_screen}
use Rattle.screen.specs.Walks.{place_at, IsSpot, Leads}
use Rattle.screen.proofs.ScreenRounds.{rounds_in, crosses, stops}

-- the place at the spot that n rounds lead to is where the rounds lead
pub leads_place : (t folds : List ℕ) (lay : List ℕ → List ℕ) (down : Bool) (offset n : ℕ) (s r : Spot) {p : Position} →
    p ≡ place_at t lay down offset r.row r.ahead → Leads t folds lay down n s r →
    p ≡ rounds (step_screen t folds lay down offset) n (place_at t lay down offset s.row s.ahead)
leads_place t folds lay down offset n s r e to = e ∙ sym (to offset)

-- n rounds from the first spot are `left` rounds from this one
pub record Walking (w : ℕ → ℕ) (t folds : List ℕ) (word : Bool) (width : ℕ) (down : Bool) (n row₀ ahead₀ row start ahead left : ℕ) : Type 0 where
  pub line : Stands t row start start
  pub inside : ahead < segment_count (lay_of w word width (row_at t row))
  pub same : (offset : ℕ) → rounds (step_screen t folds (lay_of w word width) down offset) n (place_at t (lay_of w word width) down offset row₀ ahead₀) ≡
      rounds (step_screen t folds (lay_of w word width) down offset) left (place_at t (lay_of w word width) down offset row ahead)

-- and no fold hides the next `free` rows
pub record Striding
    (w : ℕ → ℕ) (t folds : List ℕ) (rows : ℕ) (word : Bool) (width : ℕ) (down : Bool) (n row₀ ahead₀ row start ahead left free : ℕ) : Type 0 where
  pub walking : Walking w t folds word width down n row₀ ahead₀ row start ahead left
  pub clear : Free folds rows down row free

pub walking_start : {w : ℕ → ℕ} {t folds : List ℕ} {word : Bool} {width : ℕ} {down : Bool} {n : ℕ} (s : Spot) → IsSpot t (lay_of w word width) s →
    Walking w t folds word width down n s.row s.ahead s.row s.start s.ahead n
walking_start s i = record { line = i.line; inside = i.inside; same = λ offset. refl }

module _ {w : ℕ → ℕ} {t folds : List ℕ} {word : Bool} {width : ℕ} {down : Bool} {n row₀ ahead₀ row start ahead left : ℕ}
    (so_far : Walking w t folds word width down n row₀ ahead₀ row start ahead left) where
  -- into the next visible row
  pub walking_cross : (x m : ℕ) (next : Line) → ahead < left → toward folds (row_count t) down row ≡ Some x → x < row_count t → next ≡ line_at t x →
      m ≡ segment_count (lay_of w word width (row_at t next.row)) → 0 < m →
      Walking w t folds word width down n row₀ ahead₀ next.row next.start (m - 1) (left - ahead - 1)
  walking_cross x m next l found h e c p =
      let is : x ≡ next.row = sym (ap (λ (k : Line). k.row) e) in
      record {
        line = line_there t next x e h;
        inside = omega (arith, c);
        same = λ offset. so_far.same offset ∙
            crosses t folds (lay_of w word width) down offset (λ r. laid w (mode_of word) width r) row ahead left so_far.inside l x found ∙
            ap (λ (r : ℕ). rounds (step_screen t folds (lay_of w word width) down offset) (left - ahead - 1)
            (place_at t (lay_of w word width) down offset r (segment_count (lay_of w word width (row_at t r)) - 1))) is ∙
            ap (λ (k : ℕ). rounds (step_screen t folds (lay_of w word width) down offset) (left - ahead - 1)
            (place_at t (lay_of w word width) down offset next.row (k - 1))) (sym c);
      }

  -- no row is left, or no round
  pub walking_edge : (s : Spot) → s.row ≡ row₀ → s.ahead ≡ ahead₀ → ahead < left → toward folds (row_count t) down row ≡ None →
      Leads t folds (lay_of w word width) down n s (record { row = row; start = start; ahead = 0 })
  walking_edge s e q l none offset = rw (e, q)
      (so_far.same offset ∙ stops t folds (lay_of w word width) down offset (λ r. laid w (mode_of word) width r) row ahead left so_far.inside l none)

  pub walking_end : (s : Spot) → s.row ≡ row₀ → s.ahead ≡ ahead₀ → left ≤ ahead →
      Leads t folds (lay_of w word width) down n s (record { row = row; start = start; ahead = ahead - left })
  walking_end s e q l offset =
      rw (e, q) (so_far.same offset ∙ rounds_in t folds (lay_of w word width) down offset (λ r. laid w (mode_of word) width r) left row ahead l so_far.inside)

  pub walking_spot : (a : ℕ) → a ≤ ahead → IsSpot t (lay_of w word width) (record { row = row; start = start; ahead = a })
  walking_spot a l = record { line = so_far.line; inside = omega (arith, so_far.inside) }
