-- Rows that begin with a mark, by the code point at their start, and the steps of a walk from row to row in search of them.
-- Assumes nothing.
use Rattle.lists.proofs.Kit.{◌≡◌, refl, sym, ◌∙◌, List, false, cond, ℕ, zero, suc, ◌+◌, ◌-◌, ◌≤◌, ◌<◌, dec_lt, arith, length, get_or, eqb, ne_eqb, lt-ltb, le-ltb}
use Rattle.text.specs.Text.{row_count, row_len, content_rows}
use Rattle.text.specs.Offsets.{At, Stands}
use Rattle.text.proofs.At.{on_char, on_end, point_at}
use Rattle.text.proofs.Content.{content_near}
use Rattle.row_walks.specs.Sections.{begins, section_up, section_down, LeadsTo}

-- the code point at a row's start tells how it begins
module _ {t : List ℕ} {r at : ℕ} (x : ℕ) (a : At t r 0 at) where
  pub begins_end : length t ≤ at → begins t x r ≡ false
  begins_end h = rw (le-ltb 0 (row_len t r) (omega (arith, on_end a h)))

  pub begins_is : at < length t → (x ≡ 10 → ⊥) → begins t x r ≡ eqb (get_or t at 0) x
  begins_is h n = go (dec_lt 0 (row_len t r))
    where
      go : Dec (0 < row_len t r) → begins t x r ≡ eqb (get_or t at 0) x
      go (yes p) = rw (lt-ltb 0 (row_len t r) p, point_at a p)
      go (no m) = rw (le-ltb 0 (row_len t r) (omega arith)) (sym (ne_eqb (get_or t at 0) x (λ e. absurd (omega (arith, on_char a h (λ z. n (sym e ∙ z)))))))

-- a walk to a section, up or down, has come to a row: so many more from it on lead where all of them do, by `rest`
pub record Seeks (t : List ℕ) (rest : ℕ → ℕ → ℕ) (whole row start left : ℕ) : Type 0 where
  pub line : Stands t row start start
  pub same : whole ≡ rest left row

module _ {t : List ℕ} {rest : ℕ → ℕ → ℕ} {whole row start left : ℕ} (so_far : Seeks t rest whole row start left) where
  pub seeks_on : {row' start' left' : ℕ} → Stands t row' start' start' → rest left row ≡ rest left' row' → Seeks t rest whole row' start' left'
  seeks_on l e = record { line = l; same = so_far.same ∙ e }

  pub seeks_end : rest left row ≡ row → LeadsTo t whole row
  seeks_end e = record { row = sym (so_far.same ∙ e); inside = omega (arith, so_far.line.below, so_far.line.within) }

-- a row up
pub up_none : (t : List ℕ) (x n row : ℕ) → row ≤ 0 → section_up t x n row ≡ row
unfolding section_up
up_none t x n zero h = refl
up_none t x n (suc row) h = absurd (omega arith)

pub up_done : (t : List ℕ) (x n row : ℕ) → n ≡ 0 → section_up t x n row ≡ row
unfolding section_up
up_done t x n zero e = refl
up_done t x n (suc row) e = rw e

pub up_step : (t : List ℕ) (x n row q : ℕ) → 0 < n → 0 < row → q ≡ row - 1 → section_up t x n row ≡ section_up t x (cond (begins t x q) (n - 1) n) q
unfolding section_up
up_step t x zero row q p h e = absurd (omega arith)
up_step t x (suc n) zero q p h e = absurd (omega arith)
up_step t x (suc n) (suc row) q p h e =
    let same : q ≡ row = omega arith in
    let one : suc n - 1 ≡ n = omega arith in
    rw (same, one)

-- a row down
pub down_none : (t : List ℕ) (x n row rest : ℕ) → rest ≡ 0 → section_down t x n row rest ≡ row
unfolding section_down
down_none t x n row rest e = rw e

pub down_done : (t : List ℕ) (x n row rest : ℕ) → n ≤ 0 → section_down t x n row rest ≡ row
unfolding section_down
down_done t x n row zero e = refl
down_done t x zero row (suc rest) e = refl
down_done t x (suc n) row (suc rest) e = absurd (omega arith)

one_down : (t : List ℕ) (x n row rest less q : ℕ) → 0 < n → rest ≡ less + 1 → q ≡ row + 1 →
    section_down t x n row rest ≡ section_down t x (cond (begins t x q) (n - 1) n) q less
unfolding section_down
one_down t x zero row rest less q p h e = absurd (omega arith)
one_down t x (suc n) row zero less q p h e = absurd (omega arith)
one_down t x (suc n) row (suc rest) less q p h e =
    let one : suc n - 1 ≡ n = omega arith in
    let same : rest ≡ less = omega arith in
    rw (e, one, same)

-- before the last row with content, `last`
pub down_step : (t : List ℕ) (x n row last q : ℕ) → 0 < n → row < last → q ≡ row + 1 →
    section_down t x n row (last - row) ≡ section_down t x (cond (begins t x q) (n - 1) n) q (last - q)
down_step t x n row last q p h e = one_down t x n row (last - row) (last - q) q p (omega arith) e

-- and then there is a row below
pub has_next : (t : List ℕ) (row last : ℕ) → last ≡ content_rows t - 1 → row < last → row + 1 < row_count t
has_next t row last e h = omega (arith, content_near t)
