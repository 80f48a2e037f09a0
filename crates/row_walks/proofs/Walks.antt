-- The steps of a round of a paragraph motion, and of rounds after each other.
-- Assumes nothing.
use Rattle.lists.proofs.Kit.{◌≡◌, refl, sym, ◌∙◌, List, Bool, true, false, ◌&&◌, ◌||◌, not, ℕ, zero, suc, ◌-◌, ◌≤◌, ◌<◌, ℕ_discrete, arith, length, get_or, eqb, Option}
use Rattle.lists.proofs.Kit.{eq-eqb, ne_eqb}
use Rattle.text.specs.Text.{row_len}
use Rattle.text.specs.Offsets.{At, IsLine, line_at}
use Rattle.text.specs.declared.Line.{Line}
use Rattle.text.proofs.At.{on_char, on_nl, on_end}
use Rattle.row_walks.specs.Toward.{rows_left, onward}
use Rattle.row_walks.specs.Paragraphs.{is_void, round_from, round_of, at_last, go_on, paragraphs}
use Rattle.row_walks.specs.declared.Round.TheVariants.{Found, RanOff}

-- a row is empty where a separator or the end of the text stands at its start
module _ {t : List ℕ} {r at : ℕ} (a : At t r 0 at) where
  pub void_end : length t ≤ at → is_void t r ≡ true
  void_end h = eq-eqb (row_len t r) 0 (sym (on_end a h))

  pub void_is : at < length t → is_void t r ≡ eqb (get_or t at 0) 10
  void_is h = go (ℕ_discrete (get_or t at 0) 10)
    where
      go : Dec (get_or t at 0 ≡ 10) → is_void t r ≡ eqb (get_or t at 0) 10
      go (yes e) = eq-eqb (row_len t r) 0 (sym (on_nl a h e)) ∙ sym (eq-eqb (get_or t at 0) 10 e)
      go (no n) = ne_eqb (row_len t r) 0 (λ z. omega (arith, on_char a h n)) ∙ sym (ne_eqb (get_or t at 0) 10 n)

-- behind the next row one row less is left, and it is a row where the last one is
pub rest_less : (fwd : Bool) (last row : ℕ) → rows_left fwd last (onward fwd row) ≡ rows_left fwd last row - 1
rest_less true last row = omega arith
rest_less false last row = refl

pub onward_in : (fwd : Bool) (last row n : ℕ) → 0 < rows_left fwd last row → row < n → last < n → onward fwd row < n
onward_in true last row n h r l = omega arith
onward_in false last row n h r l = omega arith

-- the steps of a round
module _ (t : List ℕ) (fwd skip : Bool) (row : ℕ) where
  pub round_found : (rest : ℕ) → ((skip || not (is_void t row)) && is_void t row) ≡ true → round_from t fwd skip row rest ≡ Found (line_at t row)
  unfolding round_from
  round_found zero e = rw e
  round_found (suc rest) e = rw e

  module _ (e : ((skip || not (is_void t row)) && is_void t row) ≡ false) where
    pub round_off : (rest : ℕ) → rest ≡ 0 → round_from t fwd skip row rest ≡ RanOff (line_at t row)
    unfolding round_from
    round_off rest z = rw (z, e)

    pub round_on : (rest : ℕ) → 0 < rest → round_from t fwd skip row rest ≡ round_from t fwd (skip || not (is_void t row)) (onward fwd row) (rest - 1)
    unfolding round_from
    round_on zero h = absurd (omega arith)
    round_on (suc rest) h =
        let one : suc rest - 1 ≡ rest = omega arith in
        rw (e, one)

-- a round from a row and those owed after it lead where all of them do
pub record Leads (t : List ℕ) (fwd : Bool) (whole : Option Line) (here : Line) (owed : ℕ) : Type 0 where
  pub line : IsLine t here
  pub same : whole ≡ paragraphs t fwd owed here.row

-- rounds after each other
module _ (t : List ℕ) (fwd : Bool) (row : ℕ) where
  pub last_round : (n : ℕ) → n ≡ 0 → paragraphs t fwd n row ≡ at_last (round_of t fwd row)
  unfolding paragraphs
  last_round n e = rw e

  pub one_round : (n : ℕ) → (n ≡ 0 → ⊥) → paragraphs t fwd n row ≡ go_on (λ r. paragraphs t fwd (n - 1) r) (round_of t fwd row)
  unfolding paragraphs
  one_round zero h = absurd (h refl)
  one_round (suc n) h =
      let one : suc n - 1 ≡ n = omega arith in
      rw one
