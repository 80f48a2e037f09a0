-- Spots by the table of row starts, and what a jump of each kind comes to. Assumes nothing.
use Rattle.lists.proofs.Kit.{◌≡◌, refl, ap, sym, ◌∙◌, List, Bool, false, ℕ, suc, ◌+◌, ◌-◌, ◌≤◌, ◌<◌, ◌^◌, max, arith, length, get_or, length-take, eq-eqb, ne_eqb}
use Rattle.text_check.specs.Accept.{text_refusal}
use Rattle.text_check.proofs.Accepted.{accepted_short}
use Rattle.text.specs.Text.{row_count, position}
use Rattle.text.specs.Offsets.{row_start, IsLine}
use Rattle.text.specs.declared.Position.{Position}
use Rattle.text.proofs.Parts.{count_le}
use Rattle.text.proofs.Stands.{line_at_lem, line_eq, line_there, stands_in}
use Rattle.positions.specs.Positions.{Inside}
use Rattle.bracket_walks.specs.declared.Partner.{Partner}
use Rattle.bracket_walks.specs.declared.Partner.TheVariants.{There}
use Rattle.brackets.specs.Find.{key_from}
use Rattle.bracket_laws.proofs.Jump.{key_goes}
use Rattle.row_table.proofs.Starts.{rows_length}
use Rattle.row_table.proofs.Held.{table_place}
use Rattle.word_kinds.specs.declared.Spot.{Spot}
use Rattle.word_kinds.specs.Spots.{place_of, IsSpot, Lands}
use Rattle.word_rounds.specs.declared.Motion.{Motion}
use Rattle.word_rounds.specs.Rounds.{round_of, counted, word_motion}
use Rattle.jumps.specs.Leaps.{motion_of, on_partner, leapt, IsTable}

-- the table has a place for each row
pub table_room : (t table : List ℕ) → IsTable t table → row_count t ≤ length table
table_room t table e = omega (arith, length-take (row_count t) table, ap length e, rows_length t)

pub table_start : (t table : List ℕ) → IsTable t table → (row : ℕ) → row < row_count t → get_or table row 0 ≡ row_start t row
table_start t table e row h = table_place t table e row h

-- the spot of a place
module _ (t : List ℕ) (q : Position) (i : Inside t q) {start : ℕ} (s : start ≡ row_start t q.row) where
  pub spot_there : IsSpot t (record { row = q.row; at = start + q.col })
  spot_there = rw s (stands_in (line_at_lem t q.row i.in_row) (row_start t q.row + q.col) (omega arith) (omega (arith, i.in_col)))

  pub spot_lands : Lands t (record { row = q.row; at = start + q.col }) q
  spot_lands = record { place = ap (position q.row) (omega (arith, s)); inside = spot_there }

-- its numbers fit
pub spot_short : {t : List ℕ} {r : Spot} → text_refusal t ≡ 0 → IsSpot t r → (r.row < 2 ^ 32) × (r.at < 2 ^ 32)
spot_short {t} {r} clear s = (omega (arith, accepted_short t clear, s.in_row, count_le t), omega (arith, accepted_short t clear, s.within))

-- where the key goes
pub key_inside : (t : List ℕ) (row col : ℕ) (q : Position) → text_refusal t ≡ 0 → key_from t row col ≡ There q → Inside t q
key_inside t row col q clear e =
    let to = ((key_goes t clear).lands row col q e).partner.to in
    record { in_row = to.in_row; in_col = omega (arith, to.in_col) }

-- a jump of each kind
module _ (t folds : List ℕ) (class : ℕ → ℕ) (kind count : ℕ) (p : Position) where
  pub leapt_key : kind ≡ 3 → leapt t folds class kind count p ≡ on_partner p (key_from t p.row p.col)
  unfolding leapt
  leapt_key e = rw (eq-eqb kind 3 e)

  pub leapt_word : (kind ≡ 3 → ⊥) → leapt t folds class kind count p ≡ word_motion t folds class false (motion_of kind) false count p
  unfolding leapt
  leapt_word n = rw (ne_eqb kind 3 n)

-- a motion that does not stop is so many rounds
pub word_rounds : (t folds : List ℕ) (class : ℕ → ℕ) (m : Motion) (count : ℕ) (p : Position) →
    counted (round_of t folds class false m false) (max count 1) p ≡ word_motion t folds class false m false count p
unfolding counted word_motion
word_rounds t folds class m count p =
    let most_is : max count 1 ≡ suc (max count 1 - 1) = omega arith in
    ap (λ (n : ℕ). counted (round_of t folds class false m false) n p) most_is

-- the same by numbers that are those
pub rounds_leapt : (t folds : List ℕ) (class : ℕ → ℕ) (kind count : ℕ) (p : Position) {big : Bool} {m : Motion} {n : ℕ} →
    big ≡ false → m ≡ motion_of kind → n ≡ max count 1 → (kind ≡ 3 → ⊥) →
    counted (round_of t folds class big m false) n p ≡ leapt t folds class kind count p
rounds_leapt t folds class kind count p b m_is n_is k =
    rw (b, m_is, n_is) (word_rounds t folds class (motion_of kind) count p ∙ sym (leapt_word t folds class kind count p k))

-- a row with its start, and the key from a spot in it
module _ (t : List ℕ) (p : Spot) {start : ℕ} (s : start ≡ row_start t p.row) where
  pub line_here : p.row < row_count t → IsLine t (record { row = p.row; start = start })
  line_here h = line_there t (record { row = p.row; start = start }) p.row (line_eq t s refl) h

  pub partner_is : {key x : Partner} → key ≡ key_from t p.row (p.at - start) → key ≡ x →
      on_partner (place_of t p) x ≡ on_partner (place_of t p) (key_from t p.row (place_of t p).col)
  partner_is k e = ap (on_partner (place_of t p)) (sym e ∙ k ∙ ap (λ (n : ℕ). key_from t p.row (p.at - n)) s)
