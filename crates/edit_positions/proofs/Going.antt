-- Where a position goes, by rows and columns alone, is where its offset goes: `moved_by` says what `position_after` does.
-- Assumes nothing.
use Rattle.lists.proofs.Kit.{◌≡◌, refl, ap, sym, ◌∙◌, List, ◌++◌, cond, ℕ, ◌+◌, ◌-◌, ◌≤◌, ◌<◌, dec_lt, ℕ_discrete, arith, length, get_or, drop, length-append}
use Rattle.lists.proofs.Kit.{get_or-append, get_or-take, eqb, ltb, eq-eqb, ne_eqb, lt-ltb, le-ltb}
use Rattle.text.specs.Text.{rows}
use Rattle.text.specs.Offsets.{start_in}
use Rattle.text.specs.declared.Position.{Position}
use Rattle.text.proofs.At.{at_le}
use Rattle.text.proofs.Before.{rows_apart}
use Rattle.bracket_walks.specs.Matching.{pos_of}
use Rattle.edit_places.specs.Replaced.{replaced}
use Rattle.edit_places.proofs.Parts.{replaced_front, replaced_rest, replaced_behind, replaced_length}
use Rattle.edit_positions.specs.declared.Change.{Change}
use Rattle.edit_positions.specs.After.{offset_after}
use Rattle.edit_positions.specs.Change.{is_before, beyond, end_of, behind, moved_by}
use Rattle.edit_positions.proofs.Places.{Stays, stays_is, position_eq, pos_one, pos_of_lem, stays_kept, stays_beyond}

-- positions stand in the order of their offsets
pub before_offset : {t : List ℕ} {x y : Position} {o b : ℕ} → Stays t x o → Stays t y b → is_before x y ≡ ltb o b
unfolding is_before
before_offset {t} {x} {y} {o} {b} s u = go (ℕ_discrete x.row y.row) (dec_lt x.row y.row) (dec_lt x.col y.col)
  where
    apart : {v w : Position} {i j : ℕ} → Stays t v i → Stays t w j → v.row < w.row → i < j
    apart {v} {w} m n h = omega (arith, rows_apart t v.row w.row h n.in_row, m.in_col, m.offset, n.offset)

    go : Dec (x.row ≡ y.row) → Dec (x.row < y.row) → Dec (x.col < y.col) →
        cond (eqb x.row y.row) (ltb x.col y.col) (ltb x.row y.row) ≡ ltb o b
    go (yes e) d (yes h) = rw (eq-eqb _ _ e, lt-ltb _ _ h) (sym (lt-ltb o b (omega (arith, ap (start_in (rows t)) e, s.offset, u.offset))))
    go (yes e) d (no h) =
        rw (eq-eqb _ _ e, le-ltb x.col y.col (omega arith)) (sym (le-ltb o b (omega (arith, ap (start_in (rows t)) e, s.offset, u.offset))))
    go (no n) (yes h) d = rw (ne_eqb _ _ n, lt-ltb _ _ h) (sym (lt-ltb o b (apart s u h)))
    go (no n) (no h) d = rw (ne_eqb _ _ n, le-ltb x.row y.row (omega arith)) (sym (le-ltb o b (omega (arith, apart u s (omega arith)))))

-- from the end of the stretch on
pub behind_beyond : (c : Change) (y : Position) → behind c (beyond c.to y) ≡ beyond c.end y
unfolding behind beyond
behind_beyond c y = go (ℕ_discrete y.row 0)
  where
    go : Dec (y.row ≡ 0) → behind c (beyond c.to y) ≡ beyond c.end y
    go (yes z) =
        let sum_is : c.to.row + y.row ≡ c.to.row = omega arith in
        rw (eq-eqb _ _ sum_is, eq-eqb _ _ z) (position_eq (omega arith) (omega arith))
    go (no n) =
        let sum_not : c.to.row + y.row ≡ c.to.row → ⊥ = λ z. n (omega arith) in
        rw (ne_eqb _ _ sum_not, ne_eqb _ _ n) (position_eq (omega arith) refl)

-- what stands from a up to b, from p up to q, gives way to c
module _ (t c : List ℕ) (p q : Position) (a b : ℕ) (from : Stays t p a) (to : Stays t q b) (order : a ≤ b) where
  abbrev new : List ℕ
  new = replaced t a b c

  new_length : length new ≡ a + length c + (length t - b)
  new_length = replaced_length t a b c (at_le from)

  alike : (i : ℕ) → i < a → get_or t i 0 ≡ get_or new i 0
  alike i h = sym (get_or-take a t i 0 h) ∙ ap (λ (l : List ℕ). get_or l i 0) (sym (replaced_front t a b c (at_le from) a (omega arith))) ∙ get_or-take a new i 0 h

  pub stays_before : {x : Position} {o : ℕ} → Stays t x o → o ≤ a → Stays new x o
  stays_before {x} {o} s h = stays_is (pos_of_lem s) (stays_kept t new o (at_le s) (omega (arith, new_length)) (λ i l. alike i (omega arith)))

  -- where c ends
  pub stays_end : Stays new (end_of p c) (a + length c)
  stays_end =
      let joined = c ++ drop b t in
      let by_length_append = length-append c (drop b t) in
      let in_w = pos_of_lem (stays_kept c joined (length c) (omega arith) (omega arith) (λ i h. sym (get_or-append c (drop b t) 0 i h))) in
      stays_is (ap (λ (l : List ℕ). beyond p (pos_of l (length c))) (replaced_rest t a b c (at_le from)) ∙ ap (beyond p) in_w)
      (stays_beyond new p a (stays_before from (omega arith)) (length c) (omega (arith, new_length)))

  -- from the end of the stretch on
  module _ {x : Position} {o : ℕ} (s : Stays t x o) (h : b ≤ o) where
    abbrev y : Position
    y = pos_of (drop b t) (o - b)

    is_beyond : x ≡ beyond q y
    is_beyond =
        let sum_is : b + (o - b) ≡ o = omega arith in
        pos_one s (rw sum_is at (stays_beyond t q b to (o - b) (omega (arith, at_le s))))

    pub stays_behind : Stays new (behind (record { from = p; to = q; end = end_of p c }) x) (a + length c + (o - b))
    stays_behind =
        let sum_is : a + length c + 0 ≡ a + length c = omega arith in
        let b_plus_zero : b + 0 ≡ b = omega arith in
        let rest : drop (a + length c) new ≡ drop b t = rw (sum_is, b_plus_zero) at (replaced_behind t a b c (at_le from) 0) in
        let change : Change = record { from = p; to = q; end = end_of p c } in
        stays_is (ap (λ (l : List ℕ). beyond (end_of p c) (pos_of l (o - b))) rest ∙ sym (ap (behind change) is_beyond ∙ behind_beyond change y))
        (stays_beyond new (end_of p c) (a + length c) stays_end (o - b) (omega (arith, new_length, at_le s)))

  pub moved_after : {x : Position} {o : ℕ} → Stays t x o → Stays new (moved_by (record { from = p; to = q; end = end_of p c }) x) (offset_after a b (length c) o)
  unfolding moved_by offset_after
  moved_after {x} {o} s = rw (before_offset s from, before_offset s to) (go (dec_lt o a) (dec_lt o b))
    where
      go : Dec (o < a) → Dec (o < b) → Stays new (cond (ltb o a) x (cond (ltb o b) p (behind (record { from = p; to = q; end = end_of p c }) x)))
          (cond (ltb o a) o (cond (ltb o b) a (o - (b - a) + length c)))
      go (yes h) d = rw (lt-ltb _ _ h) (stays_before s (omega arith))
      go (no h) (yes l) = rw (le-ltb o a (omega arith), lt-ltb _ _ l) (stays_before from (omega arith))
      go (no h) (no l) =
          let sum_is : a + length c + (o - b) ≡ o - (b - a) + length c = omega arith in
          rw (le-ltb o a (omega arith), le-ltb o b (omega arith), ← sum_is) (stays_behind s (omega arith))
