-- Laws of a position that stands in a text or outside it, and of a stretch between two. Long by the ends of a stretch: the laws of each. Assumes
-- nothing.
use Rattle.lists.proofs.Kit.{◌≡◌, refl, sym, ap, ◌∙◌, List, Bool, true, false, cond, ◌&&◌, not, ℕ, ◌+◌, ◌≤◌, ◌<◌, arith, length, eqb, ltb, leb, eq-eqb, ne_eqb, Option, Some, None}
use Rattle.lists.proofs.Kit.{eqb-true, lt-ltb, le-ltb, le-leb, lt-leb, ltb-true, ltb-false, leb-true}
use Rattle.text.specs.Text.{row_count, row_len}
use Rattle.text.specs.Offsets.{line_at, IsLine}
use Rattle.text.specs.declared.Line.{Line}
use Rattle.text.specs.declared.Position.{Position}
use Rattle.text.proofs.At.{at_le}
use Rattle.text.proofs.Stands.{line_there}
use Rattle.positions.specs.Positions.{is_inside, Inside}
use Rattle.edit_positions.specs.After.{offset_of}
use Rattle.edit_positions.specs.Change.{is_before}
use Rattle.edit_positions.proofs.Places.{Stays}
use Rattle.edit_positions.proofs.Going.{before_offset}
use Rattle.edit_checks.specs.declared.Checked.{Checked}
use Rattle.edit_checks.specs.Refusals.{stretch_refusal}
use Rattle.edit_checks.specs.Checks.{spot_of, refused_by, checked_by, stretch_of}

apart : ◌≡◌ {A = Bool} false true → ⊥
apart e = let never : ◌≡◌ {A = ℕ} 0 1 = ap (λ (b : Bool). cond b 1 0) e in omega arith

module _ (t : List ℕ) (p : Position) where
  pub spot_row : row_count t ≤ p.row → None ≡ spot_of t p
  unfolding spot_of
  spot_row h = rw (le-ltb p.row (row_count t) h)

  pub spot_col : p.row < row_count t → row_len t p.row < p.col → None ≡ spot_of t p
  unfolding spot_of
  spot_col h l = rw (lt-ltb p.row (row_count t) h, lt-leb p.col (row_len t p.row) l)

  pub spot_there : (l : Line) → l ≡ line_at t p.row → p.row < row_count t → p.col ≤ row_len t p.row → Some l ≡ spot_of t p
  unfolding spot_of
  spot_there l e h c = rw (lt-ltb p.row (row_count t) h, le-leb p.col (row_len t p.row) c) (ap Some e)

  pub is_inside_lem : is_inside t p ≡ true → Inside t p
  is_inside_lem e = go (ltb p.row (row_count t)) (leb p.col (row_len t p.row)) refl refl e
    where
      go : (a b : Bool) → ltb p.row (row_count t) ≡ a → leb p.col (row_len t p.row) ≡ b → (a && b) ≡ true → Inside t p
      go true true u v h = record { in_row = ltb-true _ _ u; in_col = leb-true _ _ v }
      go true false u v h = absurd (apart h)
      go false b u v h = absurd (apart h)

  pub inside_stays : Inside t p → Stays t p (offset_of t p)
  inside_stays i = record { in_row = i.in_row; in_col = i.in_col; offset = refl }

  pub out_outside : spot_of t p ≡ None → is_inside t p ≡ false
  unfolding spot_of
  out_outside e = go (is_inside t p) refl e
    where
      go : (b : Bool) → is_inside t p ≡ b → cond b (Some (line_at t p.row)) None ≡ None → is_inside t p ≡ false
      go true u v = let never : ◌≡◌ {A = Option Line} (Some (line_at t p.row)) None = v in cc
      go false u v = u

  pub in_inside : (l : Line) → spot_of t p ≡ Some l → (is_inside t p ≡ true) × (l ≡ line_at t p.row)
  unfolding spot_of
  in_inside l e = go (is_inside t p) refl e
    where
      go : (b : Bool) → is_inside t p ≡ b → cond b (Some (line_at t p.row)) None ≡ Some l → (is_inside t p ≡ true) × (l ≡ line_at t p.row)
      go true u v = (u, cc)
      go false u v = let never : ◌≡◌ {A = Option Line} None (Some l) = v in (cc, cc)

  -- its row, found, and how long that is
  pub in_line : (l : Line) → spot_of t p ≡ Some l → IsLine t l
  in_line l e = line_there t l p.row (in_inside l e).1 (is_inside_lem (in_inside l e).0).in_row

  pub in_fits : (l : Line) → spot_of t p ≡ Some l → l.start + p.col ≤ length t
  in_fits l e = omega (arith, at_le (inside_stays (is_inside_lem (in_inside l e).0)), ap (λ (x : Line). x.start) (in_inside l e).1)

  pub long : (l : Line) (n : ℕ) → l ≡ line_at t p.row → n ≡ row_len t l.row → n ≡ row_len t p.row
  long l n e m = m ∙ ap (λ (x : Line). row_len t x.row) e

module _ (t : List ℕ) (p q : Position) where
  -- an answer of the checks, by the number that refuses
  pub checked_none : (f : ℕ) (r : Checked) → f ≡ 0 → r ≡ record { refusal = 0; from = offset_of t p; to = offset_of t q; rows = row_count t } →
      r ≡ checked_by f t p q
  unfolding checked_by
  checked_none f r z e = rw (eq-eqb f 0 z) e

  pub checked_refused : (f g : ℕ) (r : Checked) → r ≡ refused_by g → f ≡ g → (g ≡ 0 → ⊥) → r ≡ checked_by f t p q
  unfolding checked_by
  checked_refused f g r e s n = rw (s, ne_eqb g 0 n) e

  pub checked_number : (f : ℕ) (r : Checked) → r ≡ checked_by f t p q → r.refusal ≡ f
  unfolding checked_by
  checked_number f r e = go (eqb f 0) refl e
    where
      go : (b : Bool) → eqb f 0 ≡ b → r ≡ cond b (record { refusal = 0; from = offset_of t p; to = offset_of t q; rows = row_count t }) (refused_by f) →
          r.refusal ≡ f
      go true u v = ap (λ (x : Checked). x.refusal) v ∙ sym (eqb-true f 0 u)
      go false u v = ap (λ (x : Checked). x.refusal) v

  pub checked_at : (f : ℕ) (r : Checked) → r ≡ checked_by f t p q → f ≡ 0 → r ≡ record { refusal = 0; from = offset_of t p; to = offset_of t q; rows = row_count t }
  unfolding checked_by
  checked_at f r e z = e ∙ rw (eq-eqb f 0 z)

  -- 11
  pub stretch_first : is_inside t p ≡ false → stretch_refusal t p q ≡ 11
  unfolding stretch_refusal
  stretch_first a = rw a

  pub stretch_second : is_inside t p ≡ true → is_inside t q ≡ false → stretch_refusal t p q ≡ 11
  unfolding stretch_refusal
  stretch_second a b = rw (a, b)

  pub stretch_order : is_inside t p ≡ true → is_inside t q ≡ true → (b : Bool) → is_before q p ≡ b → stretch_refusal t p q ≡ cond b 11 0
  unfolding stretch_refusal
  stretch_order a b true e = rw (a, b, e)
  stretch_order a b false e = rw (a, b, e)

  pub stretch_none : (l m : Line) (rows : ℕ) → rows ≡ row_count t → (is_inside t p ≡ true) × (l ≡ line_at t p.row) →
      (is_inside t q ≡ true) × (m ≡ line_at t q.row) →
      is_before q p ≡ false → record { refusal = 0; from = l.start + p.col; to = m.start + q.col; rows = rows } ≡ stretch_of t p q
  stretch_none l m rows r u v o =
      let same_start = ap (λ (x : Line). x.start + p.col) u.1 in
      let same = ap (λ (x : Line). x.start + q.col) v.1 in
      checked_none (stretch_refusal t p q) _ (stretch_order u.0 v.0 false o) (λ i. record { refusal = 0; from = same_start i; to = same i; rows = r i })

  -- a stretch that is not refused
  pub record Stretches : Type 0 where
    pub first : Stays t p (offset_of t p)
    pub second : Stays t q (offset_of t q)
    pub order : offset_of t p ≤ offset_of t q
    pub within : offset_of t q ≤ length t

  pub stretches : stretch_refusal t p q ≡ 0 → Stretches
  unfolding stretch_refusal
  stretches z = go (is_inside t p) (is_inside t q) (is_before q p) refl refl refl z
    where
      go : (a b o : Bool) → is_inside t p ≡ a → is_inside t q ≡ b → is_before q p ≡ o → ◌≡◌ {A = ℕ} (cond (a && (b && not o)) 0 11) 0 → Stretches
      go false b o u v w h = absurd (omega (arith, h))
      go true false o u v w h = absurd (omega (arith, h))
      go true true true u v w h = absurd (omega (arith, h))
      go true true false u v w h =
          let by_inside_stays = inside_stays t p (is_inside_lem t p u) in
          let by_inside_stays_t = inside_stays t q (is_inside_lem t q v) in
          record {
            first = by_inside_stays;
            second = by_inside_stays_t;
            order = ltb-false _ _ (sym (before_offset by_inside_stays_t by_inside_stays) ∙ w);
            within = at_le by_inside_stays_t;
          }
