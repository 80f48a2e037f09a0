-- Positions and offsets once more: a position may stand at its row's end, the order of two positions is that of their offsets, and a pair by offsets
-- is one of demand 3. Assumes nothing.
use Rattle.lists.proofs.Kit.{◌≡◌, refl, sym, ◌∙◌, ap, List, inl, inr, ℕ, ◌≤◌, ◌<◌, dec_lt, arith, length, get_or}
use Rattle.text_check.specs.Accept.{text_refusal}
use Rattle.text.specs.Offsets.{row_start}
use Rattle.text.proofs.Before.{rows_apart}
use Rattle.bracket_kinds.specs.declared.Kind.{Kind}
use Rattle.text.specs.declared.Position.{Position}
use Rattle.bracket_walks.specs.Matching.{pos_of}
use Rattle.bracket_walks.proofs.Sides.{hands}
use Rattle.bracket_laws.specs.Pairs.{Forward, forward}
use Rattle.bracket_laws.specs.Demand.{in_text, offset_of, PairAt, Before}
use Rattle.bracket_laws.proofs.Positions.{point_pos, offset_pos, pos_in}
use Rattle.bracket_laws.proofs.Demand.{unique}
use Rattle.positions.specs.Positions.{Inside}
use Rattle.bracket_inner.specs.Inner.{after, ranges}
use Rattle.bracket_inner.specs.Encloses.{Upto}
use Rattle.bracket_inner.specs.Innermost.{Standing}

abbrev pub stands : List ℕ → Position → Type 0
stands t p = Inside t p

-- a position of a code point, and the one after it
module _ {t : List ℕ} {p : Position} (h : in_text t p) where
  pub text_stands : stands t p
  text_stands = record { in_row = h.in_row; in_col = omega (arith, h.in_col) }

  pub after_stands : stands t (after p)
  after_stands = record { in_row = h.in_row; in_col = omega (arith, h.in_col) }

-- the order of positions is that of offsets
module _ {t : List ℕ} {p q : Position} (a : stands t p) (b : stands t q) where
  pub upto_offset : Upto p q → offset_of t p ≤ offset_of t q
  upto_offset (inl l) = omega (arith, rows_apart t p.row q.row l b.in_row, a.in_col)
  upto_offset (inr e) = omega (arith, ap (row_start t) e.0, e.1)

  pub offset_upto : offset_of t p ≤ offset_of t q → Upto p q
  offset_upto l = on (dec_lt p.row q.row) (dec_lt q.row p.row)
    where
      on : Dec (p.row < q.row) → Dec (q.row < p.row) → Upto p q
      on (yes e) d = inl e
      on (no e) (yes f) = absurd (omega (arith, rows_apart t q.row p.row f a.in_row, b.in_col))
      on (no e) (no f) =
          let row_is : p.row ≡ q.row = omega arith in
          inr (row_is, omega (arith, ap (row_start t) row_is))

-- of two positions one stands before the other at most
pub before_once : {p q : Position} → Before p q → Before q p → ⊥
before_once (inl l) (inl m) = omega arith
before_once (inl l) (inr m) = omega (arith, m.0)
before_once (inr l) (inl m) = omega (arith, l.0)
before_once (inr l) (inr m) = omega (arith, l.1, m.1)

-- a pair by offsets is one by positions
module _ (t : List ℕ) (ok : text_refusal t ≡ 0) {k : Kind} {i j : ℕ} (f : Forward k t i j) where
  open_in : i < length t
  open_in = omega (arith, f.balanced.after, f.balanced.inside)

  open_char : get_or t i 0 ≡ 10 → ⊥
  open_char e = (hands k).open_char (sym f.balanced.opens ∙ e)

  close_char : get_or t j 0 ≡ 10 → ⊥
  close_char e = (hands k).close_char (sym f.balanced.closes ∙ e)

  pub opening : in_text t (pos_of t i)
  opening = pos_in t i open_in open_char

  pub closing : in_text t (pos_of t j)
  closing = pos_in t j f.balanced.inside close_char

  pub opening_at : offset_of t (pos_of t i) ≡ i
  opening_at = offset_pos t i open_in open_char

  pub closing_at : offset_of t (pos_of t j) ≡ j
  closing_at = offset_pos t j f.balanced.inside close_char

  pub pair_at : PairAt k t (pos_of t i) (pos_of t j)
  pair_at = record {
    opens = point_pos opening ∙ ap (λ (m : ℕ). get_or t m 0) opening_at ∙ f.balanced.opens;
    answer = (unique t ok).found (pos_of t i) (pos_of t j) (record { from = opening; to = closing; partner = rw (opening_at, closing_at) (forward k f) });
  }

  pub both_stand : Standing t (ranges (pos_of t i) (pos_of t j))
  both_stand = record {
    opening_in = text_stands opening;
    from_in = after_stands opening;
    to_in = text_stands closing;
    past_in = after_stands closing;
    starts = inr (refl, omega arith);
    between = offset_upto (after_stands opening) (text_stands closing) (omega (arith, opening_at, closing_at, f.balanced.after));
    ends = inr (refl, omega arith);
  }
