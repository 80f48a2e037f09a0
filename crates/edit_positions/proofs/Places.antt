-- Positions of one text in another: of a text with the same beginning, and of a text that begins at a position of the other.
-- Assumes nothing.
use Rattle.lists.proofs.Kit.{◌≡◌, refl, ap, sym, ◌∙◌, subst, List, Bool, true, false, cond, ℕ, zero, suc, ◌+◌, ◌≤◌, ◌<◌, add-zero, add-one, ℕ_discrete, arith}
use Rattle.lists.proofs.Kit.{length, get_or, drop, length-drop, get_or-drop, eqb, ne_eqb}
use Rattle.text.specs.Text.{position}
use Rattle.text.specs.Offsets.{At}
use Rattle.text.specs.declared.Position.{Position}
use Rattle.text.proofs.At.{at_first, at_le, after_char, after_nl}
use Rattle.text.proofs.Before.{same_row, same_col}
use Rattle.text.proofs.Stands.{row_there}
use Rattle.bracket_walks.specs.Matching.{pos_of}
use Rattle.edit_positions.specs.Change.{beyond}

-- the position x stands at the offset `at`
abbrev pub Stays : List ℕ → Position → ℕ → Type 0
Stays t x at = At t x.row x.col at

pub pos_there : (t : List ℕ) (at : ℕ) → at ≤ length t → Stays t (pos_of t at) at
pos_there t at h = row_there t at h

pub position_eq : {r c q d : ℕ} → r ≡ q → c ≡ d → position r c ≡ position q d
position_eq e f = λ i. record { row = e i; col = f i }

pub stays_is : {t : List ℕ} {x y : Position} {at : ℕ} → x ≡ y → Stays t x at → Stays t y at
stays_is {t} {x} {y} {at} e s = subst (λ (z : Position). Stays t z at) e s

-- an offset has one position
pub pos_one : {t : List ℕ} {x y : Position} {at : ℕ} → Stays t x at → Stays t y at → x ≡ y
pos_one a b = position_eq (same_row a b) (same_col a b)

pub pos_of_lem : {t : List ℕ} {x : Position} {at : ℕ} → Stays t x at → pos_of t at ≡ x
pos_of_lem {t} {x} {at} a = pos_one (pos_there t at (at_le a)) a

-- one code point on: in the next row, or in the same one
module _ {t : List ℕ} {x : Position} {at : ℕ} (a : Stays t x at) (h : at < length t) where
  pub next_nl : get_or t at 0 ≡ 10 → pos_of t (at + 1) ≡ position (x.row + 1) 0
  next_nl e = pos_of_lem {x = position (x.row + 1) 0} (after_nl a h e)

  pub next_char : (get_or t at 0 ≡ 10 → ⊥) → pos_of t (at + 1) ≡ position x.row (x.col + 1)
  next_char n = pos_of_lem {x = position x.row (x.col + 1)} (after_char a h n)

-- the same position in a text that begins alike
pub stays_kept : (t u : List ℕ) (at : ℕ) → at ≤ length t → at ≤ length u → ((i : ℕ) → i < at → get_or t i 0 ≡ get_or u i 0) → Stays u (pos_of t at) at
stays_kept t u zero h l same = stays_is (sym (pos_of_lem {x = position 0 0} (at_first t))) (at_first u)
stays_kept t u (suc at) h l same = go (ℕ_discrete (get_or t at 0) 10) (stays_kept t u at (omega arith) (omega arith) (λ i m. same i (omega arith)))
  where
    here : Stays t (pos_of t at) at
    here = pos_there t at (omega arith)

    alike : get_or t at 0 ≡ get_or u at 0
    alike = same at (omega arith)

    go : Dec (get_or t at 0 ≡ 10) → Stays u (pos_of t at) at → Stays u (pos_of t (suc at)) (suc at)
    go (yes e) a = subst (λ (n : ℕ). Stays u (pos_of t n) n) (add-one at)
        (stays_is (sym (next_nl here (omega arith) e)) (after_nl a (omega arith) (sym alike ∙ e)))
    go (no n) a = subst (λ (n : ℕ). Stays u (pos_of t n) n) (add-one at)
        (stays_is (sym (next_char here (omega arith) n)) (after_char a (omega arith) (λ e. n (alike ∙ e))))

-- a text that begins at a position of another: each of its positions is one of the other
beyond_first : (p : Position) → beyond p (position 0 0) ≡ p
unfolding beyond
beyond_first p = position_eq (add-zero p.row) (add-zero p.col)

beyond_nl : (p y : Position) → position ((beyond p y).row + 1) 0 ≡ beyond p (position (y.row + 1) 0)
unfolding beyond
beyond_nl p y =
    let sum_is : p.row + y.row + 1 ≡ p.row + (y.row + 1) = omega arith in
    rw (ne_eqb (y.row + 1) 0 (λ z. omega (arith, z)), sum_is)

beyond_char : (p y : Position) → position (beyond p y).row ((beyond p y).col + 1) ≡ beyond p (position y.row (y.col + 1))
unfolding beyond
beyond_char p y = position_eq refl (go (eqb y.row 0))
  where
    go : (b : Bool) → cond b (p.col + y.col) y.col + 1 ≡ cond b (p.col + (y.col + 1)) (y.col + 1)
    go true = omega arith
    go false = refl

module _ (t : List ℕ) (p : Position) (at : ℕ) (a : Stays t p at) where
  pub stays_beyond : (i : ℕ) → at + i ≤ length t → Stays t (beyond p (pos_of (drop at t) i)) (at + i)
  stays_beyond zero h =
      let by_pos_of = pos_of_lem {x = position 0 0} (at_first (drop at t)) in
      rw (add-zero at) (stays_is (sym (ap (beyond p) by_pos_of ∙ beyond_first p)) a)
  stays_beyond (suc i) h = go (ℕ_discrete (get_or t (at + i) 0) 10) (stays_beyond i (omega arith))
    where
      u : List ℕ
      u = drop at t

      long : i < length u
      long = omega (arith, length-drop at t)

      here : Stays u (pos_of u i) i
      here = pos_there u i (omega (arith, long))

      alike : get_or u i 0 ≡ get_or t (at + i) 0
      alike = get_or-drop at t i 0

      on : (x : Position) → Stays t x (at + i + 1) → x ≡ beyond p (pos_of u (suc i)) → Stays t (beyond p (pos_of u (suc i))) (at + suc i)
      on x s e =
          let sum_is : at + i + 1 ≡ at + suc i = omega arith in
          rw (← sum_is) (stays_is e s)

      go : Dec (get_or t (at + i) 0 ≡ 10) → Stays t (beyond p (pos_of u i)) (at + i) → Stays t (beyond p (pos_of u (suc i))) (at + suc i)
      go (yes e) s = on (position ((beyond p (pos_of u i)).row + 1) 0) (after_nl s (omega arith) e)
          (beyond_nl p (pos_of u i) ∙ ap (beyond p) (sym (next_nl here long (alike ∙ e)) ∙ ap (pos_of u) (add-one i)))
      go (no n) s = on (position (beyond p (pos_of u i)).row ((beyond p (pos_of u i)).col + 1)) (after_char s (omega arith) n)
          (beyond_char p (pos_of u i) ∙ ap (beyond p) (sym (next_char here long (λ e. n (sym alike ∙ e))) ∙ ap (pos_of u) (add-one i)))
