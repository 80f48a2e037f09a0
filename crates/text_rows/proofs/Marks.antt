-- Every separator is a mark, and so is every low line break that a text may not hold: a text with no more marks than separators has none of these.
-- Assumes nothing.
use Rattle.lists.proofs.Kit.{◌≡◌, refl, sym, ap, ◌∙◌, List, [], ◌∷◌, ◌++◌, Bool, true, false, ◌&&◌, ◌||◌, true≢false, ℕ, suc, ◌+◌, ◌≤◌, ◌<◌, ℕ_discrete, arith}
use Rattle.lists.proofs.Kit.{length, get_or, drop, drop_of_length-le, eqb, leb, leb-true, ne_eqb}
use Rattle.lists.specs.Lists.{any}
use Rattle.lists.proofs.Lists.{drop_at}
use Rattle.lists.proofs.Both.{both}
use Rattle.text_check.specs.Accept.{is_low}
use Rattle.text.specs.Text.{row_count}
use Rattle.text.proofs.Parts.{count_cons_nl, count_cons_on}
use Rattle.text.proofs.Rows.{rows_nil}
use Rattle.text_rows.specs.Pass.{is_mark, marks_in}

-- one code point more
module _ (x : ℕ) (t : List ℕ) where
  marks_more : is_mark x ≡ true → marks_in (x ∷ t) ≡ suc (marks_in t)
  unfolding marks_in
  marks_more e = rw e

  marks_same : is_mark x ≡ false → marks_in (x ∷ t) ≡ marks_in t
  unfolding marks_in
  marks_same e = rw e

marks_nil : marks_in [] ≡ 0
unfolding marks_in
marks_nil = refl

-- in two parts
pub marks_parts : (t u : List ℕ) → marks_in (t ++ u) ≡ marks_in t + marks_in u
marks_parts [] u = omega (arith, marks_nil)
marks_parts (x ∷ t) u = go (is_mark x) refl (marks_parts t u)
  where
    go : (b : Bool) → is_mark x ≡ b → marks_in (t ++ u) ≡ marks_in t + marks_in u → marks_in (x ∷ (t ++ u)) ≡ marks_in (x ∷ t) + marks_in u
    go true e ih = omega (arith, marks_more x t e, marks_more x (t ++ u) e, ih)
    go false e ih = omega (arith, marks_same x t e, marks_same x (t ++ u) e, ih)

-- of a loop that has come to i
module _ (t : List ℕ) (i : ℕ) where
  pub marks_on : i < length t → is_mark (get_or t i 0) ≡ true → marks_in (drop i t) ≡ marks_in (drop (i + 1) t) + 1
  marks_on h e = ap marks_in (drop_at t i h) ∙ marks_more (get_or t i 0) (drop (i + 1) t) e ∙ omega arith

  pub marks_over : i < length t → is_mark (get_or t i 0) ≡ false → marks_in (drop i t) ≡ marks_in (drop (i + 1) t)
  marks_over h e = ap marks_in (drop_at t i h) ∙ marks_same (get_or t i 0) (drop (i + 1) t) e

  pub marks_end : length t ≤ i → marks_in (drop i t) ≡ 0
  marks_end h = ap marks_in (drop_of_length-le t h) ∙ marks_nil

-- a separator is a mark
separator_mark : (x : ℕ) → x ≡ 10 → is_mark x ≡ true
separator_mark x e = ap is_mark e

-- and what is no mark is no low line break
no_mark_low : (x : ℕ) → is_mark x ≡ false → is_low x ≡ false
no_mark_low x none = go (leb 0xb x && leb x 0xd) refl
  where
    other : (n : ℕ) → is_mark n ≡ true → x ≡ n → ⊥
    other n is q = true≢false (sym is ∙ ap is_mark (sym q) ∙ none)

    go : (between : Bool) → (leb 0xb x && leb x 0xd) ≡ between → (between || eqb x 0x85) ≡ false
    go false q = ne_eqb x 0x85 (other 0x85 refl)
    go true q =
        let ends = both (leb 0xb x) (leb x 0xd) q in
        absurd (at (ℕ_discrete x 0xb) (ℕ_discrete x 0xc) (leb-true 0xb x ends.0) (leb-true x 0xd ends.1))
      where
        at : Dec (x ≡ 0xb) → Dec (x ≡ 0xc) → 0xb ≤ x → x ≤ 0xd → ⊥
        at (yes s) u l h = other 0xb refl s
        at (no s) (yes u) l h = other 0xc refl u
        at (no s) (no u) l h = other 0xd refl (omega (arith, s, u))

-- no fewer marks than separators
pub rows_marks : (t : List ℕ) → row_count t ≤ marks_in t + 1
rows_marks [] = omega (arith, ap length rows_nil)
rows_marks (x ∷ t) = go (ℕ_discrete x 10) (is_mark x) refl (rows_marks t)
  where
    go : Dec (x ≡ 10) → (b : Bool) → is_mark x ≡ b → row_count t ≤ marks_in t + 1 → row_count (x ∷ t) ≤ marks_in (x ∷ t) + 1
    go (yes e) b q ih = omega (arith, count_cons_nl x t e, marks_more x t (separator_mark x e), ih)
    go (no n) true q ih = omega (arith, count_cons_on x t n, marks_more x t q, ih)
    go (no n) false q ih = omega (arith, count_cons_on x t n, marks_same x t q, ih)

-- where there are as many, no low line break is among them
pub all_separators : (t : List ℕ) → marks_in t + 1 ≡ row_count t → any is_low t ≡ false
unfolding any
all_separators [] e = refl
all_separators (x ∷ t) e = go (ℕ_discrete x 10) (is_mark x) refl (all_separators t)
  where
    go : Dec (x ≡ 10) → (b : Bool) → is_mark x ≡ b → (marks_in t + 1 ≡ row_count t → any is_low t ≡ false) → (is_low x || any is_low t) ≡ false
    go (yes q) b m ih = rw (ap is_low q) (ih (omega (arith, e, count_cons_nl x t q, marks_more x t (separator_mark x q))))
    go (no n) true m ih = absurd (omega (arith, e, count_cons_on x t n, marks_more x t m, rows_marks t))
    go (no n) false m ih = rw (no_mark_low x m) (ih (omega (arith, e, count_cons_on x t n, marks_same x t m)))
