-- The blanks that a row begins with, read from the front, and the characters up to its last that is no white space, read from the back.
-- Assumes nothing.
use Rattle.lists.proofs.Kit.{◌≡◌, refl, ap, sym, ◌∙◌, List, [], ◌∷◌, ◌++◌, Bool, true, false, cond, ℕ, suc, ◌+◌, ◌-◌, ◌≤◌, ◌<◌, add-one, arith, length, get_or}
use Rattle.lists.proofs.Kit.{take, drop, drop_of_length-le, take-suc, take-length, length-take-le, eqb, ne_eqb}
use Rattle.chars.specs.White.{is_white}
use Rattle.lists.proofs.Lists.{drop_at}
use Rattle.margins.specs.Margins.{is_blank, indent_of, solid_of}

module _ (row : List ℕ) (i : ℕ) where
  pub indent_on : i < length row → is_blank (get_or row i 0) ≡ true → indent_of (drop i row) ≡ indent_of (drop (i + 1) row) + 1
  unfolding indent_of
  indent_on h e = rw (drop_at row i h, e) (sym (add-one _))

  pub indent_stop : i < length row → is_blank (get_or row i 0) ≡ false → indent_of (drop i row) ≡ 0
  unfolding indent_of
  indent_stop h e = rw (drop_at row i h, e)

  pub indent_end : length row ≤ i → indent_of (drop i row) ≡ 0
  unfolding indent_of
  indent_end h = rw (drop_of_length-le row h)

-- one character more at the end
solid_snoc : (row : List ℕ) (x : ℕ) → solid_of (row ++ (x ∷ [])) ≡ cond (is_white x) (solid_of row) (length row + 1)
unfolding solid_of
solid_snoc [] x = refl
solid_snoc (y ∷ row) x = go (is_white x) (solid_snoc row x)
  where
    go : (b : Bool) → solid_of (row ++ (x ∷ [])) ≡ cond b (solid_of row) (length row + 1) →
        solid_of (y ∷ (row ++ (x ∷ []))) ≡ cond b (solid_of (y ∷ row)) (suc (length row) + 1)
    go true ih = rw ih
    go false ih = rw (ih, ne_eqb (length row + 1) 0 (omega arith)) (omega arith)

pub solid_le : (row : List ℕ) → solid_of row ≤ length row
unfolding solid_of
solid_le [] = omega arith
solid_le (x ∷ row) = go (eqb (solid_of row) 0) (is_white x) (solid_le row)
  where
    go : (a b : Bool) → solid_of row ≤ length row → cond a (cond b 0 1) (suc (solid_of row)) ≤ suc (length row)
    go true true h = omega arith
    go true false h = omega arith
    go false b h = omega arith

module _ (row : List ℕ) (n : ℕ) (p : 0 < n) (h : n ≤ length row) where
  solid_last : solid_of (take n row) ≡ cond (is_white (get_or row (n - 1) 0)) (solid_of (take (n - 1) row)) n
  solid_last =
      let one : suc (n - 1) ≡ n = omega arith in
      let long : length (take (n - 1) row) + 1 ≡ n = omega (arith, length-take-le (n - 1) row (omega arith)) in
      rw one at (ap solid_of (take-suc row (n - 1) 0 (omega arith))) ∙ solid_snoc (take (n - 1) row) (get_or row (n - 1) 0) ∙ rw long

-- from n on all is white space
pub record SolidTo (row : List ℕ) (n : ℕ) : Type 0 where
  pub inside : n ≤ length row
  pub same : solid_of row ≡ solid_of (take n row)

pub solid_start : (row : List ℕ) → SolidTo row (length row)
solid_start row = record { inside = omega arith; same = ap solid_of (sym (take-length row)) }

module _ {row : List ℕ} {n : ℕ} (so_far : SolidTo row n) where
  pub solid_on : 0 < n → is_white (get_or row (n - 1) 0) ≡ true → SolidTo row (n - 1)
  solid_on p e = record { inside = omega (arith, so_far.inside); same = so_far.same ∙ solid_last row n p so_far.inside ∙ rw e }

  pub solid_stop : 0 < n → is_white (get_or row (n - 1) 0) ≡ false → n ≡ solid_of row
  solid_stop p e = sym (so_far.same ∙ solid_last row n p so_far.inside ∙ rw e)

  pub solid_end : n ≤ 0 → 0 ≡ solid_of row
  unfolding solid_of
  solid_end h = let none : n ≡ 0 = omega arith in sym (so_far.same ∙ rw none)
