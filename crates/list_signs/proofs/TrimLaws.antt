-- Trimming a part: once is enough, what has no white space stays, and white space around what is trimmed goes again. Assumes nothing.
use Rattle.lists.proofs.Kit.{◌≡◌, refl, ap, sym, ◌∙◌, List, [], ◌∷◌, ◌++◌, Bool, true, false, cond, not, ℕ, suc, ◌≤◌, arith, length, drop, not-true}
use Rattle.lists.proofs.Both.{both}
use Rattle.chars.specs.White.{is_white}
use Rattle.list_parts.specs.Parts.{trim_start, keep_last, trim_end, trim}
use Rattle.list_signs.proofs.WhiteLaws.{all_white, no_white, split_end, end_white, start_skip, start_all, end_skip}

pub start_none : (p : List ℕ) → no_white p ≡ true → trim_start p ≡ p
unfolding trim_start no_white
start_none [] h = refl
start_none (x ∷ p) h = rw (not-true (is_white x) (both (not (is_white x)) (no_white p) h).0)

keep_other : (x : ℕ) (q : List ℕ) → is_white x ≡ false → keep_last x q ≡ x ∷ q
keep_other x [] e = rw e
keep_other x (y ∷ q) e = refl

end_none : (p : List ℕ) → no_white p ≡ true → trim_end p ≡ p
unfolding trim_end no_white
end_none [] h = refl
end_none (x ∷ p) h =
    let by_both = both (not (is_white x)) (no_white p) h in
    ap (keep_last x) (end_none p by_both.1) ∙ keep_other x p (not-true (is_white x) by_both.0)

-- what has no white space in it is trimmed
pub trim_none : (p : List ℕ) → no_white p ≡ true → trim p ≡ p
trim_none p h = ap trim_end (start_none p h) ∙ end_none p h

start_least : (p : List ℕ) → length (trim_start p) ≤ length p
unfolding trim_start
start_least [] = omega arith
start_least (x ∷ p) = go (is_white x) (start_least p)
  where
    go : (b : Bool) → length (trim_start p) ≤ length p → length (cond b (trim_start p) (x ∷ p)) ≤ suc (length p)
    go true h = omega arith
    go false h = omega arith

pub start_twice : (p : List ℕ) → trim_start (trim_start p) ≡ trim_start p
unfolding trim_start
start_twice [] = refl
start_twice (x ∷ p) = go (is_white x) refl (start_twice p)
  where
    go : (b : Bool) → is_white x ≡ b → trim_start (trim_start p) ≡ trim_start p → trim_start (cond b (trim_start p) (x ∷ p)) ≡ cond b (trim_start p) (x ∷ p)
    go true e h = h
    go false e h = rw e

-- a part that begins with no white space: with some behind it
start_front : (q w : List ℕ) → trim_start q ≡ q → all_white w ≡ true → trim (q ++ w) ≡ trim_end q
unfolding trim_start trim_end
start_front [] w s h = ap trim_end (start_all w h)
start_front (x ∷ q) w s h = go (is_white x) refl
  where
    go : (b : Bool) → is_white x ≡ b → trim (x ∷ (q ++ w)) ≡ trim_end (x ∷ q)
    go true e = let trim_start_is : trim_start q ≡ x ∷ q = rw e at s in absurd (omega (arith, start_least q, ap length trim_start_is))
    go false e = rw e (end_skip (x ∷ q) w h)

start_of_end : (q : List ℕ) → trim_start q ≡ q → trim_start (trim_end q) ≡ trim_end q
unfolding trim_start trim_end
start_of_end [] s = refl
start_of_end (x ∷ q) s = go (is_white x) refl
  where
    go : (b : Bool) → is_white x ≡ b → trim_start (trim_end (x ∷ q)) ≡ trim_end (x ∷ q)
    go true e = let trim_start_is : trim_start q ≡ x ∷ q = rw e at s in absurd (omega (arith, start_least q, ap length trim_start_is))
    go false e = ap trim_start (keep_other x (trim_end q) e) ∙ rw e (sym (keep_other x (trim_end q) e))

-- trimming once is enough
pub trim_twice : (p : List ℕ) → trim (trim p) ≡ trim p
trim_twice p =
    let trim_start_lem = trim_start p in
    ap trim_end (start_of_end trim_start_lem (start_twice p))
    ∙ sym (end_skip (trim_end trim_start_lem) (drop (length (trim_end trim_start_lem)) trim_start_lem) (end_white trim_start_lem)) ∙ ap trim_end (split_end trim_start_lem)

-- what is trimmed, with white space around it
pub trim_around : (w t v : List ℕ) → all_white w ≡ true → all_white v ≡ true → trim t ≡ t → trim_start t ≡ t → trim (w ++ (t ++ v)) ≡ t
trim_around w t v a b e s = ap trim_end (start_skip w (t ++ v) a) ∙ start_front t v s b ∙ ap trim_end (sym s) ∙ e

pub start_of_trim : (p : List ℕ) → trim_start (trim p) ≡ trim p
start_of_trim p = start_of_end (trim_start p) (start_twice p)
