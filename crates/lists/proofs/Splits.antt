-- The parts of a list between the separators x, one after the other from an index on. Assumes nothing.
use Rattle.lists.proofs.Kit.{◌≡◌, refl, ap, ◌∙◌, List, [], ◌∷◌, Bool, true, false, cond, ℕ, suc, ◌+◌, ◌≤◌, ◌<◌, dec_lt, arith, length, take, drop}
use Rattle.lists.proofs.Kit.{drop_of_length-le, length-drop, drop-drop, eqb, leb, le-leb, lt-leb}
use Rattle.lists.specs.Lists.{up_to, on_first, split}
use Rattle.lists.proofs.Lists.{drop_at}
use Rattle.lists.proofs.Finding.{up_to_most}

-- the parts after a separator, if there is one
after : ℕ → List ℕ → List (List ℕ)
after x [] = []
after x (y ∷ l) = split x l

split_first : (x : ℕ) (l : List ℕ) → split x l ≡ take (up_to x l) l ∷ after x (drop (up_to x l) l)
unfolding split on_first up_to after
split_first x [] = refl
split_first x (y ∷ l) = go (eqb y x) (split_first x l)
  where
    go : (b : Bool) → split x l ≡ take (up_to x l) l ∷ after x (drop (up_to x l) l) →
        cond b ([] ∷ split x l) (on_first y (split x l)) ≡ take (cond b 0 (suc (up_to x l))) (y ∷ l) ∷ after x (drop (cond b 0 (suc (up_to x l))) (y ∷ l))
    go true h = refl
    go false h = ap (on_first y) h

-- the parts from an index on; past the end there are none
unfoldable pub split_from : ℕ → List ℕ → ℕ → List (List ℕ)
split_from x l i = cond (leb i (length l)) (split x (drop i l)) []

pub split_from_start : (x : ℕ) (l : List ℕ) → split_from x l 0 ≡ split x l
unfolding split_from
split_from_start x l = rw (le-leb 0 (length l) (omega arith))

pub split_from_end : (x : ℕ) (l : List ℕ) (i : ℕ) → length l < i → split_from x l i ≡ []
unfolding split_from
split_from_end x l i h = rw (lt-leb _ _ h)

after_at : (x : ℕ) (l : List ℕ) (e : ℕ) → after x (drop e l) ≡ split_from x l (e + 1)
unfolding split_from after
after_at x l e = go (dec_lt e (length l))
  where
    go : Dec (e < length l) → after x (drop e l) ≡ cond (leb (e + 1) (length l)) (split x (drop (e + 1) l)) []
    go (yes h) = rw (drop_at l e h, le-leb (e + 1) (length l) (omega arith))
    go (no n) = rw (drop_of_length-le l {i = e} (omega arith), lt-leb (e + 1) (length l) (omega arith))

module _ (x : ℕ) (l : List ℕ) (i : ℕ) (h : i ≤ length l) where
  -- the first of them ends at the next separator
  pub split_from_step : split_from x l i ≡ take (up_to x (drop i l)) (drop i l) ∷ split_from x l (i + up_to x (drop i l) + 1)
  unfolding split_from
  split_from_step = rw (le-leb i (length l) h) (split_first x (drop i l) ∙ ap (λ (ps : List (List ℕ)). take (up_to x (drop i l)) (drop i l) ∷ ps)
      (ap (after x) (drop-drop (up_to x (drop i l)) i l) ∙ after_at x l (i + up_to x (drop i l))))

  pub next_most : i + up_to x (drop i l) ≤ length l
  next_most = omega (arith, up_to_most x (drop i l), length-drop i l)
