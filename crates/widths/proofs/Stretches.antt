-- Numbers in stretches, each of one kind: `b ∷ k ∷ ..`, from b on up to the next the kind k. The bounds of the stretches whose kind has p are a
-- table of the numbers whose kind has it. So that two tables made so from one list of stretches agree is a fact about a few kinds. Assumes nothing.
use Rattle.lists.proofs.Kit.{◌≡◌, refl, ap, ◌∙◌, List, [], ◌∷◌, Bool, true, false, not, cond, ◌&&◌, ℕ, ◌≤◌, ◌<◌, dec_lt, arith, T, leb, ltb, ltb→lt, le-leb}
use Rattle.lists.proofs.Kit.{lt-leb, lt-ltb}
use Rattle.ranges.specs.Ranges.{in_table, ascending}
use Rattle.ranges.proofs.Ascending.{and_left, and_right}
use Rattle.widths.proofs.Flips.{not_not, flips, flips_in}

-- the kind of x, k before the first stretch
unfoldable pub kind_from : ℕ → List ℕ → ℕ → ℕ
kind_from k [] x = k
kind_from k (b ∷ []) x = k
kind_from k (b ∷ c ∷ rest) x = cond (leb b x) (kind_from c rest x) k

-- the bounds of the stretches with p, where `inside` says whether the number before them has it
unfoldable pub bounds_of : (ℕ → Bool) → Bool → List ℕ → List ℕ
bounds_of p inside [] = []
bounds_of p inside (b ∷ []) = []
bounds_of p inside (b ∷ c ∷ rest) =
    let later = bounds_of p (p c) rest in
    cond inside (cond (p c) later (b ∷ later)) (cond (p c) (b ∷ later) later)

-- the first numbers of the stretches ascend from b
unfoldable pub climbing : ℕ → List ℕ → Bool
climbing b [] = true
climbing b (a ∷ []) = true
climbing b (a ∷ c ∷ rest) = ltb b a && climbing a rest

-- `q` turned round where `inside` holds
abbrev turned : Bool → Bool → Bool
turned inside q = cond inside (not q) q

module _ (p : ℕ → Bool) (x : ℕ) where
  -- one stretch more, whose first number is above x
  below_one : (a : ℕ) (l : List ℕ) → x < a → flips x l ≡ false → (i q : Bool) → flips x (cond i (cond q l (a ∷ l)) (cond q (a ∷ l) l)) ≡ false
  unfolding flips
  below_one a l h e true true = e
  below_one a l h e true false = rw (lt-leb a x h) e
  below_one a l h e false true = rw (lt-leb a x h) e
  below_one a l h e false false = e

  -- x is before the stretches
  bounds_below : (b : ℕ) (st : List ℕ) (inside : Bool) → T (climbing b st) → x ≤ b → flips x (bounds_of p inside st) ≡ false
  unfolding flips bounds_of climbing
  bounds_below b [] inside t h = refl
  bounds_below b (a ∷ []) inside t h = refl
  bounds_below b (a ∷ c ∷ rest) inside t h =
      let up = ltb→lt b a (and_left (ltb b a) (climbing a rest) t) in
      below_one a (bounds_of p (p c) rest) (omega arith) (bounds_below a rest (p c) (and_right (ltb b a) (climbing a rest) t) (omega arith)) inside (p c)

  -- one stretch more, which begins at x or before: what it begins is turned round
  turned_one : (a : ℕ) (l : List ℕ) → a ≤ x → (i q : Bool) → turned i (flips x (cond i (cond q l (a ∷ l)) (cond q (a ∷ l) l))) ≡ turned q (flips x l)
  unfolding flips
  turned_one a l h true true = refl
  turned_one a l h true false = rw (le-leb a x h) (not_not (flips x l))
  turned_one a l h false true = rw (le-leb a x h)
  turned_one a l h false false = refl

  turned_none : (i : Bool) → turned i false ≡ i
  turned_none true = refl
  turned_none false = refl

  kind_step : (b k a c : ℕ) (rest : List ℕ) → T (climbing b (a ∷ c ∷ rest)) → turned (p c) (flips x (bounds_of p (p c) rest)) ≡ p (kind_from c rest x) →
      turned (p k) (flips x (bounds_of p (p k) (a ∷ c ∷ rest))) ≡ p (kind_from k (a ∷ c ∷ rest) x)
  unfolding kind_from bounds_of climbing
  kind_step b k a c rest t later = go (dec_lt x a)
    where
      on : T (climbing a rest)
      on = and_right (ltb b a) (climbing a rest) t

      go : Dec (x < a) → turned (p k) (flips x (bounds_of p (p k) (a ∷ c ∷ rest))) ≡ p (cond (leb a x) (kind_from c rest x) k)
      go (yes h) = rw (lt-leb a x h) (ap (turned (p k)) (bounds_below x (a ∷ c ∷ rest) (p k) (rw (lt-ltb x a h) on) (omega arith)) ∙ turned_none (p k))
      go (no h) = rw (le-leb a x (omega arith)) (turned_one a (bounds_of p (p c) rest) (omega arith) (p k) (p c) ∙ later)

  kind_turned : (b k : ℕ) (st : List ℕ) → T (climbing b st) → turned (p k) (flips x (bounds_of p (p k) st)) ≡ p (kind_from k st x)
  unfolding kind_from bounds_of climbing flips
  kind_turned b k [] t = turned_none (p k)
  kind_turned b k (a ∷ []) t = turned_none (p k)
  kind_turned b k (a ∷ c ∷ rest) t = kind_step b k a c rest t (kind_turned a c rest (and_right (ltb b a) (climbing a rest) t))

  -- a table that is the bounds of the stretches with p, of which the first is from 0 on
  pub in_stretches : (table : List ℕ) (k c : ℕ) (st : List ℕ) → T (ascending table) → T (climbing 0 st) → table ≡ bounds_of p false (0 ∷ c ∷ st) →
      in_table x table ≡ p (kind_from k (0 ∷ c ∷ st) x)
  unfolding kind_from bounds_of
  in_stretches table k c st t climb e = flips_in x table t ∙ ap (flips x) e ∙
      rw (le-leb 0 x (omega arith)) (turned_one 0 (bounds_of p (p c) st) (omega arith) false (p c) ∙ kind_turned 0 c st climb)
