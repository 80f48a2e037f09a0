-- Laws of the flat form: one token more, the bounds two at a time, and that it holds what the tokens hold. Assumes nothing.
use Rattle.lists.proofs.Kit.{◌≡◌, refl, ap, sym, ◌∙◌, List, [], ◌∷◌, ◌++◌, Bool, true, false, ◌&&◌, ◌||◌, and-false, ℕ, zero, suc, ◌+◌, ◌-◌, ◌≤◌, ◌<◌, add-one}
use Rattle.lists.proofs.Kit.{ℕ_discrete, arith, length, length-append, get_or, take, drop, set, replicate, drop_of_length-le, length-take-le, take-suc}
use Rattle.lists.proofs.Kit.{take-append_seam, eqb, leb, ne_eqb, lt-leb}
use Rattle.letters.specs.Letters.{is_letter}
use Rattle.list_tokens.specs.declared.Token.{Token}
use Rattle.list_tokens.specs.Grammar.{no_token}
use Rattle.lists.specs.Lists.{any}
use Rattle.list_tokens.specs.Tokens.{low_of, high_of, any_token, token_holds}
use Rattle.keywords.specs.Flat.{flat, padded, any_alpha, within, flat_holds}
use Rattle.list_tokens.proofs.Lists.{drop_at_take, fill_push}

flat_snoc : (ts : List Token) (t : Token) → flat (ts ++ (t ∷ [])) ≡ (flat ts ++ (low_of t ∷ [])) ++ (high_of t ∷ [])
unfolding flat
flat_snoc [] t = refl
flat_snoc (u ∷ ts) t = ap (λ (r : List ℕ). low_of u ∷ high_of u ∷ r) (flat_snoc ts t)

pub flat_length : (ts : List Token) → length (flat ts) ≡ length ts + length ts
unfolding flat
flat_length [] = refl
flat_length (t ∷ ts) = omega (arith, flat_length ts)

padded_push : (bs : List ℕ) (n x : ℕ) → length bs ≡ n → n < 256 → set (padded bs) n x ≡ padded (bs ++ (x ∷ []))
padded_push bs n x e h = rw (← e) (fill_push 256 0 bs x (omega arith))

-- the bounds so far, and those of the token at i stored after them
pub flat_push : (ts : List Token) (bs : List ℕ) (i x y : ℕ) → i < length ts → i < 128 → bs ≡ padded (flat (take i ts)) → x ≡ low_of (get_or ts i no_token) →
    y ≡ high_of (get_or ts i no_token) → set (set bs (i + i) x) (i + i + 1) y ≡ padded (flat (take (i + 1) ts))
flat_push ts bs i x y h k e p q =
    let flat_here = flat (take i ts) in
    let value = get_or ts i no_token in
    let size_is : length flat_here ≡ i + i = omega (arith, flat_length (take i ts), length-take-le i ts (omega arith)) in
    let sum_is : length (flat_here ++ (low_of value ∷ [])) ≡ i + i + 1 = omega (arith, length-append flat_here (low_of value ∷ [])) in
    let front_is : take (i + 1) ts ≡ take i ts ++ (value ∷ []) = rw (add-one i) (take-suc ts i no_token h) in
    rw (
      e,
      p,
      q,
      padded_push flat_here (i + i) (low_of value) size_is (omega arith),
      padded_push (flat_here ++ (low_of value ∷ [])) (i + i + 1) (high_of value) sum_is (omega arith),
    ) (ap padded (sym (ap flat front_is ∙ flat_snoc (take i ts) value)))

-- the first bounds of a table are its tokens'
pub flat_front : (ts : List Token) → take (length ts + length ts) (padded (flat ts)) ≡ flat ts
flat_front ts = rw (← flat_length ts) (take-append_seam (flat ts) (replicate (256 - length (flat ts)) 0))

-- the bounds, two at a time
two_at_lem : (bs : List ℕ) (n i : ℕ) → i < n → n + n ≤ length bs →
    drop (i + i) (take (n + n) bs) ≡ get_or bs (i + i) 0 ∷ get_or bs (i + i + 1) 0 ∷ drop (i + 1 + (i + 1)) (take (n + n) bs)
two_at_lem bs n i h l =
    let sum_is : i + i + 1 + 1 ≡ i + 1 + (i + 1) = omega arith in
    rw (drop_at_take bs (n + n) (i + i) 0 (omega arith) l, drop_at_take bs (n + n) (i + i + 1) 0 (omega arith) l, sum_is)

module _ (bs : List ℕ) (n i c : ℕ) where
  pub within_on : i < n → n + n ≤ length bs → within (drop (i + i) (take (n + n) bs)) c ≡
      ((leb (get_or bs (i + i) 0) c && leb c (get_or bs (i + i + 1) 0)) || within (drop (i + 1 + (i + 1)) (take (n + n) bs)) c)
  unfolding within
  within_on h l = rw (two_at_lem bs n i h l)

  pub within_end : n ≤ i → n + n ≤ length bs → within (drop (i + i) (take (n + n) bs)) c ≡ false
  unfolding within
  within_end h l = rw (drop_of_length-le (take (n + n) bs) {i = i + i} (omega (arith, length-take-le (n + n) bs l)))

-- 1 and 0 hold nothing
nothing : (c : ℕ) → (leb 1 c && leb c 0) ≡ false
nothing zero = refl
nothing (suc c) = rw (lt-leb (suc c) 0 (omega arith)) (and-false (leb 1 (suc c)))

swap : (a b w : Bool) → (a || (b || w)) ≡ (b || (a || w))
swap true true w = refl
swap true false w = refl
swap false b w = refl

letter_first : (l a w : Bool) → (l || ((a && l) || w)) ≡ (((true || a) && l) || (false || w))
letter_first true a w = refl
letter_first false true w = refl
letter_first false false w = refl

-- the flat form of tokens holds what they hold
pub flat_same : (ts : List Token) (c : ℕ) → flat_holds (flat ts) (any_alpha ts) c ≡ any_token ts c
unfolding any flat within
flat_same [] c = refl
flat_same (t ∷ ts) c = sym (go (ℕ_discrete t.kind 1) (ℕ_discrete t.kind 2) (sym (flat_same ts c)))
  where
    go : Dec (t.kind ≡ 1) → Dec (t.kind ≡ 2) → any_token ts c ≡ flat_holds (flat ts) (any_alpha ts) c →
        (token_holds t c || any_token ts c) ≡ (((eqb t.kind 1 || any_alpha ts) && is_letter c) || ((leb (low_of t) c && leb c (high_of t)) || within (flat ts) c))
    go (yes e) d v = rw (e, v, nothing c) (letter_first (is_letter c) (any_alpha ts) (within (flat ts) c))
    go (no n) (yes e) v = rw (e, v) (swap (leb t.lo c && leb c t.hi) (any_alpha ts && is_letter c) (within (flat ts) c))
    go (no n) (no m) v = rw (ne_eqb _ _ n, ne_eqb _ _ m, v, nothing c)
