-- Laws of marks by their places: those that the code sets in a part are those of `part_signs`. Assumes nothing.
use Rattle.lists.proofs.Kit.{◌≡◌, refl, ap, sym, ◌∙◌, List, [], ◌∷◌, ◌++◌, Bool, true, false, cond, ◌&&◌, and-true, and-false, true≢false, ℕ, suc, ◌+◌, ◌<◌}
use Rattle.lists.proofs.Kit.{add-zero, dec_lt, arith, length, get_or, take, drop, set, replicate, length-append, length-replicate, length-drop, length-set}
use Rattle.lists.proofs.Kit.{replicate-append-replicate, length-take-le, get_or-take, get_or-drop, set-append_left, eqb}
use Rattle.lists.proofs.Both.{both}
use Rattle.lists.specs.Lists.{up_to}
use Rattle.list_parts.specs.Numbers.{number_of}
use Rattle.list_tokens.specs.Grammar.{is_token, range_of}
use Rattle.list_signs.specs.Signs.{none, leading, is_value, kept_signs}
use Rattle.list_signs.specs.Marks.{leads, seconds, marked}
use Rattle.list_signs.proofs.RangeLaws.{no_range, both_range}

pub length_marked : (b : Bool) (k : ℕ) (ms : List Bool) → length (marked b k ms) ≡ length ms
length_marked true k ms = length-set ms k true
length_marked false k ms = refl

-- a mark in the second of two lists, and in the first
marked_right : (b : Bool) (a r : List Bool) (k : ℕ) → marked b (length a + k) (a ++ r) ≡ a ++ marked b k r
marked_right false a r k = refl
marked_right true [] r k = let zero_plus_k : 0 + k ≡ k = omega arith in rw zero_plus_k
marked_right true (x ∷ a) r k =
    let sum_is : suc (length a) + k ≡ suc (length a + k) = omega arith in
    rw sum_is (ap (λ (q : List Bool). x ∷ q) (marked_right true a r k))

pub marked_past : (b : Bool) (a r : List Bool) (d k : ℕ) → length a ≡ d → marked b (d + k) (a ++ r) ≡ a ++ marked b k r
marked_past b a r d k e = ap (λ (n : ℕ). marked b (n + k) (a ++ r)) (sym e) ∙ marked_right b a r k

pub marked_left : (b : Bool) (a r : List Bool) (k : ℕ) → (b ≡ true → k < length a) → marked b k (a ++ r) ≡ marked b k a ++ r
marked_left false a r k h = refl
marked_left true a r k h = set-append_left a r k true (h refl)

-- only where it is made does the place of a mark matter
pub marked_at : (b : Bool) (k m : ℕ) (ms : List Bool) → (b ≡ true → k ≡ m) → marked b k ms ≡ marked b m ms
marked_at false k m ms h = refl
marked_at true k m ms h = ap (λ (n : ℕ). set ms n true) (h refl)

leading_marked : (p : List ℕ) → leading p ≡ marked (eqb (get_or p 0 0) 43) 0 (none p)
leading_marked [] = refl
leading_marked (x ∷ p) = go (eqb x 43)
  where
    go : (b : Bool) → b ∷ none p ≡ cond b (true ∷ none p) (false ∷ none p)
    go true = refl
    go false = refl

pub none_append : (p q : List ℕ) → none (p ++ q) ≡ none p ++ none q
none_append p q = ap (λ (n : ℕ). replicate n false) (length-append p q) ∙ sym (replicate-append-replicate (length p) (length q) false)

range_value : (p : List ℕ) → is_value (number_of p) ≡ true → 0 < length p
range_value [] e = absurd (true≢false (sym e))
range_value (x ∷ p) e = omega arith

-- of a range: where its `-` stands
pub range_inside : (p : List ℕ) → is_token (range_of p) ≡ true → (0 < up_to 45 p) × (up_to 45 p < length p)
range_inside p e = go (dec_lt (up_to 45 p) (length p))
  where
    at : up_to 45 p ≡ 0 + up_to 45 (drop 0 p)
    at = omega arith

    go : Dec (up_to 45 p < length p) → (0 < up_to 45 p) × (up_to 45 p < length p)
    go (no n) = absurd (true≢false (sym e ∙ no_range p (up_to 45 p) at (omega arith)))
    go (yes h) =
        let first = (both _ _ (sym (both_range p (up_to 45 p) at h) ∙ e)).0 in
        let some = range_value (take (up_to 45 p) p) first in
        (omega (arith, some, length-take-le (up_to 45 p) p (omega arith)), h)

-- the signs of a range, and those of any other part
kept_range : (p : List ℕ) → is_token (range_of p) ≡ true → marked (seconds p) (up_to 45 p + 1) (marked (leads p) 0 (none p)) ≡ kept_signs p
kept_range p e =
    let up_to_lem = up_to 45 p in
    let by_range_inside = range_inside p e in
    let front = take up_to_lem p in
    let rest = drop (up_to_lem + 1) p in
    let test = eqb (get_or p 0 0) 43 in
    let next_test = eqb (get_or p (up_to_lem + 1) 0) 43 in
    let size_is : length front ≡ up_to_lem = length-take-le up_to_lem p (omega (arith, by_range_inside.1)) in
    let sum_is : length p ≡ length front + suc (length rest) = omega (arith, size_is, by_range_inside.1, length-drop (up_to_lem + 1) p) in
    let parts : none p ≡ none front ++ (false ∷ none rest) =
    ap (λ (k : ℕ). replicate k false) sum_is ∙ sym (replicate-append-replicate (length front) (suc (length rest)) false) in
    let first : leading front ≡ marked test 0 (none front) = rw (leading_marked front, get_or-take up_to_lem p 0 0 by_range_inside.0) in
    let next : get_or rest 0 0 ≡ get_or p (up_to_lem + 1) 0 = get_or-drop (up_to_lem + 1) p 0 0 ∙ ap (λ (k : ℕ). get_or p k 0) (add-zero (up_to_lem + 1)) in
    let second : leading rest ≡ marked next_test 0 (none rest) = rw (leading_marked rest, next) in
    let size : length (marked test 0 (none front)) ≡ up_to_lem = length_marked test 0 (none front) ∙ length-replicate (length front) false ∙ size_is in
    rw (e, and-true test, and-true next_test, parts, first, second) (ap (marked next_test (up_to_lem + 1))
    (marked_left test (none front) (false ∷ none rest) 0 (λ _. omega (arith, by_range_inside.0, size_is, length-replicate (length front) false)))
    ∙ marked_past next_test (marked test 0 (none front)) (false ∷ none rest) up_to_lem 1 size
    ∙ ap (λ (r : List Bool). marked test 0 (none front) ++ r) (marked_right next_test (false ∷ []) (none rest) 0))

kept_other : (p : List ℕ) → is_token (range_of p) ≡ false → marked (seconds p) (up_to 45 p + 1) (marked (leads p) 0 (none p)) ≡ kept_signs p
kept_other p e = rw (e, and-false) (go (is_value (number_of p)))
  where
    go : (v : Bool) → marked (eqb (get_or p 0 0) 43 && v) 0 (none p) ≡ cond v (leading p) (none p)
    go true = rw and-true (sym (leading_marked p))
    go false = rw and-false

pub kept_signs_lem : (p : List ℕ) → marked (seconds p) (up_to 45 p + 1) (marked (leads p) 0 (none p)) ≡ kept_signs p
kept_signs_lem p = go (is_token (range_of p)) refl
  where
    go : (b : Bool) → is_token (range_of p) ≡ b → marked (seconds p) (up_to 45 p + 1) (marked (leads p) 0 (none p)) ≡ kept_signs p
    go true e = kept_range p e
    go false e = kept_other p e

-- a mark for each code point
pub kept_length : (p : List ℕ) → length (kept_signs p) ≡ length p
kept_length p = ap length (sym (kept_signs_lem p)) ∙ length_marked (seconds p) (up_to 45 p + 1) (marked (leads p) 0 (none p)) ∙ length_marked (leads p) 0 (none p)
    ∙ length-replicate (length p) false
