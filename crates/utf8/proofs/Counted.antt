-- Laws of the first pass: the count goes on by a sequence or by a stretch of ASCII, and ends. Assumes nothing.
use Rattle.lists.proofs.Kit.{◌≡◌, refl, ap, sym, subst, ◌∙◌, List, false, ℕ, zero, suc, ◌+◌, ◌-◌, ◌≤◌, ◌<◌, add-zero, zero-add, arith, length, get_or, take, drop}
use Rattle.lists.proofs.Kit.{drop_of_length-le}
use Rattle.lists.specs.Lists.{any}
use Rattle.lists.proofs.Lists.{drop_at}
use Rattle.std.proofs.Common.{Result, Ok, Err}
use Rattle.utf8.specs.declared.BadAt.{BadAt}
use Rattle.utf8.specs.declared.Spot.{Spot}
use Rattle.utf8.specs.Encoding.{is_above}
use Rattle.utf8.specs.Decoding.{Reading, text, bad, onto, reading, reading_from}
use Rattle.utf8.specs.Sequences.{Stepped}
use Rattle.utf8.specs.Calls.{tally, checked}
use Rattle.utf8.specs.Walks.{plus, Counts, Walked}
use Rattle.utf8.proofs.Ascii.{plain_first}
use Rattle.utf8.proofs.Starts.{begins_one}

-- what a step answered, by its case
pub stepped_good : (b : List ℕ) (from : ℕ) (r : Reading) {q : Result (ℕ × ℕ) BadAt} {s : ℕ × ℕ} → Stepped b from r q → q ≡ Ok s →
    (r ≡ onto s.1 (reading_from s.0 (drop s.0 b))) × (from ≤ s.0) × (s.0 ≤ length b)
stepped_good b from r w e = subst (λ (q : Result (ℕ × ℕ) BadAt). Stepped b from r q) e w

pub stepped_bad : (b : List ℕ) (from : ℕ) (r : Reading) {q : Result (ℕ × ℕ) BadAt} {at : BadAt} → Stepped b from r q → q ≡ Err at → r ≡ bad at.place
stepped_bad b from r w e = subst (λ (q : Result (ℕ × ℕ) BadAt). Stepped b from r q) e w

-- and what a walk did
pub walked_on : (b : List ℕ) (until : ℕ) {w : Result Spot BadAt} {s : Spot} → Walked b until w → w ≡ Ok s → Counts b s.at s.count × (until ≤ s.at)
walked_on b until h e = subst (λ (q : Result Spot BadAt). Walked b until q) e h

pub walked_bad : (b : List ℕ) (until : ℕ) {w : Result Spot BadAt} {at : BadAt} → Walked b until w → w ≡ Err at → checked b ≡ Err at
walked_bad b until h e = subst (λ (q : Result Spot BadAt). Walked b until q) e h

-- one code point more
plus_onto : (n x : ℕ) (r : Reading) → plus n (tally (onto x r)) ≡ plus (n + 1) (tally r)
unfolding plus tally onto
plus_onto n x (text t) = ap Ok (omega arith)
plus_onto n x (bad p) = refl

plus_none : (c : Result ℕ BadAt) → c ≡ plus 0 c
unfolding plus
plus_none (Ok n) = ap Ok (sym (zero-add n))
plus_none (Err at) = refl

pub counts_start : (b : List ℕ) → Counts b 0 0
counts_start b = record { within = omega arith; fewer = omega arith; count = plus_none (checked b) }

module _ {b : List ℕ} {at n : ℕ} (w : Counts b at n) where
  pub counts_on : (next x : ℕ) → reading_from at (drop at b) ≡ onto x (reading_from next (drop next b)) → at + 1 ≤ next → next ≤ length b → Counts b next (n + 1)
  counts_on next x e h k =
      record {
        within = k;
        fewer = omega (arith, w.fewer);
        count = w.count ∙ rw e (plus_onto n x (reading_from next (drop next b)));
      }

  pub counts_bad : {place : ℕ} → reading_from at (drop at b) ≡ bad place → checked b ≡ Err (record { place = place })
  unfolding plus tally
  counts_bad e = w.count ∙ rw e

  pub counts_end : length b ≤ at → checked b ≡ Ok n
  unfolding plus tally reading
  counts_end h = w.count ∙ rw (drop_of_length-le b h) (ap Ok (add-zero n))

-- a stretch of ASCII
pub counts_plain : (b : List ℕ) (m at n : ℕ) → Counts b at n → at + m ≤ length b → any is_above (take m (drop at b)) ≡ false → Counts b (at + m) (n + m)
counts_plain b zero at n w h e = rw (add-zero at, add-zero n) w
counts_plain b (suc m) at n w h e =
    let at_below : at < length b = omega arith in
    let by_plain_first = plain_first (get_or b at 0) (take m (drop (at + 1) b)) (rw (drop_at b at at_below) at e) in
    let by_counts_on = counts_on w (at + 1) (get_or b at 0) (begins_one b at at_below by_plain_first.0) (omega arith) (omega arith) in
    let sum_is : at + suc m ≡ at + 1 + m = omega arith in
    let same_sum : n + suc m ≡ n + 1 + m = omega arith in
    rw (sum_is, same_sum) (counts_plain b m (at + 1) (n + 1) by_counts_on (omega arith) by_plain_first.1)

pub counts_to : {b : List ℕ} {at n : ℕ} (until : ℕ) → Counts b at n → at ≤ until → until ≤ length b → any is_above (take (until - at) (drop at b)) ≡ false →
    Counts b until (n + (until - at))
counts_to {b} {at} {n} until w h k e =
    let sum_is : at + (until - at) ≡ until = omega arith in
    subst (λ (i : ℕ). Counts b i (n + (until - at))) sum_is (counts_plain b (until - at) at n w (omega arith) e)
