-- The list of jumps, pair by pair: what its check leaves known. Assumes nothing.
use Rattle.lists.proofs.Kit.{◌≡◌, ap, ◌∙◌, List, [], ◌∷◌, ℕ, ◌+◌, ◌≤◌, ◌<◌, arith, length, get_or, drop, drop_of_length-le, lt-ltb, le-ltb}
use Rattle.lists.proofs.Lists.{drop_at}
use Rattle.jumps.specs.Jumps.{kind_refusal}

module _ (jumps : List ℕ) (i : ℕ) where
  -- the pair at i, and what stands after it
  pub pair_at : i + 1 < length jumps → drop i jumps ≡ get_or jumps i 0 ∷ get_or jumps (i + 1) 0 ∷ drop (i + 2) jumps
  pair_at h =
      let sum_is : i + 1 + 1 ≡ i + 2 = omega arith in
      drop_at jumps i (omega arith) ∙ ap (λ (l : List ℕ). get_or jumps i 0 ∷ l) (drop_at jumps (i + 1) h)
      ∙ ap (λ (n : ℕ). get_or jumps i 0 ∷ get_or jumps (i + 1) 0 ∷ drop n jumps) sum_is

  pub none_left : length jumps ≤ i → drop i jumps ≡ []
  none_left h = drop_of_length-le jumps h

  pub kinds_none : length jumps ≤ i → kind_refusal (drop i jumps) ≡ 0
  unfolding kind_refusal
  kinds_none h = rw (none_left h)

  pub kinds_odd : i + 1 ≡ length jumps → kind_refusal (drop i jumps) ≡ 22
  unfolding kind_refusal
  kinds_odd e = rw (drop_at jumps i (omega (arith, e)), drop_of_length-le jumps {i = i + 1} (omega (arith, e)))

  pub kinds_bad : i + 1 < length jumps → 3 < get_or jumps i 0 → kind_refusal (drop i jumps) ≡ 22
  unfolding kind_refusal
  kinds_bad h k = rw (pair_at h, lt-ltb 3 (get_or jumps i 0) k)

  pub kinds_on : i + 1 < length jumps → get_or jumps i 0 ≤ 3 → kind_refusal (drop i jumps) ≡ kind_refusal (drop (i + 2) jumps)
  unfolding kind_refusal
  kinds_on h k = rw (pair_at h, le-ltb 3 (get_or jumps i 0) k)

-- the loop that checks the kinds stands at i: what is refused of the jumps from there on is what is refused of all
pub record KindsLeft (jumps : List ℕ) (n i : ℕ) : Type 0 where
  pub refusal : kind_refusal jumps ≡ kind_refusal (drop i jumps)
  pub all : n ≡ length jumps
