-- Laws of an input as UTF-8: what the check tells, and the text that is read. Assumes nothing.
use Rattle.lists.proofs.Kit.{◌≡◌, refl, ap, sym, ◌∙◌, List, [], ◌++◌, Bool, true, false, cond, ℕ, ◌-◌, ◌≤◌, arith, length, take, drop, length-append, Some, None}
use Rattle.lists.proofs.Kit.{length-drop, drop_of_length-le, take_all, take_at, length-take-le, leb, leb-true, leb-false}
use Rattle.std.proofs.Common.{Result, Ok, Err}
use Rattle.std.specs.Result.{is_err, result_ok, result_unwrap_or}
use Rattle.utf8.specs.declared.BadAt.{BadAt}
use Rattle.utf8.specs.declared.DecodeError.{DecodeError}
use Rattle.utf8.specs.declared.DecodeError.TheVariants.{Bad, NoRoom}
use Rattle.utf8.specs.Decoding.{Reading, text, bad, decoding, reading}
use Rattle.utf8.specs.Calls.{tally, checked, decoded, decoded_in}
use Rattle.utf8.specs.Walks.{text_of, points_of}
use Rattle.utf8.proofs.Sizes.{text_most}
use Rattle.session_input.specs.Parts.{is_bad, TextIn}

-- what the check tells
tally_tells : (r : Reading) → is_err (tally r) ≡ is_bad r
unfolding tally is_bad
tally_tells (text t) = refl
tally_tells (bad p) = refl

-- by what it answered
pub check_tells : (input : List ℕ) {r : Result ℕ BadAt} → r ≡ checked input → is_err r ≡ is_bad (decoding input)
check_tells input e = rw e (tally_tells (decoding input))

-- and by its count alone
pub check_good : (input : List ℕ) {r : Result ℕ BadAt} → r ≡ checked input → {n : ℕ} → result_ok r ≡ Some n → is_bad (decoding input) ≡ false
check_good input {r} e k = sym (check_tells input e) ∙ go r k
  where
    go : (q : Result ℕ BadAt) {n : ℕ} → result_ok q ≡ Some n → is_err q ≡ false
    go (Ok m) k = refl
    go (Err at) k = let never : ◌≡◌ {A = ℕ} 0 1 = cc in absurd (omega arith)

pub check_bad : (input : List ℕ) {r : Result ℕ BadAt} → r ≡ checked input → result_ok r ≡ None → is_bad (decoding input) ≡ true
check_bad input {r} e k = sym (check_tells input e) ∙ go r k
  where
    go : (q : Result ℕ BadAt) → result_ok q ≡ None → is_err q ≡ true
    go (Ok m) k = let never : ◌≡◌ {A = ℕ} 0 1 = cc in absurd (omega arith)
    go (Err at) k = refl

-- an input that ends before the text begins
pub text_none : (input : List ℕ) (from : ℕ) (room : List ℕ) → length input ≤ from → TextIn input from 0 room
unfolding text_of reading
text_none input from room h = record { front = rw (drop_of_length-le input h); within = omega arith; counts = refl }

-- by the answers of the decoder; d is what stands from the index on
module _ (d room : List ℕ) where
  decoded_cases : (r : Reading) → decoding d ≡ r → {n : ℕ} → Ok n ≡ decoded r (length room) → (room' : List ℕ) → room' ≡ decoded_in r room →
      (take n room' ≡ text_of r) × (n ≤ length room')
  unfolding decoded decoded_in text_of
  decoded_cases (text t) e {n} q room' left = go (leb (length t) (length room)) refl q left
    where
      go : (b : Bool) → leb (length t) (length room) ≡ b → Ok n ≡ cond b (Ok (length t)) (Err NoRoom) →
          room' ≡ cond b (t ++ drop (length t) room) room → (take n room' ≡ t) × (n ≤ length room')
      go true p f l =
          let size_is : length t ≡ n = cc in
          let fits = leb-true (length t) (length room) p in
          let front = ap (take n) l ∙ take_at t (drop (length t) room) n size_is in
          (front, omega (arith, ap length l, length-append t (drop (length t) room)))
      go false p f l = let never : ◌≡◌ {A = ℕ} 0 1 = cc in absurd (omega arith)
  decoded_cases (bad p) e q room' left = let never : ◌≡◌ {A = ℕ} 0 1 = cc in absurd (omega arith)

  bad_none : (r : Reading) (at : BadAt) → Err (Bad at) ≡ decoded r (length room) → text_of r ≡ []
  unfolding decoded text_of
  bad_none (text t) at e = go (leb (length t) (length room)) e
    where
      go : (b : Bool) → Err (Bad at) ≡ cond b (Ok (length t)) (Err NoRoom) → t ≡ []
      go true f = let never : ◌≡◌ {A = ℕ} 0 1 = cc in absurd (omega arith)
      go false f = let never : ◌≡◌ {A = ℕ} 0 1 = cc in absurd (omega arith)
  bad_none (bad q) at e = refl

  short_never : (r : Reading) → decoding d ≡ r → Err NoRoom ≡ decoded r (length room) → length d ≤ length room → ⊥
  unfolding decoded
  short_never (text t) e q h = go (leb (length t) (length room)) refl q
    where
      go : (b : Bool) → leb (length t) (length room) ≡ b → Err NoRoom ≡ cond b (Ok (length t)) (Err NoRoom) → ⊥
      go true p g = let never : ◌≡◌ {A = ℕ} 0 1 = cc in omega arith
      go false p g = omega (arith, leb-false (length t) (length room) p, text_most d t e)
  short_never (bad p) e q h = let never : ◌≡◌ {A = ℕ} 0 1 = cc in omega arith

-- the same of the part that the code lends
module _ (input : List ℕ) (from : ℕ) (room room' : List ℕ) (h : length input ≤ length room) where
  abbrev part : List ℕ
  part = take (length input - from) (drop from input)

  part_is : part ≡ drop from input
  part_is = take_all (length input - from) (drop from input) (omega (arith, length-drop from input))

  text_good : {n : ℕ} → Ok n ≡ decoded (decoding part) (length room) → room' ≡ decoded_in (decoding part) room → TextIn input from n room'
  text_good {n} e left =
      let by_decoded_cases = decoded_cases part room (decoding part) refl e room' left in
      record { front = by_decoded_cases.0 ∙ ap points_of part_is; within = by_decoded_cases.1; counts = sym (length-take-le n room' by_decoded_cases.1) }

  text_bad : {at : BadAt} → Err (Bad at) ≡ decoded (decoding part) (length room) → TextIn input from 0 room'
  text_bad {at} e = record { front = sym (bad_none part room (decoding part) at e) ∙ ap points_of part_is; within = omega arith; counts = refl }

  text_short : Err NoRoom ≡ decoded (decoding part) (length room) → ⊥
  text_short e = short_never part room (decoding part) refl e (omega (arith, ap length part_is, length-drop from input))

  -- by the answer of the decoder
  pub text_read : (q : Result ℕ DecodeError) → q ≡ decoded (decoding part) (length room) → room' ≡ decoded_in (decoding part) room →
      TextIn input from (result_unwrap_or q 0) room'
  text_read (Ok n) e left = text_good e left
  text_read (Err (Bad at)) e left = text_bad e
  text_read (Err NoRoom) e left = absurd (text_short e)
