-- What the checks of a call on several byte strings show, and what each way out of it leaves. Assumes nothing.
use Rattle.lists.proofs.Kit.{◌≡◌, sym, ◌∙◌, List, [], ◌∷◌, true, false, ◌&&◌, and-true, ℕ, ◌+◌, ◌-◌, ◌/◌, ◌%◌, add-zero, arith, length, take, drop}
use Rattle.lists.proofs.Kit.{length-take-le, eqb, eq-eqb, ne_eqb}
use Rattle.call_points.specs.Points.{points}
use Rattle.call_bytes.specs.Reply.{Reply, Replied, unfit}
use Rattle.call_bytes.specs.Joined.{whole_all, count_all, unfit_all, FilledThree, AnsweredAll}

-- the check of three, as the code has it
pub unfit_three : (s u v room : List ℕ) →
    unfit (eqb (length s % 4) 0 && (eqb (length u % 4) 0 && eqb (length v % 4) 0)) (length s / 4 + (length u / 4 + length v / 4)) (length room) ≡
    unfit_all (s ∷ u ∷ v ∷ []) room
unfolding whole_all count_all
unfit_three s u v room = rw (and-true (eqb (length v % 4) 0), add-zero (length v / 4))

module _ {s u v room room' : List ℕ} {n : ℕ} (h : FilledThree s u v room n room') where
  -- a call that is refused for what was lent leaves all as it was
  pub joined_unfit : (n ≡ 0 → ⊥) → {m : Reply} {out : List ℕ} → AnsweredAll (s ∷ u ∷ v ∷ []) room out m n room' out
  joined_unfit z =
      let test_is : eqb (unfit_all (s ∷ u ∷ v ∷ []) room) 0 ≡ false = ne_eqb _ 0 (λ q. z (h.numbered ∙ q)) in
      record { numbered = rw test_is h.numbered; room_left = rw test_is (h.kept z); out_left = rw test_is }

  -- the first code points stand at the start of the room
  pub first_length : n ≡ 0 → length s / 4 ≡ length (take (length s / 4) room')
  first_length z = sym (length-take-le (length s / 4) room' (omega (arith, (h.fit z).within)))

  -- the answer of a call f on bytes, from its reply on what stands in the room
  pub joined_three : (f : List ℕ → List ℕ → List ℕ → Reply) → n ≡ 0 → {out out' : List ℕ} {r : ℕ} (a b : ℕ) →
      a ≡ length s / 4 + length u / 4 → b ≡ a + length v / 4 →
      Replied (f (take (length s / 4) room') (take (a - length s / 4) (drop (length s / 4) room')) (take (b - a) (drop a room'))) out r out' →
      AnsweredAll (s ∷ u ∷ v ∷ []) room out (f (points s) (points u) (points v)) r room' out'
  joined_three f z {out} {out'} {r} a b ea eb p =
      let by_fit = h.fit z in
      let difference_is : a - length s / 4 ≡ length u / 4 = omega arith in
      let quotient_is : b - a ≡ length v / 4 = omega arith in
      let replied : Replied (f (points s) (points u) (points v)) out r out' = rw (
        difference_is,
        quotient_is,
        ea,
        by_fit.first,
        by_fit.second,
        by_fit.third,
      ) at p in
      let test_is : eqb (unfit_all (s ∷ u ∷ v ∷ []) room) 0 ≡ true = eq-eqb _ 0 (sym h.numbered ∙ z) in
      record { numbered = rw test_is replied.numbered; room_left = rw test_is by_fit.room_left; out_left = rw test_is replied.out_left }
