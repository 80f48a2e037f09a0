-- A call on two byte strings: one on three, the last of them empty. Assumes nothing.
use Rattle.lists.proofs.Kit.{◌≡◌, List, [], ◌∷◌, ℕ, ◌+◌, ◌-◌, ◌/◌, arith, length, take, drop}
use Rattle.call_points.specs.Points.{points, filled_all}
use Rattle.call_bytes.specs.Reply.{Reply, Replied}
use Rattle.call_bytes.specs.Joined.{whole_all, count_all, FilledThree, AnsweredAll}
use Rattle.call_bytes.proofs.Joins.{joined_unfit, joined_three}

module _ {s u room room' : List ℕ} {n : ℕ} (h : FilledThree s u [] room n room') where
  pub two_unfit : (n ≡ 0 → ⊥) → {m : Reply} {out : List ℕ} → AnsweredAll (s ∷ u ∷ []) room out m n room' out
  unfolding whole_all count_all filled_all points
  two_unfit z {m} {out} =
      let by_joined_unfit = joined_unfit h z {m = m} {out = out} in
      record { numbered = by_joined_unfit.numbered; room_left = by_joined_unfit.room_left; out_left = by_joined_unfit.out_left }

  pub joined_two : (f : List ℕ → List ℕ → Reply) → n ≡ 0 → {out out' : List ℕ} {r : ℕ} (a : ℕ) → a ≡ length s / 4 + length u / 4 →
      Replied (f (take (length s / 4) room') (take (a - length s / 4) (drop (length s / 4) room'))) out r out' →
      AnsweredAll (s ∷ u ∷ []) room out (f (points s) (points u)) r room' out'
  unfolding whole_all count_all filled_all points
  joined_two f z {out} {out'} {r} a e p =
      let by_joined_three = joined_three h (λ (t : List ℕ) (v : List ℕ) (x : List ℕ). f t v) z {out = out} {out' = out'} {r = r} a a e (omega arith) p in
      record { numbered = by_joined_three.numbered; room_left = by_joined_three.room_left; out_left = by_joined_three.out_left }
