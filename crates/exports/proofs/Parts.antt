-- What the checks of what a call on bytes is lent show of the parts of its room, and what is left of other lent places: `search parts` closes with
-- these what such a call asks before it calls on code points. Assumes nothing.
use Rattle.lists.proofs.Kit.{◌≡◌, refl, List, [], ◌∷◌, ◌+◌, ◌-◌, ◌/◌, ◌≤◌, ℕ, arith, drop, length, take, rules}
use Rattle.call_points.specs.Points.{points}
use Rattle.call_bytes.specs.Reply.{answer, Filled, fitting}
use Rattle.call_bytes.specs.Joined.{unfit_all, FilledThree}
use Rattle.call_bytes.proofs.Replies.{answered_unfit, front_count, kept_unfit}
use Rattle.call_bytes.proofs.Joins.{joined_unfit, first_length, joined_three}
use Rattle.call_bytes.proofs.Twos.{two_unfit, joined_two}

-- the code points of one byte string are within the room
pub front_within : {s room room' : List ℕ} {n : ℕ} → Filled s room n room' → n ≡ 0 → length s / 4 ≤ length room'
front_within h z = (h.fit z).within

-- those of two and of three
module _ {s u v room room' : List ℕ} {n : ℕ} (h : FilledThree s u v room n room') where
  pub two_within : n ≡ 0 → length s / 4 + length u / 4 ≤ length room'
  two_within z = omega (arith, (h.fit z).within)

  pub three_within : n ≡ 0 → length s / 4 + length u / 4 + length v / 4 ≤ length room'
  three_within z = omega (arith, (h.fit z).within)

  -- other lent places: kept where what was lent is unfit, and else as the call f on code points leaves them
  pub three_kept : (n ≡ 0 → ⊥) → (lent after : List ℕ) → lent ≡ fitting (unfit_all (s ∷ u ∷ v ∷ []) room) after lent
  three_kept z lent after = (joined_unfit h z {m = answer after} {out = lent}).out_left

  pub three_left : (f : List ℕ → List ℕ → List ℕ → List ℕ) → n ≡ 0 → (lent : List ℕ) {lent' : List ℕ} (a b : ℕ) →
      a ≡ length s / 4 + length u / 4 → b ≡ a + length v / 4 →
      lent' ≡ f (take (length s / 4) room') (take (a - length s / 4) (drop (length s / 4) room')) (take (b - a) (drop a room')) →
      lent' ≡ fitting (unfit_all (s ∷ u ∷ v ∷ []) room) (f (points s) (points u) (points v)) lent
  three_left f z lent a b ea eb e =
      (joined_three h (λ (t p q : List ℕ). answer (f t p q)) z {out = lent} {r = 0} a b ea eb (record { numbered = refl; out_left = e })).out_left

module _ {s u room room' : List ℕ} {n : ℕ} (h : FilledThree s u [] room n room') where
  pub two_kept : (n ≡ 0 → ⊥) → (lent after : List ℕ) → lent ≡ fitting (unfit_all (s ∷ u ∷ []) room) after lent
  two_kept z lent after = (two_unfit h z {m = answer after} {out = lent}).out_left

  pub two_left : (f : List ℕ → List ℕ → List ℕ) → n ≡ 0 → (lent : List ℕ) {lent' : List ℕ} (a : ℕ) → a ≡ length s / 4 + length u / 4 →
      lent' ≡ f (take (length s / 4) room') (take (a - length s / 4) (drop (length s / 4) room')) →
      lent' ≡ fitting (unfit_all (s ∷ u ∷ []) room) (f (points s) (points u)) lent
  two_left f z lent a ea e = (joined_two h (λ (t p : List ℕ). answer (f t p)) z {out = lent} {r = 0} a ea (record { numbered = refl; out_left = e })).out_left

pub ruleset parts = (
  rules,
  answered_unfit,
  kept_unfit,
  front_within,
  front_count,
  joined_unfit,
  two_unfit,
  three_kept,
  two_kept,
  first_length,
  two_within,
  three_within,
)
