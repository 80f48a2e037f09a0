-- What the checks of a call on bytes show, and what each way out of it leaves. Assumes nothing.
use Rattle.lists.proofs.Kit.{◌≡◌, refl, ap, sym, subst, ◌∙◌, List, Bool, true, false, cond, ℕ, ◌/◌, ◌≤◌, arith, length, take, length-take-le, leb, eq-eqb}
use Rattle.lists.proofs.Kit.{ne_eqb, leb-true}
use Rattle.std.specs.Int.{from_bool}
use Rattle.call_points.specs.Points.{points}
use Rattle.call_bytes.specs.declared.Told.{Told}
use Rattle.call_bytes.specs.Reply.{Reply, bit, told, Replied, unfit, unfit_one, Filled, fitting, Answered}

-- nothing is unfit: the room is enough
pub fit_room : (whole : Bool) (points room : ℕ) → unfit whole points room ≡ 0 → points ≤ room
unfolding unfit
fit_room whole points room e = go whole (leb points room) refl e
  where
    go : (a b : Bool) → leb points room ≡ b → ◌≡◌ {A = ℕ} (cond a (cond b 0 102) 101) 0 → points ≤ room
    go true true q h = leb-true _ _ q
    go true false q h = absurd (omega arith)
    go false b q h = absurd (omega arith)

fits : {A : Type 0} (f : ℕ) (a b : A) → f ≡ 0 → fitting f a b ≡ a
fits f a b e = rw (eq-eqb f 0 e)

fits_not : {A : Type 0} (f : ℕ) (a b : A) → (f ≡ 0 → ⊥) → fitting f a b ≡ b
fits_not f a b n = rw (ne_eqb f 0 n)

-- `u32::from` of a flag
pub from_bit : (b : Bool) → from_bool b ≡ bit b
from_bit true = refl
from_bit false = refl

-- the reply to what the call was found to answer
pub replied_of : {A : Type 0} (f : A → Reply) {m m' : A} {out out' : List ℕ} {r : ℕ} → m ≡ m' → Replied (f m) out r out' → Replied (f m') out r out'
replied_of {A} f {m} {m'} {out} {out'} {r} e p = subst (λ (x : A). Replied (f x) out r out') e p

pub replied_as : {m m' : Told} {out out' : List ℕ} {r : ℕ} → m ≡ m' → Replied (told m) out r out' → Replied (told m') out r out'
replied_as e p = replied_of told e p

module _ {s room room' : List ℕ} {n : ℕ} (h : Filled s room n room') where
  -- a call that is refused for what was lent leaves all as it was
  pub answered_unfit : (n ≡ 0 → ⊥) → {m : Reply} {out : List ℕ} → Answered s room out m n room' out
  answered_unfit z =
      let unfit_one_not : unfit_one s room ≡ 0 → ⊥ = λ q. z (h.numbered ∙ q) in
      record {
        numbered = h.numbered ∙ sym (fits_not _ _ _ unfit_one_not);
        room_left = h.kept z ∙ sym (fits_not _ _ _ unfit_one_not);
        out_left = sym (fits_not _ _ _ unfit_one_not);
      }

  -- the code points stand at the start of the room
  pub front_count : n ≡ 0 → length s / 4 ≡ length (take (length s / 4) room')
  front_count z = sym (length-take-le _ _ (h.fit z).within)

  -- the answer of a call f on bytes, from its reply on what stands in the room
  pub answered_one : (f : List ℕ → Reply) → n ≡ 0 → {out out' : List ℕ} {r : ℕ} → Replied (f (take (length s / 4) room')) out r out' →
      Answered s room out (f (points s)) r room' out'
  answered_one f z {out} {out'} {r} p =
      let unfit_one_is : unfit_one s room ≡ 0 = sym h.numbered ∙ z in
      let here = subst (λ (t : List ℕ). Replied (f t) out r out') (h.fit z).front p in
      record {
        numbered = here.numbered ∙ sym (fits _ _ _ unfit_one_is);
        room_left = (h.fit z).room_left ∙ sym (fits _ _ _ unfit_one_is);
        out_left = here.out_left ∙ sym (fits _ _ _ unfit_one_is);
      }

  -- other lent places: kept where what was lent is unfit, and else as the call f on code points leaves them
  pub kept_unfit : (n ≡ 0 → ⊥) → (lent after : List ℕ) → lent ≡ fitting (unfit_one s room) after lent
  kept_unfit z lent after = sym (fits_not _ _ _ (λ q. z (h.numbered ∙ q)))

  pub left_fit : (f : List ℕ → List ℕ) → n ≡ 0 → (lent : List ℕ) {lent' : List ℕ} → lent' ≡ f (take (length s / 4) room') →
      lent' ≡ fitting (unfit_one s room) (f (points s)) lent
  left_fit f z lent e = e ∙ ap f (h.fit z).front ∙ sym (fits _ _ _ (sym h.numbered ∙ z))
