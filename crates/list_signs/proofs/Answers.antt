-- Laws of the answers of `enter` and `without_plus`: each by what the tests found. Assumes nothing.
use Rattle.lists.proofs.Kit.{◌≡◌, refl, ap, sym, ◌∙◌, List, ◌++◌, Bool, true, false, cond, ℕ, ◌-◌, ◌≤◌, ◌<◌, arith, length, drop, replicate, length-append, eqb}
use Rattle.lists.proofs.Kit.{leb, ltb, eq-eqb, ne_eqb, le-leb, lt-leb, lt-ltb, le-ltb, leb-true}
use Rattle.lists.specs.Lists.{any}
use Rattle.chars.specs.Scalar.{not_scalar}
use Rattle.list_parts.specs.Refusals.{list_refusal}
use Rattle.keywords.specs.declared.Parsed.{Parsed}
use Rattle.keywords.specs.Table.{parse_of}
use Rattle.list_signs.specs.declared.Plain.{Plain}
use Rattle.list_signs.specs.declared.Plain.TheVariants.{Made, Refused}
use Rattle.list_signs.specs.Signs.{signs}
use Rattle.list_signs.specs.Plain.{first_in, without, first_sign, plain, refused_at, entered_by, entry_of, plain_of, plain_in}
use Rattle.list_signs.proofs.Joins.{signs_length}
use Rattle.list_signs.proofs.WithoutLaws.{without_pad, first_pad}

-- a list that is not refused is short enough
pub short : (l : List ℕ) (n : ℕ) → n ≡ list_refusal l → n ≡ 0 → length l ≤ 1024
short l n w z = go (leb (length l) 1024) refl
  where
    go : (b : Bool) → leb (length l) 1024 ≡ b → length l ≤ 1024
    go true e = leb-true (length l) 1024 e
    go false e = let never : ◌≡◌ {A = ℕ} 7 0 = sym (w ∙ rw e) ∙ z in absurd (omega arith)

-- and has scalar values alone
pub taken_scalars : (l : List ℕ) → list_refusal l ≡ 0 → any not_scalar l ≡ false
taken_scalars l z = go (any not_scalar l) refl (leb (length l) 1024) refl
  where
    go : (b : Bool) → any not_scalar l ≡ b → (s : Bool) → leb (length l) 1024 ≡ s → any not_scalar l ≡ false
    go false e s h = e
    go true e true h = let never : ◌≡◌ {A = ℕ} 7 0 = rw (h, e) at z in absurd (omega arith)
    go true e false h = let never : ◌≡◌ {A = ℕ} 7 0 = rw h at z in absurd (omega arith)

pub cond_yes : {A : Type 0} (b : Bool) (x y : A) → b ≡ true → cond b x y ≡ x
cond_yes b x y e = rw e

pub cond_no : {A : Type 0} (b : Bool) (x y : A) → b ≡ false → cond b x y ≡ y
cond_no b x y e = rw e

-- what `without_plus` promises of its answer and of its room
abbrev pub PlainMade : List ℕ → List ℕ → Plain → List ℕ → Type 0
PlainMade l room answer left = (answer ≡ plain_of l room) × (left ≡ plain_in l room)

-- n is the list's refusal, and ms the marks that were made
module _ (l : List ℕ) (n : ℕ) (w : n ≡ list_refusal l) where
  pub made_7 : (room : List ℕ) → (n ≡ 0 → ⊥) → PlainMade l room (Refused 7) room
  made_7 room z = let by_ne_eqb = ne_eqb (list_refusal l) 0 (λ (y : list_refusal l ≡ 0). z (w ∙ y)) in (rw by_ne_eqb, rw by_ne_eqb)

  pub entered_7 : (n ≡ 0 → ⊥) → refused_at 7 0 ≡ entry_of l
  entered_7 z = let by_ne_eqb = ne_eqb (list_refusal l) 0 (λ (y : list_refusal l ≡ 0). z (w ∙ y)) in rw by_ne_eqb

  module _ (z : n ≡ 0) (ms : List Bool) (k : ms ≡ signs l ++ replicate (1025 - length l) false) where
    good : eqb (list_refusal l) 0 ≡ true
    good = eq-eqb (list_refusal l) 0 (sym w ∙ z)

    plain_is : without l ms ≡ plain l
    plain_is = ap (without l) k ∙ without_pad l (signs l) _ (omega (arith, signs_length l))

    first_is : first_in l ms ≡ first_sign l
    first_is = ap (first_in l) k ∙ first_pad l (signs l) _ (omega (arith, signs_length l))

    pub enough : length l ≤ length ms
    enough = rw k (omega (arith, signs_length l, length-append (signs l) (replicate (1025 - length l) false)))

    module _ (room : List ℕ) (m : ℕ) (c : m ≡ length (without l ms)) where
      size : m ≡ length (plain l)
      size = c ∙ ap length plain_is

      pub made_14 : length room < m → PlainMade l room (Refused 14) room
      made_14 h = let by_lt_leb = lt-leb (length (plain l)) (length room) (omega (arith, size)) in (rw (good, by_lt_leb), rw (good, by_lt_leb))

      pub made : (left : List ℕ) → m ≤ length room → left ≡ without l ms ++ drop (length (without l ms)) room → PlainMade l room (Made m) left
      made left h s =
          let by_le_leb = le-leb (length (plain l)) (length room) (omega (arith, size)) in
          (rw (good, by_le_leb) (ap Made size), rw (good, by_le_leb) (s ∙ ap (λ (q : List ℕ). q ++ drop (length q) room) plain_is))

    module _ (at : ℕ) (c : at ≡ first_in l ms) where
      place : at ≡ first_sign l
      place = c ∙ first_is

      pub entered_21 : at < length l → refused_at 21 at ≡ entry_of l
      entered_21 h = let by_lt_ltb = lt-ltb (first_sign l) (length l) (omega (arith, place)) in rw (good, by_lt_ltb) (ap (refused_at 21) place)

      pub entered_else : (p : Parsed) → length l ≤ at → p ≡ parse_of l → entered_by p ≡ entry_of l
      entered_else p h s =
          let by_le_ltb = le-ltb (first_sign l) (length l) (omega (arith, place)) in
          ap entered_by s ∙ sym (cond_yes (eqb (list_refusal l) 0) _ _ good ∙ cond_no (ltb (first_sign l) (length l)) _ _ by_le_ltb)
