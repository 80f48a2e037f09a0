-- What the calls go by: a place and a length fit their numbers, and the answer of `without_plus` in the call's words. Assumes nothing.
use Rattle.lists.proofs.Kit.{◌≡◌, refl, ap, sym, ◌∙◌, List, Bool, true, false, cond, true≢false, ℕ, ◌≤◌, arith, length, eqb, ltb, eqb-true, ltb-true}
use Rattle.list_parts.specs.Refusals.{list_refusal}
use Rattle.keywords.specs.Table.{parse_of}
use Rattle.keywords.proofs.Agree.{parse_length}
use Rattle.call_bytes.specs.declared.Told.{Told}
use Rattle.call_bytes.specs.declared.Told.TheVariants.{Value, Refused}
use Rattle.list_signs.specs.declared.Plain.{Plain}
use Rattle.list_signs.specs.declared.Plain.TheVariants.{Made, Refused as Plain-as-Refused}
use Rattle.list_signs.specs.Plain.{first_sign, plain, plain_refusal, refused_at, entered_by, entry_of, plain_in}
use Rattle.list_signs.proofs.Answers.{short, PlainMade}
use Rattle.list_signs.proofs.Converted.{converted}
use Rattle.call_signs.specs.Plain.{plain_told}

-- a place is within a list of 1,024
pub entry_place : (l : List ℕ) → (entry_of l).place ≤ 1024
entry_place l = go (eqb (list_refusal l) 0) refl (ltb (first_sign l) (length l)) refl
  where
    go : (b : Bool) → eqb (list_refusal l) 0 ≡ b → (s : Bool) → ltb (first_sign l) (length l) ≡ s →
        (cond b (cond s (refused_at 21 (first_sign l)) (entered_by (parse_of l))) (refused_at 7 0)).place ≤ 1024
    go false e s f = omega arith
    go true e true f =
        let most = short l (list_refusal l) refl (eqb-true (list_refusal l) 0 e) in
        omega (arith, most, ltb-true (first_sign l) (length l) f)
    go true e false f = omega arith

-- an entered list has at most 128 tokens
pub entry_few : (l : List ℕ) → (entry_of l).refusal ≡ 0 → (entry_of l).spec.len ≤ 128
entry_few l = go (eqb (list_refusal l) 0) (ltb (first_sign l) (length l))
  where
    go : (b s : Bool) → (cond b (cond s (refused_at 21 (first_sign l)) (entered_by (parse_of l))) (refused_at 7 0)).refusal ≡ 0 →
        (cond b (cond s (refused_at 21 (first_sign l)) (entered_by (parse_of l))) (refused_at 7 0)).spec.len ≤ 128
    go false s e = absurd (omega arith)
    go true true e = absurd (omega arith)
    go true false e = parse_length l (parse_of l) refl e

unfoldable pub told_of : Plain → Told
told_of (Made n) = Value n
told_of (Plain-as-Refused f) = Refused f

unfoldable size_of : Plain → ℕ
size_of (Made n) = n
size_of (Plain-as-Refused f) = 0

module _ (l room : List ℕ) (m : Plain) (left : List ℕ) (p : PlainMade l room m left) where
  pub plain_told_lem : (t : Told) → t ≡ told_of m → (t ≡ plain_told room l) × (left ≡ plain_in l room)
  unfolding plain_told told_of
  plain_told_lem t e = (e ∙ ap told_of p.0 ∙ go (eqb (plain_refusal l room) 0), p.1)
    where
      go : (b : Bool) →
          told_of (cond b (Made (length (plain l))) (Plain-as-Refused (plain_refusal l room))) ≡ cond b (Value (length (plain l))) (Refused (plain_refusal l room))
      go true = refl
      go false = refl

  pub plain_size : (n : ℕ) → m ≡ Made n → n ≤ 1024
  unfolding size_of
  plain_size n e = go (eqb (plain_refusal l room) 0) refl (eqb (list_refusal l) 0) refl (sym (ap size_of e) ∙ ap size_of p.0)
    where
      go : (b : Bool) → eqb (plain_refusal l room) 0 ≡ b → (c : Bool) → eqb (list_refusal l) 0 ≡ c →
          n ≡ size_of (cond (eqb (plain_refusal l room) 0) (Made (length (plain l))) (Plain-as-Refused (plain_refusal l room))) → n ≤ 1024
      go false b c d s = let n_is : n ≡ 0 = s ∙ rw b in omega arith
      go true b true d s =
          let n_is : n ≡ length (plain l) = s ∙ rw b in
          omega (arith, short l (list_refusal l) refl (eqb-true (list_refusal l) 0 d), (converted l).shorter)
      go true b false d s = absurd (true≢false (sym b ∙ rw d))
