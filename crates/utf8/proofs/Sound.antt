-- What is read is a text of scalar values, and the bytes are its encoding. Assumes nothing.
use Rattle.lists.proofs.Kit.{◌≡◌, refl, subst, List, [], ◌∷◌, ◌++◌, Bool, true, false, cond, ◌&&◌, ℕ, zero, suc, ◌+◌, ◌*◌, ◌-◌, arith, append_snoc, leb}
use Rattle.lists.proofs.Kit.{leb-true}
use Rattle.chars.specs.Scalar.{not_scalar}
use Rattle.lists.specs.Lists.{any}
use Rattle.utf8.specs.Encoding.{encoding, utf8}
use Rattle.utf8.specs.Decoding.{Reading, text, bad, onto, is_lead, tails_of, low_of, high_of, bits_of, ended, reading, reading_from}
use Rattle.utf8.proofs.Opens.{Opens, lead_opens}

-- t is the text of these bytes
abbrev Encodes : List ℕ → List ℕ → Type 0
Encodes t b = (any not_scalar t ≡ false) × (utf8 t ≡ b)

-- the bytes of a sequence that has not ended
held : ℕ → List ℕ → List ℕ
held zero p = []
held (suc left) p = p

-- one byte on: p is the sequence with it, s what comes after
ended_encodes :
    (left low high value : ℕ) (p s : List ℕ) (r : Reading) → Opens p left low high value → ((t : List ℕ) → r ≡ text t → Encodes t (held left p ++ s)) →
    (t : List ℕ) → ended left value r ≡ text t → Encodes t (p ++ s)
unfolding ended onto Opens held any utf8
ended_encodes zero low high value p s (text u) o ih t e =
    let list_is : value ∷ u ≡ t = cc in
    let by_ih = ih u refl in
    subst (λ (l : List ℕ). Encodes l (p ++ s)) list_is (rw o.0 by_ih.0, rw (o.1, by_ih.1))
ended_encodes zero low high value p s (bad n) o ih t e = let never : ◌≡◌ {A = ℕ} 0 1 = cc in absurd (omega arith)
ended_encodes (suc left) low high value p s r o ih t e = ih t e

encodes_from : (s : List ℕ) (left low high value at : ℕ) (p t : List ℕ) → Opens p left low high value → reading left low high value at s ≡ text t →
    Encodes t (held left p ++ s)
unfolding reading held any utf8 Opens
encodes_from [] zero low high value at p t o e = let value_is : [] ≡ t = cc in subst (λ (l : List ℕ). Encodes l []) value_is (refl, refl)
encodes_from [] (suc left) low high value at p t o e = let never : ◌≡◌ {A = ℕ} 0 1 = cc in absurd (omega arith)
encodes_from (a ∷ s) zero low high value at p t o e = go (is_lead a) refl e (encodes_from s (tails_of a) (low_of a) (high_of a) (bits_of a) (at + 1) (a ∷ []))
  where
    r : Reading
    r = reading (tails_of a) (low_of a) (high_of a) (bits_of a) (at + 1) s

    go : (b : Bool) → is_lead a ≡ b → cond b (ended (tails_of a) (bits_of a) r) (bad at) ≡ text t →
        ((u : List ℕ) → Opens (a ∷ []) (tails_of a) (low_of a) (high_of a) (bits_of a) → r ≡ text u → Encodes u (held (tails_of a) (a ∷ []) ++ s)) →
        Encodes t (a ∷ s)
    go true l q ih =
        let by_lead_opens = lead_opens a l in
        ended_encodes (tails_of a) (low_of a) (high_of a) (bits_of a) (a ∷ []) s r by_lead_opens (λ u w. ih u by_lead_opens w) t q
    go false l q ih = let never : ◌≡◌ {A = ℕ} 0 1 = cc in absurd (omega arith)
encodes_from (a ∷ s) (suc left) low high value at p t o e =
    go (leb low a) (leb a high) refl refl e (encodes_from s left 0x80 0xbf (value * 64 + (a - 0x80)) (at + 1) (p ++ (a ∷ [])))
  where
    bits : ℕ
    bits = value * 64 + (a - 0x80)

    r : Reading
    r = reading left 0x80 0xbf bits (at + 1) s

    go : (b c : Bool) → leb low a ≡ b → leb a high ≡ c → cond (b && c) (ended left bits r) (bad at) ≡ text t →
        ((u : List ℕ) → Opens (p ++ (a ∷ [])) left 0x80 0xbf bits → r ≡ text u → Encodes u (held left (p ++ (a ∷ [])) ++ s)) →
        Encodes t (p ++ (a ∷ s))
    go true true h k q ih =
        let here = o a (leb-true low a h) (leb-true a high k) in
        subst (λ (l : List ℕ). Encodes t l) (append_snoc p a s) (ended_encodes left 0x80 0xbf bits (p ++ (a ∷ [])) s r here (λ u v. ih u here v) t q)
    go true false h k q ih = let never : ◌≡◌ {A = ℕ} 0 1 = cc in absurd (omega arith)
    go false c h k q ih = let never : ◌≡◌ {A = ℕ} 0 1 = cc in absurd (omega arith)

-- what is read is scalar, and its encoding is what was read
pub reads_encoded : (at : ℕ) (b t : List ℕ) → reading_from at b ≡ text t → (any not_scalar t ≡ false) × (utf8 t ≡ b)
unfolding Opens held encoding
reads_encoded at b t e = encodes_from b 0 0 0 0 at (0 ∷ []) t (refl, refl) e
