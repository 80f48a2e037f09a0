-- A key with a byte above ASCII is unknown, so that what is printed of a key is ASCII. Assumes nothing.
use Rattle.lists.proofs.Kit.{◌≡◌, refl, ap, List, [], ◌∷◌, Bool, true, false, cond, not, ◌&&◌, ℕ, arith}
use Rattle.lists.specs.Lists.{any, is_same}
use Rattle.lists.specs.Codes.{codes}
use Rattle.lists.proofs.Same.{same_true}
use Rattle.utf8.specs.Encoding.{is_above}
use Rattle.motions.specs.declared.Caret.{Caret}
use Rattle.motions.specs.declared.Moved.TheVariants.{To, Refused}
use Rattle.session_keys.specs.declared.Key.TheVariants as Key
use Rattle.session_keys.specs.Keys.{Named, two_bytes, word_keys, line_keys, place_keys, table, found}
use Rattle.session_presses.specs.Pressed.{act_of, acted, pressed}

-- no name of the table has such a byte
all_plain : List Named → Bool
all_plain [] = true
all_plain (k ∷ l) = not (any is_above k.name) && all_plain l

found_none : (l : List Named) → all_plain l ≡ true → (name : List ℕ) → any is_above name ≡ true → found l name ≡ Key.Unknown
unfolding all_plain found
found_none [] p name h = refl
found_none (k ∷ l) p name h = go (is_same name k.name) (any is_above k.name) refl refl p (λ q. found_none l q name h)
  where
    go : (b c : Bool) → is_same name k.name ≡ b → any is_above k.name ≡ c → (not c && all_plain l) ≡ true →
        (all_plain l ≡ true → found l name ≡ Key.Unknown) → cond b k.key (found l name) ≡ Key.Unknown
    go true true s a q ih = let never : ◌≡◌ {A = ℕ} 0 1 = cc in absurd (omega arith)
    go true false s a q ih =
        let test_is : any is_above name ≡ any is_above k.name = ap (any is_above) (same_true name k.name s) in
        let never : ◌≡◌ {A = ℕ} 0 1 = cc in
        absurd (omega arith)
    go false true s a q ih = let never : ◌≡◌ {A = ℕ} 0 1 = cc in absurd (omega arith)
    go false false s a q ih = ih q

table_plain : all_plain table ≡ true
unfolding all_plain any codes two_bytes word_keys line_keys place_keys
table_plain = refl

pressed_none : (name t : List ℕ) (n : ℕ) (k : Caret) → any is_above name ≡ true → pressed name t n k ≡ Refused 0
unfolding acted act_of
pressed_none name t n k h = rw (found_none table table_plain name h)

pub pressed_plain : (name t : List ℕ) (n : ℕ) (k q : Caret) → pressed name t n k ≡ To q → any is_above name ≡ false
pressed_plain name t n k q e = go (any is_above name) refl
  where
    go : (b : Bool) → any is_above name ≡ b → b ≡ false
    go true p =
        let by_pressed_none = pressed_none name t n k p in
        let never : ◌≡◌ {A = ℕ} 0 1 = cc in
        absurd (omega arith)
    go false p = refl
