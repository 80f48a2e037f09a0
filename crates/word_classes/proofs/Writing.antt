-- The classes of a text, written place by place. Assumes nothing.
use Rattle.lists.proofs.Kit.{◌≡◌, refl, sym, ◌∙◌, List, [], ◌∷◌, Bool, true, false, ℕ, ◌+◌, ◌≤◌, ◌<◌, add-one, arith, length, get_or, drop, set, length-set, sets}
use Rattle.lists.proofs.Kit.{sets-eq, drop-length, eqb, eq-eqb, ne_eqb}
use Rattle.lists.proofs.Lists.{drop_at}
use Rattle.lists.proofs.Any.{any_there}
use Rattle.chars.specs.Scalar.{is_scalar, not_scalar}
use Rattle.text_check.specs.Accept.{text_refusal}
use Rattle.text_check.proofs.Accepted.{all_scalar}
use Rattle.word_classes.specs.Classes.{char_class, end_class, class_of, classes_from, classes_of, holding}

-- there is one for each code point, and one for the end
pub classes_length : (word : ℕ → Bool) (first : Bool) (t : List ℕ) → length (classes_from word first t) ≡ length t + 1
unfolding classes_from
classes_length word first [] = refl
classes_length word first (x ∷ t) = omega (arith, classes_length word (eqb x 10) t)

-- the places before i are written; what is to come from there on is written by the rest of the classes
pub record Writing (word : ℕ → Bool) (t room now : List ℕ) (first : Bool) (i : ℕ) : Type 0 where
  pub inside : i ≤ length t
  pub long : length now ≡ length room
  pub same : sets room 0 (classes_of word t) ≡ sets now i (classes_from word first (drop i t))

pub writing_start : (word : ℕ → Bool) (t room : List ℕ) → Writing word t room room true 0
writing_start word t room = record { inside = omega arith; long = refl; same = refl }

module _ {word : ℕ → Bool} {t room now : List ℕ} {first : Bool} {i : ℕ} (w : Writing word t room now first i) where
  writing_on : i < length t → Writing word t room (set now i (class_of word first (get_or t i 0))) (eqb (get_or t i 0) 10) (i + 1)
  unfolding classes_from
  writing_on h =
      record {
        inside = omega arith;
        long = length-set now i _ ∙ w.long;
        same = w.same ∙ rw (drop_at t i h, add-one i);
      }

  -- a separator, and another code point
  pub writing_end : {v : ℕ} → i < length t → get_or t i 0 ≡ 10 → v ≡ end_class first → Writing word t room (set now i v) true (i + 1)
  unfolding class_of
  writing_end h e q = rw (q) (rw (eq-eqb (get_or t i 0) 10 e) at (writing_on h))

  pub writing_char : {v : ℕ} → i < length t → (get_or t i 0 ≡ 10 → ⊥) → v ≡ char_class word (get_or t i 0) → Writing word t room (set now i v) false (i + 1)
  unfolding class_of
  writing_char h n q = rw (q) (rw (ne_eqb (get_or t i 0) 10 n) at (writing_on h))

  -- and the text's end
  pub written : {v : ℕ} → length t ≤ i → length t < length room → v ≡ end_class first → set now (length t) v ≡ holding (classes_of word t) room
  unfolding classes_from
  written h room_there q =
      let i_is : i ≡ length t = omega (arith, w.inside) in
      let all : 0 + length (classes_of word t) ≡ length (classes_of word t) = omega arith in
      rw (q) (sym (w.same ∙ rw (i_is, drop-length t)) ∙ rw all at (sets-eq (classes_of word t) room 0 (omega (arith, classes_length word true t))))

-- every code point of an accepted text is a scalar value
pub scalar_there : (t : List ℕ) (i : ℕ) → text_refusal t ≡ 0 → i < length t → is_scalar (get_or t i 0) ≡ true
scalar_there t i e h = go (is_scalar (get_or t i 0)) refl
  where
    go : (b : Bool) → is_scalar (get_or t i 0) ≡ b → is_scalar (get_or t i 0) ≡ true
    go true q = q
    go false q =
        let never : ◌≡◌ {A = ℕ} 0 1 = cc (sym (all_scalar t e) ∙ any_there not_scalar t i h (rw q)) in absurd (omega arith)
