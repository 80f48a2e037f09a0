-- The refusals of a call that writes classes, and the slice after it. Assumes nothing.
use Rattle.lists.proofs.Kit.{◌≡◌, sym, List, [], ◌∷◌, ℕ, ◌<◌, dec_lt, arith, length, eq-eqb, ne_eqb, le-ltb}
use Rattle.text_check.specs.Accept.{text_refusal}
use Rattle.list_tokens.specs.Tokens.{in_list}
use Rattle.keywords.specs.Table.{parse_of}
use Rattle.positions.specs.Positions.{lowest}
use Rattle.positions.proofs.Lowest.{lowest_last, both}
use Rattle.word_classes.specs.declared.Written.TheVariants.{Made, Refused}
use Rattle.word_classes.specs.Classes.{classes_of, holding}
use Rattle.word_classes.specs.Call.{places_refusal, write_refusal, written_by, sliced_by}

-- the slice has the places where it is not refused
pub places_there : (t room : List ℕ) → places_refusal t room ≡ 0 → length t < length room
unfolding places_refusal
places_there t room e = go (dec_lt (length t) (length room))
  where
    go : Dec (length t < length room) → length t < length room
    go (yes h) = h
    go (no n) =
        let never : ◌≡◌ {A = ℕ} 14 0 = rw (le-ltb (length t) (length room) (omega arith)) at e in absurd (omega arith)

-- the slice and the answer, by the refusal
module _ {f g : ℕ} (q : f ≡ g) where
  pub slice_kept : (t list room : List ℕ) → (f ≡ 0 → ⊥) → room ≡ sliced_by g t list room
  slice_kept t list room n = rw (← q, ne_eqb f 0 n)

  pub slice_written : (t list room now : List ℕ) → f ≡ 0 → now ≡ holding (classes_of (in_list list) t) room → now ≡ sliced_by g t list room
  slice_written t list room now z e = rw (← q, eq-eqb f 0 z) e

  pub count_refused : (n : ℕ) → (f ≡ 0 → ⊥) → Refused f ≡ written_by g n
  unfolding written_by
  count_refused n h = rw (← q, ne_eqb f 0 h)

  pub count_made : (n : ℕ) → f ≡ 0 → Made n ≡ written_by g n
  unfolding written_by
  count_made n z = rw (← q, eq-eqb f 0 z)

-- each check in its turn
module _ (t list room : List ℕ) where
  two : List ℕ
  two = text_refusal t ∷ (parse_of list).refusal ∷ []

  pub by_text : (text_refusal t ≡ 0 → ⊥) → text_refusal t ≡ write_refusal t list room
  unfolding lowest
  by_text n = rw (ne_eqb (text_refusal t) 0 n)

  module _ (z : text_refusal t ≡ 0) where
    pub by_list : ((parse_of list).refusal ≡ 0 → ⊥) → (parse_of list).refusal ≡ write_refusal t list room
    unfolding lowest
    by_list n = rw (eq-eqb (text_refusal t) 0 z, ne_eqb (parse_of list).refusal 0 n)

    pub by_places : (parse_of list).refusal ≡ 0 → places_refusal t room ≡ write_refusal t list room
    unfolding two
    by_places e = sym (lowest_last two (places_refusal t room) (both (text_refusal t) (parse_of list).refusal z e))
