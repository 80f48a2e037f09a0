-- The classes of a text determine each step: `Determines` holds of them. Each field by what stands at the place: the text's end, a separator or a character.
-- Assumes nothing.
use Rattle.lists.proofs.Kit.{◌≡◌, refl, ap, sym, ◌∙◌, List, Bool, true, false, ℕ, zero, suc, ◌+◌, ◌-◌, ◌≤◌, ◌<◌, dec_lt, ℕ_discrete, arith, length, get_or, eqb}
use Rattle.lists.proofs.Kit.{leb, eq-eqb, ne_eqb, eqb-true}
use Rattle.text.specs.Offsets
use Rattle.word_kinds.specs.declared.Spot.{Spot}
use Rattle.word_kinds.specs.Places
use Rattle.word_kinds.proofs.Ahead.{end_kind, nl_kind, char_kind, end_empty, empty_row}
use Rattle.word_kinds.proofs.Back.{starts_first, starts_by}
use Rattle.word_classes.specs.Classes.{end_class, class_of, classes_of}
use Rattle.word_classes.specs.Classes
use Rattle.word_classes.proofs.Writing.{classes_length}
use Rattle.word_places.specs.Places.{class_at, is_end, is_empty, kind_for, kind}
use Rattle.word_class_laws.specs.Determines.{pos, named}
use Rattle.word_class_laws.proofs.Points.{fresh, class_there, class_last, end_says, char_says, spot_of}

module _ (word : ℕ → Bool) (t : List ℕ) where
  -- a place is the text's end, a separator or a character
  pub data Stand (i : ℕ) : Type 0 where
    at_last : length t ≤ i → Stand i
    at_break : i < length t → get_or t i 0 ≡ 10 → Stand i
    at_char : i < length t → (get_or t i 0 ≡ 10 → ⊥) → Stand i

  pub stand : (i : ℕ) → Stand i
  stand i = go (dec_lt i (length t)) (ℕ_discrete (get_or t i 0) 10)
    where
      go : Dec (i < length t) → Dec (get_or t i 0 ≡ 10) → Stand i
      go (no n) d = at_last (omega arith)
      go (yes h) (yes e) = at_break h e
      go (yes h) (no n) = at_char h n

  abbrev c : List ℕ
  c = classes_of word t

  pub long : length c ≡ length t + 1
  long = classes_length word true t

  -- the class of each
  last_class : (i : ℕ) → i ≡ length t → class_at c i ≡ end_class (fresh true t i)
  last_class i e = rw e (class_last word true t)

  break_class : (i : ℕ) → i < length t → get_or t i 0 ≡ 10 → class_at c i ≡ end_class (fresh true t i)
  unfolding class_of
  break_class i h e = class_there word true t i h ∙ rw (eq-eqb (get_or t i 0) 10 e)

  char_class_lem : (i : ℕ) → i < length t → (get_or t i 0 ≡ 10 → ⊥) → class_at c i ≡ Classes.char_class word (get_or t i 0)
  unfolding class_of
  char_class_lem i h n = class_there word true t i h ∙ rw (ne_eqb (get_or t i 0) 10 n)

  -- whether it ends a row
  pub last_ends : (i : ℕ) → i ≡ length t → is_end c i ≡ true
  last_ends i e = ap (leb 3) (last_class i e) ∙ (end_says word true (fresh true t i)).1

  pub break_ends : (i : ℕ) → i < length t → get_or t i 0 ≡ 10 → is_end c i ≡ true
  break_ends i h e = ap (leb 3) (break_class i h e) ∙ (end_says word true (fresh true t i)).1

  pub char_ends : (i : ℕ) → i < length t → (get_or t i 0 ≡ 10 → ⊥) → is_end c i ≡ false
  char_ends i h n = ap (leb 3) (char_class_lem i h n) ∙ (char_says word true (get_or t i 0)).1

  module _ (big : Bool) (i : ℕ) (h : i ≤ length t) where
    spot : Spot
    spot = record { row = Offsets.row_of t i; at = i }

    -- the kind
    kind_of : Stand i → Places.kind_at t (Places.kind_of word big) (pos t i) ≡ named (kind c big i)
    unfolding named spot
    kind_of (at_last l) = sym (end_kind t spot (spot_of t i h) l (Places.kind_of word big))
        ∙ sym (ap named (ap (kind_for big) (last_class i (omega arith)) ∙ (end_says word big _).0))
    kind_of (at_break l e) =
        sym (nl_kind t spot (spot_of t i h) l e (Places.kind_of word big)) ∙ sym (ap named (ap (kind_for big) (break_class i l e) ∙ (end_says word big _).0))
    kind_of (at_char l n) = sym (char_kind t spot (spot_of t i h) l n (Places.kind_of word big)) ∙ (char_says word big _).0
        ∙ ap (λ (x : ℕ). named (kind_for big x)) (sym (char_class_lem i l n))

    pub kinds : Places.kind_at t (Places.kind_of word big) (pos t i) ≡ named (kind c big i)
    kinds = kind_of (stand i)

    end_of : Stand i → eqb (kind c big i) 4 ≡ is_end c i
    end_of (at_last l) = rw (last_ends i (omega arith)) (eq-eqb _ 4 (ap (kind_for big) (last_class i (omega arith)) ∙ (end_says word big _).0))
    end_of (at_break l e) = rw (break_ends i l e) (eq-eqb _ 4 (ap (kind_for big) (break_class i l e) ∙ (end_says word big _).0))
    end_of (at_char l n) = rw (char_ends i l n) (ap (λ (x : ℕ). eqb (kind_for big x) 4) (char_class_lem i l n) ∙ (char_says word big _).3)

    pub ends : eqb (kind c big i) 4 ≡ is_end c i
    ends = end_of (stand i)

  -- the first place of its row
  first_col : (i : ℕ) → i ≤ length t → fresh true t i ≡ eqb (i - Offsets.row_start t (Offsets.row_of t i)) 0
  unfolding fresh
  first_col zero h = starts_first t (record { row = Offsets.row_of t zero; at = zero }) (spot_of t zero h) refl
  first_col (suc i) h =
      let one : suc i - 1 ≡ i = omega arith in
      starts_by t (record { row = Offsets.row_of t (suc i); at = suc i }) (spot_of t (suc i) h) (eqb (get_or t i 0) 10) (omega arith) (rw one)

  module _ (i : ℕ) (h : i ≤ length t) where
    here : Spot
    here = record { row = Offsets.row_of t i; at = i }

    -- an empty row
    empty_by : (b : Bool) → fresh true t i ≡ b → Stand i → Places.on_empty_row t (pos t i) ≡ is_empty c i
    unfolding here Places.on_empty_row
    empty_by false e (at_last l) = rw (sym (first_col i h) ∙ e) (sym (ap (λ (x : ℕ). eqb x 3) (last_class i (omega arith)) ∙ (end_says word true _).2 ∙ e))
    empty_by false e (at_break l q) = rw (sym (first_col i h) ∙ e) (sym (ap (λ (x : ℕ). eqb x 3) (break_class i l q) ∙ (end_says word true _).2 ∙ e))
    empty_by false e (at_char l n) = rw (sym (first_col i h) ∙ e) (sym (ap (λ (x : ℕ). eqb x 3) (char_class_lem i l n) ∙ (char_says word true _).2))
    empty_by true e (at_last l) = sym (end_empty t here (spot_of t i h) l (eqb-true _ 0 (sym (first_col i h) ∙ e))) ∙
        sym (ap (λ (x : ℕ). eqb x 3) (last_class i (omega arith)) ∙ (end_says word true _).2 ∙ e)
    empty_by true e (at_break l q) = sym (empty_row t here (spot_of t i h) true (eqb-true _ 0 (sym (first_col i h) ∙ e)) l (eq-eqb _ 10 q)) ∙
        sym (ap (λ (x : ℕ). eqb x 3) (break_class i l q) ∙ (end_says word true _).2 ∙ e)
    empty_by true e (at_char l n) = sym (empty_row t here (spot_of t i h) false (eqb-true _ 0 (sym (first_col i h) ∙ e)) l (ne_eqb _ 10 n)) ∙
        sym (ap (λ (x : ℕ). eqb x 3) (char_class_lem i l n) ∙ (char_says word true _).2)

    pub empties : Places.on_empty_row t (pos t i) ≡ is_empty c i
    empties = empty_by (fresh true t i) refl (stand i)

  -- whether the last row is empty, by the last code point
  pub last_fresh : 0 < length t → is_empty c (length t) ≡ eqb (get_or t (length t - 1) 0) 10
  unfolding fresh
  last_fresh z = ap (λ (x : ℕ). eqb x 3) (last_class (length t) refl) ∙ (end_says word true _).2 ∙ by (length t) z
    where
      by : (n : ℕ) → 0 < n → fresh true t n ≡ eqb (get_or t (n - 1) 0) 10
      by zero w = absurd (omega arith)
      by (suc n) w = let one : suc n - 1 ≡ n = omega arith in rw one
