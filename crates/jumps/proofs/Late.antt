-- What the call looks at last, the table, the kinds and the places for answers: the first that is refused, by its own number. Assumes nothing.
use Rattle.lists.proofs.Kit.{◌≡◌, refl, sym, ◌∙◌, List, [], ◌∷◌, ◌++◌, Bool, true, false, cond, ℕ, ◌≤◌, ℕ_discrete, arith, length, eqb, ltb, eq-eqb, ne_eqb}
use Rattle.lists.proofs.Kit.{ltb-false}
use Rattle.text_check.specs.Accept.{text_refusal}
use Rattle.text.specs.Text.{row_count}
use Rattle.row_table.specs.Table.{table_refusal}
use Rattle.row_entries.proofs.Rows.{table_held}
use Rattle.positions.specs.Positions.{lowest}
use Rattle.positions.proofs.Lowest.{lowest_none}
use Rattle.jumps.specs.Jumps.{kind_refusal, answer_refusal, late_refusal}
use Rattle.jumps.specs.Leaps.{IsTable}
use Rattle.jumps.specs.Footings.{Course}

-- refusals of two parts of a list
pub lowest_front : (l r : List ℕ) → (lowest l ≡ 0 → ⊥) → lowest (l ++ r) ≡ lowest l
unfolding lowest
lowest_front [] r n = absurd (n refl)
lowest_front (f ∷ rest) r n = go (eqb f 0) (λ m. lowest_front rest r m) n
  where
    go : (b : Bool) → ((lowest rest ≡ 0 → ⊥) → lowest (rest ++ r) ≡ lowest rest) → (cond b (lowest rest) f ≡ 0 → ⊥) →
        cond b (lowest (rest ++ r)) f ≡ cond b (lowest rest) f
    go true h m = h m
    go false h m = refl

pub lowest_back : (l r : List ℕ) → lowest l ≡ 0 → lowest (l ++ r) ≡ lowest r
unfolding lowest
lowest_back [] r z = refl
lowest_back (f ∷ rest) r z =
    let by_lowest_none = lowest_none f rest z in
    rw (eq-eqb f 0 by_lowest_none.0) (lowest_back rest r by_lowest_none.1)

last : (d : ℕ) → cond (eqb d 0) 0 d ≡ d
last d = go (ℕ_discrete d 0)
  where
    go : Dec (d ≡ 0) → cond (eqb d 0) 0 d ≡ d
    go (yes z) = rw (eq-eqb d 0 z) (sym z)
    go (no n) = rw (ne_eqb d 0 n)

-- the next of three, by its own number
module _ (a b c : ℕ) where
  pub late_first : (a ≡ 0 → ⊥) → a ≡ lowest (a ∷ b ∷ c ∷ [])
  unfolding lowest
  late_first n = rw (ne_eqb a 0 n)

  pub late_second : a ≡ 0 → (b ≡ 0 → ⊥) → b ≡ lowest (a ∷ b ∷ c ∷ [])
  unfolding lowest
  late_second z n = rw (eq-eqb a 0 z, ne_eqb b 0 n)

  pub late_third : a ≡ 0 → b ≡ 0 → c ≡ lowest (a ∷ b ∷ c ∷ [])
  unfolding lowest
  late_third z y = rw (eq-eqb a 0 z, eq-eqb b 0 y) (sym (last c))

  pub late_none : lowest (a ∷ b ∷ c ∷ []) ≡ 0 → (a ≡ 0) × (b ≡ 0) × (c ≡ 0)
  late_none z =
      let by_lowest_none = lowest_none a (b ∷ c ∷ []) z in
      let by_lowest_none_b = lowest_none b (c ∷ []) by_lowest_none.1 in
      (by_lowest_none.0, by_lowest_none_b.0, (lowest_none c [] by_lowest_none_b.1).0)

module _ (t starts : List ℕ) (content : ℕ) (jumps : List ℕ) (places : ℕ) {g : ℕ} (table : g ≡ table_refusal (row_count t) t starts content) where
  pub late_table : (g ≡ 0 → ⊥) → g ≡ late_refusal t starts content jumps places
  late_table n = table ∙ late_first _ (kind_refusal jumps) (answer_refusal jumps places) (λ z. n (table ∙ z))

  module _ (none : g ≡ 0) {h : ℕ} (kinds : h ≡ kind_refusal jumps) where
    pub late_kind : (h ≡ 0 → ⊥) → h ≡ late_refusal t starts content jumps places
    late_kind n = kinds
        ∙ late_second (table_refusal (row_count t) t starts content) (kind_refusal jumps) (answer_refusal jumps places) (sym table ∙ none) (λ z. n (kinds ∙ z))

    pub late_answer : h ≡ 0 → {n : ℕ} → n ≡ answer_refusal jumps places → n ≡ late_refusal t starts content jumps places
    late_answer z e =
        e ∙ late_third (table_refusal (row_count t) t starts content) (kind_refusal jumps) (answer_refusal jumps places) (sym table ∙ none) (sym kinds ∙ z)

-- where nothing of it is refused
answers_room : (jumps : List ℕ) (places : ℕ) → answer_refusal jumps places ≡ 0 → length jumps ≤ places
answers_room jumps places z = go (ltb places (length jumps)) refl z
  where
    go : (b : Bool) → ltb places (length jumps) ≡ b → ◌≡◌ {A = ℕ} (cond b 14 0) 0 → length jumps ≤ places
    go true p q = absurd (omega (arith, q))
    go false p q = ltb-false places (length jumps) p

pub late_accepted : (t starts : List ℕ) (content : ℕ) (jumps answers : List ℕ) → text_refusal t ≡ 0 → late_refusal t starts content jumps (length answers) ≡ 0 →
    IsTable t starts × Course jumps answers
late_accepted t starts content jumps answers clear z =
    let by_late_none = late_none (table_refusal (row_count t) t starts content) (kind_refusal jumps) (answer_refusal jumps (length answers)) z in (
      (table_held t starts (row_count t) content clear refl by_late_none.0).table,
      record { kinds = by_late_none.1; room = answers_room jumps (length answers) by_late_none.2 },
    )
