-- The one law: the classes of a text determine each step. The rows of places, and all fields together. Assumes nothing.
use Rattle.lists.proofs.Kit.{◌≡◌, refl, ap, ◌∙◌, List, [], ◌∷◌, Bool, true, false, cond, ℕ, zero, suc, ◌+◌, ◌-◌, ◌≤◌, ◌<◌, dec_lt, ℕ_discrete, arith, length}
use Rattle.lists.proofs.Kit.{get_or, eqb, leb, eq-eqb, ne_eqb, lt-ltb, le-ltb}
use Rattle.text.specs.Text.{row_count, content_rows}
use Rattle.text.specs.Offsets
use Rattle.text.proofs.Rows.{rows_pos}
use Rattle.text.proofs.Stands.{last_stands, stands_row}
use Rattle.text.proofs.Content.{content_void, content_nl, content_char}
use Rattle.word_kinds.specs.Places
use Rattle.word_classes.specs.Classes.{end_class, char_class, class_of, classes_from, classes_of}
use Rattle.word_places.specs.Places.{text_end}
use Rattle.word_hops.specs.Hops.{last_empty}
use Rattle.word_class_rows.specs.Rows.{row_of, rows_of, content_of}
use Rattle.word_class_rows.proofs.Counting.{row_end_next}
use Rattle.word_class_laws.specs.Determines.{Determines}
use Rattle.word_class_laws.proofs.Points.{end_says, char_says}
use Rattle.word_class_laws.proofs.Determined as at
use Rattle.word_class_laws.proofs.Stepping as step

-- the class of a separator ends a row, and no other
class_ends : (word : ℕ → Bool) (first : Bool) (x : ℕ) → leb 3 (class_of word first x) ≡ eqb x 10
unfolding class_of
class_ends word first x = go (eqb x 10)
  where
    go : (b : Bool) → leb 3 (cond b (end_class first) (char_class word x)) ≡ b
    go true = (end_says word true first).1
    go false = (char_says word true x).1

row_from : (word : ℕ → Bool) (first : Bool) (t : List ℕ) (i : ℕ) → i ≤ length t → Offsets.row_of t i ≡ row_of (classes_from word first t) i
unfolding Offsets.row_of row_of classes_from
row_from word first [] zero h = refl
row_from word first [] (suc i) h = absurd (omega arith)
row_from word first (x ∷ t) zero h = refl
row_from word first (x ∷ t) (suc i) h = rw (class_ends word first x, row_from word (eqb x 10) t i (omega arith))

module _ (word : ℕ → Bool) (t : List ℕ) where
  abbrev c : List ℕ
  c = classes_of word t

  rows : row_count t ≡ rows_of c
  rows =
      let size_is : length c ≡ length t + 1 = at.long word t in
      let by_row_end_next = row_end_next c (length t) (omega arith) (at.last_ends word t (length t) refl) in
      omega (arith, ap (row_of c) size_is, by_row_end_next, row_from word true t (length t) (omega arith), stands_row (last_stands t), rows_pos t)

  end_is : text_end c ≡ length t
  end_is = omega (arith, at.long word t)

  by_last : Dec (0 < length t) → Dec (get_or t (length t - 1) 0 ≡ 10) → content_rows t ≡ content_of c
  by_last (no m) d =
      let empty : last_empty c ≡ false = rw (end_is, le-ltb 0 (length t) (omega arith)) in
      rw empty (content_void t (omega arith) ∙ rows)
  by_last (yes z) (no n) =
      let empty : last_empty c ≡ false = rw (end_is, at.last_fresh word t z, ne_eqb _ 10 n, lt-ltb 0 (length t) z) in
      rw empty (content_char t z n ∙ rows)
  by_last (yes z) (yes q) =
      let empty : last_empty c ≡ true = rw (end_is, at.last_fresh word t z, eq-eqb _ 10 q, lt-ltb 0 (length t) z) in
      rw empty (omega (arith, content_nl t z q, rows))

  pub determined : (big : Bool) → Determines t (Places.kind_of word big) c big
  determined big =
      record {
        long = at.long word t;
        kinds = at.kinds word t big;
        empties = at.empties word t;
        ends = at.ends word t big;
        last = at.last_ends word t (length t) refl;
        on = step.on word t;
        back = step.back word t;
        next = λ i h. step.next word t i (omega arith) h;
        beside = step.beside word t;
        content = step.content word t;
        row = row_from word true t;
        rows = rows;
        content_rows = by_last (dec_lt 0 (length t)) (ℕ_discrete (get_or t (length t - 1) 0) 10);
      }
