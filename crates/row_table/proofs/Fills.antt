-- The answers of a fill: by the text, by the places, and filled. Assumes nothing.
use Rattle.lists.proofs.Kit.{◌≡◌, ap, sym, ◌∙◌, List, ℕ, ◌+◌, ◌≤◌, ◌<◌, arith, length, ne_eqb, lt-ltb, le-ltb}
use Rattle.text_check.specs.Accept.{text_refusal}
use Rattle.text.specs.Text.{row_count, content_rows}
use Rattle.text.specs.declared.Counted.TheVariants.{Rows, Refused}
use Rattle.edit_places.specs.Replaced.{replaced, Over}
use Rattle.row_table.specs.Table.{row_starts}
use Rattle.row_table.specs.Fill.{fill_refusal, table_of, FillsTo}
use Rattle.row_table.proofs.Starts.{rows_length}

module _ (t starts : List ℕ) where
  by_text : (text_refusal t ≡ 0 → ⊥) → fill_refusal t starts ≡ text_refusal t
  unfolding fill_refusal
  by_text n = rw (ne_eqb (text_refusal t) 0 n)

  pub fill_refused : {f : ℕ} → f ≡ text_refusal t → (f ≡ 0 → ⊥) → FillsTo t starts (Refused f) starts
  fill_refused {f} e n =
      let number : fill_refusal t starts ≡ f = by_text (λ z. n (e ∙ z)) ∙ sym e in
      record { answer = rw (number, ne_eqb f 0 n); table = rw (number, ne_eqb f 0 n) }

  module _ (accepted : text_refusal t ≡ 0) where
    pub fill_short : length starts < row_count t → FillsTo t starts (Refused 15) starts
    unfolding fill_refusal
    fill_short h = record { answer = rw (accepted, lt-ltb _ _ h); table = rw (accepted, lt-ltb _ _ h) }

    pub fill_done : row_count t ≤ length starts → {content : ℕ} {starts' : List ℕ} → content ≡ content_rows t → Over starts 0 (row_starts t) starts' →
        FillsTo t starts (Rows content) starts'
    unfolding fill_refusal replaced
    fill_done h {content} {starts'} e o =
        let sum_is : 0 + length (row_starts t) ≡ row_count t = omega (arith, rows_length t) in
        let left : starts' ≡ table_of t starts = rw sum_is at o.left in
        record { answer = rw (accepted, le-ltb _ _ h) (ap Rows e); table = rw (accepted, le-ltb _ _ h) left }
