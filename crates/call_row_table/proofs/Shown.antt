-- What an edit leaves fits the numbers of a host, and what the calls leave of what is lent. Assumes nothing.
use Rattle.lists.proofs.Kit.{◌≡◌, ◌∙◌, subst, List, ℕ, ◌≤◌, ℕ_discrete, arith, get_or, eq-eqb, ne_eqb}
use Rattle.text.specs.declared.Counted.{Counted}
use Rattle.text.specs.declared.Position.{Position}
use Rattle.motions.specs.declared.Caret.{Caret}
use Rattle.call_bytes.specs.Reply.{told, Replied}
use Rattle.call_bytes.proofs.Replies.{replied_of}
use Rattle.call_texts.specs.Rows.{told_rows}
use Rattle.call_edits.specs.Edits
use Rattle.call_edits.specs.Edits.{caret_in, sizes_in}
use Rattle.call_edits.proofs.Shown
use Rattle.edit_checks.specs.declared.Sizes.{Sizes}
use Rattle.edits.specs.declared.Edited.TheVariants
use Rattle.edits.specs.Edits.{left_of, edited_by, kept_by, refusal_of}
use Rattle.row_table.specs.Fill.{FillsTo}
use Rattle.edit_rows.specs.declared.EditedRows.{EditedRows}
use Rattle.edit_rows.specs.declared.EditedRows.TheVariants.{Done, Refused}
use Rattle.edit_rows.specs.Rows.{refusal_with, kept_of, answered_by, KeepsTo}
use Rattle.call_row_table.specs.Tables.{len_of, count_of, Fits, caret_reply, sizes_reply, HostFills, HostKeeps}

pub host_fills : {t table out : List ℕ} {r : ℕ} {starts' out' : List ℕ} {m : Counted} → FillsTo t table m starts' →
    Replied (told (told_rows m)) out r out' → HostFills t table out r starts' out'
unfolding kept_by
host_fills w x = record { out_left = replied_of (λ (m : Counted). told (told_rows m)) w.answer x; starts_left = w.table }

-- an edit that is not refused with its table is not refused without
not_refused : (buf folds table : List ℕ) (s : Sizes) (content : ℕ) (p q : Position) (c : List ℕ) (k : Caret) →
    refusal_with buf folds table s content p q c k ≡ 0 → refusal_of buf folds s p q c k ≡ 0
unfolding refusal_with
not_refused buf folds table s content p q c k z = go (ℕ_discrete (refusal_of buf folds s p q c k) 0)
  where
    go : Dec (refusal_of buf folds s p q c k ≡ 0) → refusal_of buf folds s p q c k ≡ 0
    go (yes e) = e
    go (no n) = absurd (n (rw (ne_eqb (refusal_of buf folds s p q c k) 0 n) at z))

-- what it leaves without one fits
plain_fits : (buf folds : List ℕ) (s : Sizes) (p q : Position) (c : List ℕ) (k : Caret) → refusal_of buf folds s p q c k ≡ 0 →
    ((left_of buf folds s p q c k).sizes.len ≤ 4294967295) × ((left_of buf folds s p q c k).sizes.count ≤ 4294967295)
unfolding edited_by Edits.len_of Edits.count_of
plain_fits buf folds s p q c k z =
    let by_host_fits = Shown.host_fits buf folds s p q c k (TheVariants.Done (left_of buf folds s p q c k)) (rw (eq-eqb (refusal_of buf folds s p q c k) 0 z)) in
    (by_host_fits.len_fits, by_host_fits.count_fits)

module _ (buf folds table : List ℕ) (s : Sizes) (content : ℕ) (p q : Position) (c : List ℕ) (k : Caret) (e : EditedRows) where
  pub host_fits : e ≡ answered_by (refusal_with buf folds table s content p q c k) (kept_of buf folds s p q c k) → Fits e
  unfolding answered_by len_of count_of
  host_fits is = go (ℕ_discrete (refusal_with buf folds table s content p q c k) 0)
    where
      go : Dec (refusal_with buf folds table s content p q c k ≡ 0) → Fits e
      go (yes z) =
          let e_is : e ≡ Done (kept_of buf folds s p q c k) = is ∙ rw (eq-eqb (refusal_with buf folds table s content p q c k) 0 z) in
          let by_plain_fits = plain_fits buf folds s p q c k (not_refused buf folds table s content p q c k z) in
          rw e_is (record { len_fits = by_plain_fits.0; count_fits = by_plain_fits.1 })
      go (no n) =
          let e_is : e ≡ Refused (refusal_with buf folds table s content p q c k) = is ∙ rw (ne_eqb (refusal_with buf folds table s content p q c k) 0 n) in
          rw e_is (record { len_fits = omega arith; count_fits = omega arith })

module _ {buf folds table : List ℕ} {s : Sizes} {content : ℕ} {p q : Position} {c : List ℕ} {k : Caret} {e : EditedRows} where
  pub host_keeps : {caret sizes : List ℕ} {r : ℕ} {buf' folds' starts' caret' sizes' : List ℕ} →
      KeepsTo buf folds table s content p q c k e buf' folds' starts' →
      k ≡ caret_in caret → s ≡ sizes_in sizes → content ≡ get_or sizes 2 0 → Replied (caret_reply e) caret r caret' → Replied (sizes_reply e) sizes r sizes' →
      HostKeeps buf folds table p q c caret sizes r buf' folds' starts' caret' sizes'
  host_keeps {caret} {sizes} {r} {buf'} {folds'} {starts'} {caret'} {sizes'} w k_is s_is n_is x y =
      let here = subst (λ (j : Caret). KeepsTo buf folds table s content p q c j e buf' folds' starts') k_is w in
      let carried = subst (λ (j : Sizes). KeepsTo buf folds table j content p q c (caret_in caret) e buf' folds' starts') s_is here in
      let carried_on = subst (λ (j : ℕ). KeepsTo buf folds table (sizes_in sizes) j p q c (caret_in caret) e buf' folds' starts') n_is carried in
      record {
        caret_left = replied_of caret_reply carried_on.answer x;
        sizes_left = replied_of sizes_reply carried_on.answer y;
        text_left = carried_on.text;
        folds_left = carried_on.folds;
        starts_left = carried_on.starts;
      }
