-- No call on a table of row starts has two results. Assumes nothing.
use Rattle.lists.proofs.Kit.{◌≡◌, sym, ◌∙◌, List, ℕ}
use Rattle.text.specs.declared.Position.{Position}
use Rattle.call_bytes.specs.Reply.{unfit_one}
use Rattle.call_row_table.specs.Bytes.{FillsFilled, KeepsFilled}

-- a fill by bytes: by those that are fit, and by those that are not
pub fills_one : {s room table out : List ℕ} {x y : ℕ × List ℕ × List ℕ × List ℕ} → Dec (unfit_one s room ≡ 0) →
    FillsFilled s room table out x.0 x.1 x.2 x.3 → FillsFilled s room table out y.0 y.1 y.2 y.3 → x ≡ y
fills_one (yes z) a b =
    let by_filled_table = a.filled_table z in
    let by_filled_table_z = b.filled_table z in
    λ i. (
      (by_filled_table.out_left.numbered ∙ sym by_filled_table_z.out_left.numbered) i,
      (a.room_left ∙ sym b.room_left) i,
      (by_filled_table.starts_left ∙ sym by_filled_table_z.starts_left) i,
      (by_filled_table.out_left.out_left ∙ sym by_filled_table_z.out_left.out_left) i,
    )
fills_one (no n) a b =
    let by_unfit = a.unfit n in
    let by_unfit_n = b.unfit n in
    λ i. (
      (by_unfit.0 ∙ sym by_unfit_n.0) i,
      (a.room_left ∙ sym b.room_left) i,
      (by_unfit.1 ∙ sym by_unfit_n.1) i,
      (by_unfit.2 ∙ sym by_unfit_n.2) i,
    )

-- an edit on bytes that keeps a table
pub keeps_one : {buf fold table : List ℕ} {p : Position} {s room caret sizes : List ℕ}
    {x y : ℕ × List ℕ × List ℕ × List ℕ × List ℕ × List ℕ × List ℕ} → Dec (unfit_one s room ≡ 0) →
    KeepsFilled buf fold table p s room caret sizes x.0 x.1 x.2 x.3 x.4 x.5 x.6 →
    KeepsFilled buf fold table p s room caret sizes y.0 y.1 y.2 y.3 y.4 y.5 y.6 → x ≡ y
keeps_one (yes z) a b =
    let by_edited = a.edited z in
    let by_edited_z = b.edited z in
    λ i. (
      (by_edited.caret_left.numbered ∙ sym by_edited_z.caret_left.numbered) i,
      (by_edited.text_left ∙ sym by_edited_z.text_left) i,
      (by_edited.folds_left ∙ sym by_edited_z.folds_left) i,
      (by_edited.starts_left ∙ sym by_edited_z.starts_left) i,
      (a.room_left ∙ sym b.room_left) i,
      (by_edited.caret_left.out_left ∙ sym by_edited_z.caret_left.out_left) i,
      (by_edited.sizes_left.out_left ∙ sym by_edited_z.sizes_left.out_left) i,
    )
keeps_one (no n) a b =
    let by_unfit = a.unfit n in
    let by_unfit_n = b.unfit n in
    λ i. (
      (by_unfit.0.numbered ∙ sym by_unfit_n.0.numbered) i,
      (by_unfit.0.text_kept ∙ sym by_unfit_n.0.text_kept) i,
      (by_unfit.0.folds_kept ∙ sym by_unfit_n.0.folds_kept) i,
      (by_unfit.1 ∙ sym by_unfit_n.1) i,
      (a.room_left ∙ sym b.room_left) i,
      (by_unfit.0.caret_kept ∙ sym by_unfit_n.0.caret_kept) i,
      (by_unfit.0.sizes_kept ∙ sym by_unfit_n.0.sizes_kept) i,
    )
