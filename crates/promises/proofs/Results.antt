-- No input of a public call has two results. Assumes nothing.
use Rattle.lists.proofs.Kit.{◌≡◌, ap, sym, ◌∙◌, List, ◌++◌, ℕ, ℕ_discrete, drop}
use Rattle.text.specs.declared.Position.{Position}
use Rattle.call_bytes.specs.Reply.{unfit_one}
use Rattle.call_edits.specs.Bytes.{EditsFilled}
use Rattle.promises.specs.Results.{OneResult}
use Rattle.promises.proofs.ResultTables.{fills_one, keeps_one}

-- an edit on bytes: of those that are fit, and of those that are not
filled_one : {buf fold : List ℕ} {p : Position} {s room caret sizes : List ℕ} {x y : ℕ × List ℕ × List ℕ × List ℕ × List ℕ × List ℕ} →
    Dec (unfit_one s room ≡ 0) → EditsFilled buf fold p s room caret sizes x.0 x.1 x.2 x.3 x.4 x.5 →
    EditsFilled buf fold p s room caret sizes y.0 y.1 y.2 y.3 y.4 y.5 → x ≡ y
filled_one (yes z) a b =
    let by_edited = a.edited z in
    let by_edited_z = b.edited z in
    λ i. (
      (by_edited.caret_left.numbered ∙ sym by_edited_z.caret_left.numbered) i,
      (by_edited.text_left ∙ sym by_edited_z.text_left) i,
      (by_edited.folds_left ∙ sym by_edited_z.folds_left) i,
      (a.room_left ∙ sym b.room_left) i,
      (by_edited.caret_left.out_left ∙ sym by_edited_z.caret_left.out_left) i,
      (by_edited.sizes_left.out_left ∙ sym by_edited_z.sizes_left.out_left) i,
    )
filled_one (no n) a b =
    let by_unfit = a.unfit n in
    let by_unfit_n = b.unfit n in
    λ i. (
      (by_unfit.numbered ∙ sym by_unfit_n.numbered) i,
      (by_unfit.text_kept ∙ sym by_unfit_n.text_kept) i,
      (by_unfit.folds_kept ∙ sym by_unfit_n.folds_kept) i,
      (a.room_left ∙ sym b.room_left) i,
      (by_unfit.caret_kept ∙ sym by_unfit_n.caret_kept) i,
      (by_unfit.sizes_kept ∙ sym by_unfit_n.sizes_kept) i,
    )

pub one_result : OneResult
one_result =
    record {
      equal = λ v x y p q. p ∙ sym q;
      wraps = λ a mode width row out x y p q. λ i. ((p.answer ∙ sym q.answer) i, (p.left ∙ sym q.left) i);
      replied = λ m out x y p q. λ i. ((p.numbered ∙ sym q.numbered) i, (p.out_left ∙ sym q.out_left) i);
      answered = λ s room out m x y p q. λ i. (
        (p.numbered ∙ sym q.numbered) i,
        (p.room_left ∙ sym q.room_left) i,
        (p.out_left ∙ sym q.out_left) i,
      );
      answered_all = λ l room out m x y p q. λ i. (
        (p.numbered ∙ sym q.numbered) i,
        (p.room_left ∙ sym q.room_left) i,
        (p.out_left ∙ sym q.out_left) i,
      );
      replied_leaving = λ m out left x y p q. λ i. (
        (p.0.numbered ∙ sym q.0.numbered) i,
        (p.0.out_left ∙ sym q.0.out_left) i,
        (p.1 ∙ sym q.1) i,
      );
      answered_leaving = λ s room out m left x y p q. λ i. (
        (p.0.numbered ∙ sym q.0.numbered) i,
        (p.0.room_left ∙ sym q.0.room_left) i,
        (p.0.out_left ∙ sym q.0.out_left) i,
        (p.1 ∙ sym q.1) i,
      );
      printed = λ out s x y p q. let same = p.count ∙ sym q.count in λ i. (same i, (p.front ∙ ap (λ (n : ℕ). s ++ drop n out) same ∙ sym q.front) i);
      edited = λ buf fold s p q c k x y a b. λ i. ((a.answer ∙ sym b.answer) i, (a.text ∙ sym b.text) i, (a.folds ∙ sym b.folds) i);
      host_edited = λ buf fold p q c caret sizes x y a b. λ i. (
        (a.caret_left.numbered ∙ sym b.caret_left.numbered) i,
        (a.text_left ∙ sym b.text_left) i,
        (a.folds_left ∙ sym b.folds_left) i,
        (a.caret_left.out_left ∙ sym b.caret_left.out_left) i,
        (a.sizes_left.out_left ∙ sym b.sizes_left.out_left) i,
      );
      edited_filled = λ buf fold p s room caret sizes x y a b. filled_one (ℕ_discrete (unfit_one s room) 0) a b;
      filled = λ t table x y a b. λ i. ((a.answer ∙ sym b.answer) i, (a.table ∙ sym b.table) i);
      host_filled = λ t table out x y a b. λ i. (
        (a.out_left.numbered ∙ sym b.out_left.numbered) i,
        (a.starts_left ∙ sym b.starts_left) i,
        (a.out_left.out_left ∙ sym b.out_left.out_left) i,
      );
      filled_filled = λ s room table out x y a b. fills_one (ℕ_discrete (unfit_one s room) 0) a b;
      kept = λ buf fold table s content p q c k x y a b. λ i. (
        (a.answer ∙ sym b.answer) i,
        (a.text ∙ sym b.text) i,
        (a.folds ∙ sym b.folds) i,
        (a.starts ∙ sym b.starts) i,
      );
      host_kept = λ buf fold table p q c caret sizes x y a b. λ i. (
        (a.caret_left.numbered ∙ sym b.caret_left.numbered) i,
        (a.text_left ∙ sym b.text_left) i,
        (a.folds_left ∙ sym b.folds_left) i,
        (a.starts_left ∙ sym b.starts_left) i,
        (a.caret_left.out_left ∙ sym b.caret_left.out_left) i,
        (a.sizes_left.out_left ∙ sym b.sizes_left.out_left) i,
      );
      kept_filled = λ buf fold table p s room caret sizes x y a b. keeps_one (ℕ_discrete (unfit_one s room) 0) a b;
    }
