-- The calls on bytes, by what filling the room answers. Assumes nothing.
use Rattle.lists.proofs.Kit.{◌≡◌, refl, sym, ◌∙◌, subst, List, ℕ, ◌/◌, length, take, eq-eqb, ne_eqb}
use Rattle.text.specs.declared.Position.{Position}
use Rattle.call_bytes.specs.Reply.{unfit_one, Filled}
use Rattle.call_row_table.specs.Tables.{HostFills, HostKeeps}
use Rattle.call_row_table.specs.Bytes.{FillsFilled, KeepsFilled}

module _ {s room room' : List ℕ} {n : ℕ} (h : Filled s room n room') where
  module _ {table out : List ℕ} where
    pub fills_unfit : (n ≡ 0 → ⊥) → FillsFilled s room table out n room' table out
    fills_unfit z =
        let unfit_one_not : unfit_one s room ≡ 0 → ⊥ = λ q. z (h.numbered ∙ q) in
        record {
          room_left = rw (ne_eqb (unfit_one s room) 0 unfit_one_not) (h.kept z);
          filled_table = λ q. absurd (unfit_one_not q);
          unfit = λ q. (h.numbered, refl, refl);
        }

    pub fills_done : n ≡ 0 → {r : ℕ} {starts' out' : List ℕ} → HostFills (take (length s / 4) room') table out r starts' out' →
        FillsFilled s room table out r room' starts' out'
    fills_done z {r} {starts'} {out'} e =
        let unfit_one_is : unfit_one s room ≡ 0 = sym h.numbered ∙ z in
        record {
          room_left = rw (eq-eqb (unfit_one s room) 0 unfit_one_is) (h.fit z).room_left;
          filled_table = λ q. subst (λ (t : List ℕ). HostFills t table out r starts' out') (h.fit z).front e;
          unfit = λ q. absurd (q unfit_one_is);
        }

  module _ {buf fold table caret sizes : List ℕ} {p : Position} where
    pub keeps_unfit : (n ≡ 0 → ⊥) → KeepsFilled buf fold table p s room caret sizes n buf fold table room' caret sizes
    keeps_unfit z =
        let unfit_one_not : unfit_one s room ≡ 0 → ⊥ = λ q. z (h.numbered ∙ q) in
        record {
          room_left = rw (ne_eqb (unfit_one s room) 0 unfit_one_not) (h.kept z);
          edited = λ q. absurd (unfit_one_not q);
          unfit = λ q. (record { numbered = h.numbered; text_kept = refl; folds_kept = refl; caret_kept = refl; sizes_kept = refl }, refl);
        }

    pub keeps_done : n ≡ 0 → {r : ℕ} {buf' fold' starts' caret' sizes' : List ℕ} →
        HostKeeps buf fold table p p (take (length s / 4) room') caret sizes r buf' fold' starts' caret' sizes' →
        KeepsFilled buf fold table p s room caret sizes r buf' fold' starts' room' caret' sizes'
    keeps_done z {r} {buf'} {fold'} {starts'} {caret'} {sizes'} e =
        let unfit_one_is : unfit_one s room ≡ 0 = sym h.numbered ∙ z in
        record {
          room_left = rw (eq-eqb (unfit_one s room) 0 unfit_one_is) (h.fit z).room_left;
          edited = λ q. subst (λ (c : List ℕ). HostKeeps buf fold table p p c caret sizes r buf' fold' starts' caret' sizes') (h.fit z).front e;
          unfit = λ q. absurd (q unfit_one_is);
        }
