-- An insert of bytes, by what filling the room answers. Assumes nothing.
use Rattle.lists.proofs.Kit.{◌≡◌, refl, sym, ◌∙◌, subst, List, ℕ, ◌/◌, length, take, eq-eqb, ne_eqb}
use Rattle.text.specs.declared.Position.{Position}
use Rattle.call_bytes.specs.Reply.{unfit_one, Filled}
use Rattle.call_edits.specs.Edits.{HostEdits}
use Rattle.call_edits.specs.Bytes.{EditsFilled}

module _ {s room room' : List ℕ} {n : ℕ} (h : Filled s room n room') {buf fold caret sizes : List ℕ} {p : Position} where
  pub filled_unfit : (n ≡ 0 → ⊥) → EditsFilled buf fold p s room caret sizes n buf fold room' caret sizes
  filled_unfit z =
      let unfit_one_not : unfit_one s room ≡ 0 → ⊥ = λ q. z (h.numbered ∙ q) in
      record {
        room_left = rw (ne_eqb (unfit_one s room) 0 unfit_one_not) (h.kept z);
        edited = λ q. absurd (unfit_one_not q);
        unfit = λ q. record { numbered = h.numbered; text_kept = refl; folds_kept = refl; caret_kept = refl; sizes_kept = refl };
      }

  pub filled_edits : n ≡ 0 → {r : ℕ} {buf' fold' caret' sizes' : List ℕ} →
      HostEdits buf fold p p (take (length s / 4) room') caret sizes r buf' fold' caret' sizes' →
      EditsFilled buf fold p s room caret sizes r buf' fold' room' caret' sizes'
  filled_edits z {r} {buf'} {fold'} {caret'} {sizes'} e =
      let unfit_one_is : unfit_one s room ≡ 0 = sym h.numbered ∙ z in
      record {
        room_left = rw (eq-eqb (unfit_one s room) 0 unfit_one_is) (h.fit z).room_left;
        edited = λ q. subst (λ (c : List ℕ). HostEdits buf fold p p c caret sizes r buf' fold' caret' sizes') (h.fit z).front e;
        unfit = λ q. absurd (q unfit_one_is);
      }
