-- Writing piece by piece: what is still to be written, after what was written, comes to the whole. Assumes nothing.
use Rattle.lists.proofs.Kit.{◌≡◌, refl, ap, sym, ◌∙◌, List, [], ◌∷◌, ◌++◌, ℕ, suc, ◌+◌, ◌≤◌, add-zero, arith, length, set, length-append, sets}
use Rattle.print.specs.Print.{Wrote}

sets_append : (x y out : List ℕ) (at : ℕ) → sets out at (x ++ y) ≡ sets (sets out at x) (at + length x) y
sets_append [] y out at = rw add-zero
sets_append (a ∷ x) y out at = sets_append x y (set out at a) (suc at) ∙ ap (λ (n : ℕ). sets (sets (set out at a) (suc at) x) n y) (omega arith)

-- s is to be written into out from index at on; in out' what is left of it, rest, is to be written from index at' on
pub record Toward (out : List ℕ) (at : ℕ) (s : List ℕ) (out' : List ℕ) (at' : ℕ) (rest : List ℕ) : Type 0 where
  pub total : at' + length rest ≡ at + length s
  pub whole : sets out' at' rest ≡ sets out at s
  pub size : length out' ≡ length out

pub toward_start : (out : List ℕ) (at : ℕ) (s : List ℕ) → Toward out at s out at s
toward_start out at s = record { total = refl; whole = refl; size = refl }

-- the next piece has room
pub toward_room :
    (x y : List ℕ) {out s o rest : List ℕ} {at b : ℕ} → Toward out at s o b rest → rest ≡ x ++ y → (b + length x ≤ at + length s) × (length o ≡ length out)
toward_room x y {out} {s} {o} {rest} {at} {b} t e = (omega (arith, t.total, ap length e, length-append x y), t.size)

module _ {out s o : List ℕ} {at b : ℕ} where
  -- a piece more
  pub toward_on : (x y : List ℕ) → {rest p : List ℕ} {c : ℕ} → Toward out at s o b rest → rest ≡ x ++ y → Wrote o b x c p → Toward out at s p c y
  toward_on x y {rest} {p} {c} t e w =
      record {
        total = omega (arith, t.total, w.next, ap length e, length-append x y);
        whole = rw (w.left, w.next) (sym (sets_append x y o b) ∙ ap (sets o b) (sym e) ∙ t.whole);
        size = w.size ∙ t.size;
      }

  -- nothing is left
  pub toward_end : {rest : List ℕ} → Toward out at s o b rest → rest ≡ [] → Wrote out at s b o
  toward_end {rest} t e =
      record { next = omega (arith, t.total, ap length e); left = sym (ap (sets o b) e) ∙ t.whole; size = t.size }
