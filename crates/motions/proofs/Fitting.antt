-- A position in the text, and where the % key goes: its numbers fit a u32. And the length of a slice's beginning. Assumes nothing.
use Rattle.lists.proofs.Kit.{◌≡◌, refl, sym, subst, List, ℕ, ◌≤◌, arith, length, take, length-take}
use Rattle.text.specs.declared.Position.{Position}
use Rattle.positions.specs.Positions
use Rattle.text_check.specs.Accept.{text_refusal}
use Rattle.bracket_walks.specs.declared.Partner.TheVariants.{There}
use Rattle.brackets.specs.Find.{key_from}
use Rattle.bracket_laws.proofs.Jump.{key_goes}
use Rattle.steps.proofs.Staying.{inside_fits}
use Rattle.motions.specs.Ready.{CaretFits}

pub fits : {t : List ℕ} {q r : Position} → length t ≤ 1048576 → q ≡ r → Positions.Inside t r → CaretFits q.row q.col
fits {t} {q} {r} b e i =
    let both = inside_fits {t = t} {p = q} b (subst (λ (x : Position). Positions.Inside t x) (sym e) i) in
    record { row = both.0; col = both.1 }

pub part_count : {n : ℕ} (l : List ℕ) → n ≤ length l → n ≡ length (take n l)
part_count {n} l h = omega (arith, length-take n l)

pub key_fits : (t : List ℕ) (row col : ℕ) (q : Position) → text_refusal t ≡ 0 → length t ≤ 1048576 → key_from t row col ≡ There q →
    CaretFits q.row q.col
key_fits t row col q clear brief e =
    let to = ((key_goes t clear).lands row col q e).partner.to in
    fits brief refl (record { in_row = to.in_row; in_col = omega (arith, to.in_col) })
