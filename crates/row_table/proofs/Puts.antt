-- The invariant of the loop that writes row starts: those of the part's first i code points are written, and the rest are those from i on.
-- Assumes nothing.
use Rattle.lists.proofs.Kit.{◌≡◌, refl, ap, sym, ◌∙◌, List, [], ◌∷◌, ℕ, ◌+◌, ◌≤◌, ◌<◌, add-zero, arith, length, get_or, set, drop, length-drop, get_or-drop}
use Rattle.lists.proofs.Kit.{drop-drop}
use Rattle.text.specs.Text.{row_count}
use Rattle.edit_places.specs.Replaced.{Over}
use Rattle.edit_places.proofs.Puts.{Up, up_none, up_next, up_all}
use Rattle.edit_places.proofs.Parts.{over_then}
use Rattle.row_table.specs.Table.{starts_from, row_starts}
use Rattle.row_table.proofs.Starts.{starts_length, from_nl, from_on, from_end_lem}

pub record Putting (e : List ℕ) (place at : ℕ) (part : List ℕ) (n i : ℕ) (buf : List ℕ) : Type 0 where
  pub written : Up e place (starts_from at part) n buf
  pub rest : drop n (starts_from at part) ≡ starts_from (at + i) (drop i part)
  pub inside : i ≤ length part
  pub few : n ≤ i

-- what a rest that begins with x says of the list
module _ (l : List ℕ) (n x : ℕ) (r : List ℕ) (e : drop n l ≡ x ∷ r) where
  next_inside : n < length l
  next_inside = omega (arith, length-drop n l, ap length e)

  next_read : get_or l n 0 ≡ x
  next_read =
      let n_plus_zero : n + 0 ≡ n = omega arith in
      rw n_plus_zero at (sym (get_or-drop n l 0 0)) ∙ ap (λ (q : List ℕ). get_or q 0 0) e

  next_rest : drop (n + 1) l ≡ r
  next_rest = sym (drop-drop 1 n l) ∙ ap (drop 1) e

pub putting_none : (e : List ℕ) (place at : ℕ) (part : List ℕ) → place + row_count part ≤ length e + 1 → Putting e place at part 0 0 e
putting_none e place at part h =
    record {
      written = up_none e place (starts_from at part) (omega (arith, starts_length at part));
      rest = rw (add-zero at);
      inside = omega arith;
      few = omega arith;
    }

module _ {e : List ℕ} {place at : ℕ} {part : List ℕ} {n i : ℕ} {buf : List ℕ} (p : Putting e place at part n i buf) where
  module _ (h : i < length part) (s : get_or part i 0 ≡ 10) where
    is_next : drop n (starts_from at part) ≡ (at + (i + 1)) ∷ starts_from (at + (i + 1)) (drop (i + 1) part)
    is_next = p.rest ∙ from_nl at part i h s

    pub putting_room : place + n < length buf
    putting_room = omega (
      arith,
      next_inside (starts_from at part) n (at + (i + 1)) (starts_from (at + (i + 1)) (drop (i + 1) part)) is_next,
      p.written.fits,
      p.written.size,
    )

    pub putting_nl : Putting e place at part (n + 1) (i + 1) (set buf (place + n) (at + (i + 1)))
    putting_nl =
        let starts = starts_from at part in
        let r = starts_from (at + (i + 1)) (drop (i + 1) part) in
        record {
          written = up_next p.written (next_inside starts n (at + (i + 1)) r is_next) (sym (next_read starts n (at + (i + 1)) r is_next));
          rest = next_rest starts n (at + (i + 1)) r is_next;
          inside = omega arith;
          few = omega (arith, p.few);
        }

  pub putting_on : i < length part → (get_or part i 0 ≡ 10 → ⊥) → Putting e place at part n (i + 1) buf
  putting_on h m =
      record {
        written = p.written;
        rest = p.rest ∙ from_on at part i h m;
        inside = omega arith;
        few = omega (arith, p.few);
      }

  pub putting_end : length part ≤ i → Over e place (starts_from at part) buf
  putting_end h = up_all p.written (omega (arith, length-drop n (starts_from at part), ap length (p.rest ∙ from_end_lem at part i h)))

-- a first start, and then those of the text
pub put_all : {e buf : List ℕ} (t : List ℕ) → 0 < length e → Over (set e 0 0) 1 (starts_from 0 t) buf → Over e 0 (row_starts t) buf
put_all {e} {buf} t h o =
    let one : Over e 0 (0 ∷ []) (set e 0 0) = up_all (up_next (up_none e 0 (0 ∷ []) (omega arith)) (omega arith) refl) (omega arith) in
    over_then one (omega arith) o refl
