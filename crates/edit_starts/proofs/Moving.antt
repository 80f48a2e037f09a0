-- Starts that move, and give way in their table. On plain lists. Assumes nothing.
use Rattle.lists.proofs.Kit.{◌≡◌, refl, ap, sym, ◌∙◌, List, ◌++◌, map, ℕ, ◌+◌, ◌-◌, ◌≤◌, ◌<◌, max, arith, length, get_or, take, drop}
use Rattle.lists.proofs.Kit.{append-nil, drop_of_length-le, take_all, get_or-append-add, get_or-drop, get_or-take, rules}
use Rattle.lists.proofs.Kit.{length-map, length-append, length-take-le, take-take, drop-drop, take_at, drop_at, take-append-le, length-slice}
use Rattle.std.proofs.lemmas.Slice.{between_is, put_mid-paste}
use borrow.Rule.Slice.PartMut.{put_mid}
use Rattle.row_table.specs.Table.{starts_from}
use Rattle.edit_places.specs.Replaced.{replaced, refilled, Refilled, Over}
use Rattle.edit_places.proofs.Parts.{replaced_length}
use Rattle.edit_starts.specs.Moved.{moved_start, kept_starts}

-- a list through which a function goes
pub map_size : (f : ℕ → ℕ) (l : List ℕ) → length (map f l) ≡ length l
map_size f l = length-map l f

-- a loop that writes f x over each place x of xs has come to place i, whose x is as it was
reached : (f : ℕ → ℕ) (xs : List ℕ) (i : ℕ) → i ≤ length xs → get_or (map f (take i xs) ++ drop i xs) i 0 ≡ get_or xs i 0
reached f xs i h =
    let size_is : length (map f (take i xs)) ≡ i = map_size f (take i xs) ∙ length-take-le i xs h in
    let at : i ≡ length (map f (take i xs)) + 0 = omega arith in
    let here : i + 0 ≡ i = omega arith in
    ap (λ (k : ℕ). get_or (map f (take i xs) ++ drop i xs) k 0) at ∙ get_or-append-add (map f (take i xs)) (drop i xs) 0 0
    ∙ get_or-drop i xs 0 0 ∙ ap (λ (k : ℕ). get_or xs k 0) here

-- and it has come to the end of the part of e that it goes over
module _ (f : ℕ → ℕ) (e : List ℕ) (from to k : ℕ) (order : from ≤ to) (within : to ≤ length e) where
  abbrev mapped : List ℕ
  mapped = map f (drop from (take to e))

  inner : take (to - from) (drop from e) ≡ drop from (take to e)
  inner = search (rules, between_is)

  inner_length : length (take (to - from) (drop from e)) ≡ to - from
  inner_length = ap length inner ∙ length-slice from to e within

  pub mapped_read : {ys : List ℕ} → k < length (take (to - from) (drop from e)) →
      ys ≡ map f (take k (take (to - from) (drop from e))) ++ drop k (take (to - from) (drop from e)) →
      (from + k < to) × (get_or ys k 0 ≡ get_or e (from + k) 0)
  mapped_read h ys_is =
      let by_inner_length = inner_length in (
        omega arith,
        ap (λ (l : List ℕ). get_or l k 0) ys_is ∙ reached f (take (to - from) (drop from e)) k (omega arith)
            ∙ get_or-take (to - from) (drop from e) k 0 (omega arith) ∙ get_or-drop from e k 0,
      )

  pub mapped_over : {ys : List ℕ} → length (take (to - from) (drop from e)) ≤ k →
      ys ≡ map f (take k (take (to - from) (drop from e))) ++ drop k (take (to - from) (drop from e)) → Over e from mapped (put_mid from (to - from) e ys)
  unfolding replaced
  mapped_over {ys} end ys_is =
      let xs = take (to - from) (drop from e) in
      let whole : ys ≡ mapped = ys_is ∙ rw (take_all k xs end, drop_of_length-le xs {i = k} end) (append-nil (map f xs)) ∙ ap (map f) inner in
      let size_is : length mapped ≡ to - from = map_size f (drop from (take to e)) ∙ length-slice from to e within in
      let put : put_mid from (to - from) e ys ≡ replaced e from (from + length mapped) mapped =
      put_mid-paste from (to - from) e ys mapped (length mapped) whole size_is refl ∙ rw (take_all (length mapped) mapped (omega arith)) in
      record { left = put; size = ap length put ∙ replaced_length e from (from + length mapped) mapped (omega arith) ∙ omega arith }

-- the last places of the first n written over by s
module _ {e buf : List ℕ} {at n : ℕ} {s : List ℕ} (o : Over e at s buf) (end : at + length s ≡ n) (fits : n ≤ length e) where
  front : length (take at e ++ s) ≡ n
  front = omega (arith, length-append (take at e) s, length-take-le at e (omega arith))

  pub over_part : take n buf ≡ take at (take n e) ++ s
  unfolding replaced
  over_part = ap (take n) o.left ∙ take_at (take at e ++ s) (drop (at + length s) e) n front
      ∙ ap (λ (l : List ℕ). l ++ s) (sym (take-take at n e (omega arith)))

  pub over_rest : drop n buf ≡ drop n e
  unfolding replaced
  over_rest = ap (drop n) o.left ∙ drop_at (take at e ++ s) (drop (at + length s) e) n front ∙ ap (λ (i : ℕ). drop i e) end

-- a buffer refilled goes by what lies behind alone
refilled_alike : (e d : List ℕ) (n : ℕ) (new : List ℕ) → drop n d ≡ drop n e → refilled d n new ≡ refilled e n new
unfolding refilled
refilled_alike e d n new same =
    let most_is : max n (length new) ≡ n + (length new - n) = omega arith in
    let rest : drop (max n (length new)) d ≡ drop (max n (length new)) e =
    rw most_is (sym (drop-drop (length new - n) n d) ∙ ap (drop (length new - n)) same ∙ drop-drop (length new - n) n e) in
    rw rest

-- starts moved first, and then given way
module _ (e : List ℕ) (rows r q a b : ℕ) (c : List ℕ) (rows_order : r ≤ q) (last_row : q < rows) (fits : rows ≤ length e) where
  abbrev l : List ℕ
  l = take rows e

  abbrev later : List ℕ
  later = map (moved_start (b - a) (length c)) (drop (q + 1) l)

  later_size : length later ≡ rows - (q + 1)
  later_size = map_size (moved_start (b - a) (length c)) (drop (q + 1) l) ∙ length-slice (q + 1) rows e fits

  pub kept_starts_lem : {buf buf' : List ℕ} → Over e (q + 1) later buf → Refilled buf rows (replaced (take rows buf) (r + 1) (q + 1) (starts_from a c)) buf' →
      Refilled e rows (kept_starts l r q a b c) buf'
  unfolding replaced kept_starts
  kept_starts_lem {buf} {buf'} o f =
      let by_later_size = later_size in
      let end : q + 1 + length later ≡ rows = omega arith in
      let size_is : length (take (q + 1) l) ≡ q + 1 = length-take-le (q + 1) l (omega (arith, length-take-le rows e fits)) in
      let part : take rows buf ≡ take (q + 1) l ++ later = over_part o end fits in
      let head : take (r + 1) (take rows buf) ≡ take (r + 1) l =
      rw part (take-append-le (r + 1) (take (q + 1) l) later (omega arith) ∙ take-take (r + 1) (q + 1) l (omega arith)) in
      let tail : drop (q + 1) (take rows buf) ≡ later = rw part (drop_at (take (q + 1) l) later (q + 1) size_is) in
      let new : replaced (take rows buf) (r + 1) (q + 1) (starts_from a c) ≡ kept_starts l r q a b c = rw (head, tail) in
      record {
        left =
            f.left ∙ refilled_alike e buf rows (replaced (take rows buf) (r + 1) (q + 1) (starts_from a c)) (over_rest o end fits) ∙ ap (refilled e rows) new;
        size = f.size ∙ o.size;
      }
