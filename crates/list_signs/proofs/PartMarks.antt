-- The marks that the code sets in a part are its signs. Assumes nothing.
use Rattle.lists.proofs.Kit.{◌≡◌, ap, sym, ◌∙◌, List, [], ◌++◌, append_assoc, append-nil, Bool, false, ℕ, ◌+◌, arith, length, drop, length-replicate}
use Rattle.lists.specs.Lists.{up_to}
use Rattle.list_parts.specs.Parts.{trim}
use Rattle.list_signs.specs.Signs.{none, kept_signs, before, behind, part_signs}
use Rattle.list_signs.specs.Marks.{leads, seconds, marked, part_marked}
use Rattle.list_signs.proofs.MarkLaws.{length_marked, marked_past, marked_left, marked_at, none_append, kept_signs_lem}
use Rattle.list_signs.proofs.PartPlaces.{lead_place, second_place}
use Rattle.list_signs.proofs.WhiteLaws.{split_part}

-- the marks of a part, in what has none yet
pub part_signs_lem : (p : List ℕ) (s : List Bool) → marked (seconds (trim p)) (up_to 45 p + 1) (marked (leads (trim p)) (up_to 43 p) (none p ++ s)) ≡ part_signs p ++ s
part_signs_lem p s =
    let trim_here = trim p in
    let none_here = none (before p) in
    let joined = none (behind p) ++ s in
    let leads_here = leads trim_here in
    let seconds_here = seconds trim_here in
    let sum = up_to 45 trim_here + 1 in
    let size : length none_here ≡ length (before p) = length-replicate (length (before p)) false in
    let mid : length (none trim_here) ≡ length trim_here = length-replicate (length trim_here) false in
    let whole : none p ++ s ≡ none_here ++ (none trim_here ++ joined) =
    ap (λ (q : List ℕ). none q ++ s) (sym (split_part p)) ∙ ap (λ (q : List Bool). q ++ s)
    (none_append (before p) (trim_here ++ behind p) ∙ ap (λ (q : List Bool). none_here ++ q) (none_append trim_here (behind p)))
    ∙ append_assoc none_here (none trim_here ++ none (behind p)) s
    ∙ ap (λ (q : List Bool). none_here ++ q) (append_assoc (none trim_here) (none (behind p)) s) in
    ap (λ (q : List Bool). marked seconds_here (up_to 45 p + 1) (marked leads_here (up_to 43 p) q)) whole ∙ ap (marked seconds_here (up_to 45 p + 1))
    (marked_at leads_here (up_to 43 p) (length (before p) + 0) (none_here ++ (none trim_here ++ joined)) (λ e. (lead_place p e).0)
    ∙ marked_past leads_here none_here (none trim_here ++ joined) (length (before p)) 0 size)
    ∙ marked_at seconds_here (up_to 45 p + 1) (length (before p) + sum) (none_here ++ marked leads_here 0 (none trim_here ++ joined)) (λ e. (second_place p e).0)
    ∙ marked_past seconds_here none_here (marked leads_here 0 (none trim_here ++ joined)) (length (before p)) sum size
    ∙ ap (λ (q : List Bool). none_here ++ marked seconds_here sum q)
    (marked_left leads_here (none trim_here) joined 0 (λ e. omega (arith, mid, (lead_place p e).1))) ∙ ap (λ (q : List Bool). none_here ++ q)
    (marked_left seconds_here (marked leads_here 0 (none trim_here)) joined sum
    (λ e. omega (arith, mid, length_marked leads_here 0 (none trim_here), (second_place p e).1)) ∙ ap (λ (q : List Bool). q ++ joined) (kept_signs_lem trim_here))
    ∙ sym (append_assoc none_here (kept_signs trim_here ++ none (behind p)) s
    ∙ ap (λ (q : List Bool). none_here ++ q) (append_assoc (kept_signs trim_here) (none (behind p)) s))

-- a mark for each code point of a part
pub part_length : (p : List ℕ) → length (part_signs p) ≡ length p
part_length p =
    let none_after : part_signs p ++ [] ≡ part_signs p = append-nil (part_signs p) in
    let all : none p ++ [] ≡ none p = append-nil (none p) in
    sym (ap length none_after) ∙ ap length (sym (part_signs_lem p []))
    ∙ length_marked (seconds (trim p)) (up_to 45 p + 1) (marked (leads (trim p)) (up_to 43 p) (none p ++ []))
    ∙ length_marked (leads (trim p)) (up_to 43 p) (none p ++ []) ∙ ap length all ∙ length-replicate (length p) false

-- what the two calls of `mark` leave
pub part_marked_lem : (p kept : List ℕ) (i f g : ℕ) (a b : Bool) (ms ms₁ ms₂ : List Bool) → kept ≡ trim p → f ≡ 0 + up_to 43 (drop 0 p) → a ≡ leads kept →
    ms₁ ≡ marked a (i + f) ms → g ≡ 0 + up_to 45 (drop 0 p) → b ≡ seconds kept → ms₂ ≡ marked b (i + g + 1) ms₁ → ms₂ ≡ part_marked p i ms
part_marked_lem p kept i f g a b ms ms₁ ms₂ k u x v w y z =
    let f' : f ≡ up_to 43 p = omega arith in
    let g' : g ≡ up_to 45 p = omega arith in
    rw (z, v, y, x, k, f', g')
