-- The loop of `marks_of`: part by part, the marks of a list are its signs. Assumes nothing.
use Rattle.lists.proofs.Kit.{◌≡◌, refl, ap, sym, ◌∙◌, List, [], ◌∷◌, ◌++◌, append_assoc, append-nil, Bool, false, ℕ, suc, ◌+◌, ◌-◌, ◌≤◌, arith, length, take}
use Rattle.lists.proofs.Kit.{drop, replicate, length-append, length-replicate, length-drop, replicate-append-replicate, length-take-le}
use Rattle.lists.specs.Lists.{up_to}
use Rattle.lists.proofs.Splits.{split_from, split_from_start, split_from_end, split_from_step, next_most}
use Rattle.list_parts.specs.Parts.{trim}
use Rattle.list_signs.specs.Signs.{none, part_signs, signs_in, signs}
use Rattle.list_signs.specs.Marks.{leads, seconds, marked, part_marked}
use Rattle.list_signs.proofs.MarkLaws.{marked_past}
use Rattle.list_signs.proofs.PartMarks.{part_signs_lem, part_length}

n' : (i k : ℕ) → i + k - i ≡ k
n' i k = omega arith

-- the loop of `marks_of`: the marks of the parts before i, and none from there on
pub record Marking (l : List ℕ) (ms : List Bool) (i : ℕ) : Type 0 where
  pub done : List Bool
  pub size : length done ≡ i
  pub rest : signs l ≡ done ++ signs_in (split_from 44 l i)
  pub is : ms ≡ done ++ replicate (1026 - i) false

pub marking_start : (l : List ℕ) → Marking l (replicate 1026 false) 0
marking_start l = record { done = []; size = refl; rest = ap signs_in (sym (split_from_start 44 l)); is = refl }

pub marking_length : (l : List ℕ) (ms : List Bool) (i : ℕ) → Marking l ms i → i ≤ 1026 → length ms ≡ 1026
marking_length l ms i m h = ap length m.is ∙ length-append m.done (replicate (1026 - i) false) ∙ omega (arith, m.size, length-replicate (1026 - i) false)

pub marking_end : (l : List ℕ) (ms : List Bool) (i : ℕ) → Marking l ms i → i ≡ length l + 1 → ms ≡ signs l ++ replicate (1025 - length l) false
unfolding signs_in
marking_end l ms i m h =
    let none_left : signs l ≡ m.done =
    m.rest ∙ ap (λ (ps : List (List ℕ)). m.done ++ signs_in ps) (split_from_end 44 l i (omega arith)) ∙ append-nil m.done in
    let difference_is : 1026 - i ≡ 1025 - length l = omega arith in
    rw (none_left, ← difference_is) m.is

pub marking_step : (l : List ℕ) (ms ms₁ : List Bool) (i e : ℕ) → i ≤ length l → length l ≤ 1024 → e ≡ i + up_to 44 (drop i l) → Marking l ms i →
    ms₁ ≡ part_marked (take (e - i) (drop i l)) i ms → Marking l ms₁ (e + 1)
unfolding signs_in
marking_step l ms ms₁ i e h k w m s =
    let difference_is : e - i ≡ up_to 44 (drop i l) = omega arith in
    let front = take (e - i) (drop i l) in
    let most : e ≤ length l = omega (arith, next_most 44 l i h) in
    let size_p : length front ≡ e - i = length-take-le (e - i) (drop i l) (omega (arith, length-drop i l)) in
    let blank = replicate (1026 - (e + 1)) false in
    let more : 1026 - i ≡ length front + suc (1026 - (e + 1)) = omega arith in
    let free : replicate (1026 - i) false ≡ none front ++ (false ∷ blank) =
    ap (λ (j : ℕ). replicate j false) more ∙ sym (replicate-append-replicate (length front) (suc (1026 - (e + 1))) false) in
    let one : i + up_to 45 front + 1 ≡ i + (up_to 45 front + 1) = omega arith in
    let left : ms₁ ≡ m.done ++ (part_signs front ++ (false ∷ blank)) =
    s ∙ ap (part_marked front i) (m.is ∙ ap (λ (q : List Bool). m.done ++ q) free) ∙ ap (marked (seconds (trim front)) (i + up_to 45 front + 1))
    (marked_past (leads (trim front)) m.done (none front ++ (false ∷ blank)) i (up_to 43 front) m.size)
    ∙ ap (λ (j : ℕ). marked (seconds (trim front)) j (m.done ++ marked (leads (trim front)) (up_to 43 front) (none front ++ (false ∷ blank)))) one
    ∙ marked_past (seconds (trim front)) m.done (marked (leads (trim front)) (up_to 43 front) (none front ++ (false ∷ blank))) i (up_to 45 front + 1) m.size
    ∙ ap (λ (q : List Bool). m.done ++ q) (part_signs_lem front (false ∷ blank)) in
    let step : split_from 44 l i ≡ front ∷ split_from 44 l (e + 1) = rw (w, n' i (up_to 44 (drop i l))) (split_from_step 44 l i h) in
    let joined : (q : List Bool) → (m.done ++ (part_signs front ++ (false ∷ []))) ++ q ≡ m.done ++ (part_signs front ++ (false ∷ q)) =
    λ q. append_assoc m.done (part_signs front ++ (false ∷ [])) q ∙ ap (λ (z : List Bool). m.done ++ z) (append_assoc (part_signs front) (false ∷ []) q) in
    record {
      done = m.done ++ (part_signs front ++ (false ∷ []));
      size = length-append m.done _ ∙ omega (arith, m.size, length-append (part_signs front) (false ∷ []), part_length front, size_p);
      rest = m.rest ∙ ap (λ (ps : List (List ℕ)). m.done ++ signs_in ps) step ∙ sym (joined (signs_in (split_from 44 l (e + 1))));
      is = left ∙ sym (joined blank);
    }
