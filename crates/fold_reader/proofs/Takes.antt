-- Entry by entry, as the reader takes them. Assumes nothing.
use Rattle.lists.proofs.Kit.{◌≡◌, refl, ap, sym, subst, ◌∙◌, List, [], ◌∷◌, ◌++◌, false, ℕ, suc, ◌+◌, ◌*◌, ◌-◌, ◌/◌, ◌≤◌, ◌<◌, arith, length, get_or, drop}
use Rattle.lists.proofs.Kit.{drop-drop, get_or-drop}
use Rattle.print.specs.Print.{Wrote}
use Rattle.fold_blocks.specs.Bytes.{four_at, entry_at, entries_in}
use Rattle.fold_blocks.specs.Listed.{blocks_of, folds_in, count_of, listed, count_all}
use Rattle.fold_blocks.specs.Layout.{broken}
use Rattle.fold_blocks.proofs.Cuts.{broken_next, listed_next, listed_end}
use Rattle.fold_blocks.proofs.Rules.{Keeps, keeps, or_parts, length_entries_in}
use Rattle.fold_blocks.proofs.Toward.{Toward, toward_room, toward_on, toward_end}

-- the folds of a block from entry i on, of so many
abbrev pub entries_from : List ℕ → ℕ → ℕ → List ℕ
entries_from b count i = entries_in (count - i) (drop (4 + 9 * i) b)

entry_at_lem : (b : List ℕ) (i : ℕ) → entry_at (drop i b) 0 ≡ entry_at b i
entry_at_lem b i = entry_by_lem b i (i + 4) (i + 8) refl refl
  where
    entry_by_lem : (b : List ℕ) (i j k : ℕ) → j ≡ i + 4 → k ≡ i + 8 → entry_at (drop i b) 0 ≡ four_at b i ∷ four_at b j ∷ get_or b k 0 ∷ []
    entry_by_lem b i j k p q =
        let none : i + 0 ≡ i = omega arith in
        let five : i + 5 ≡ j + 1 = omega arith in
        let six : i + 6 ≡ j + 2 = omega arith in
        let seven : i + 7 ≡ j + 3 = omega arith in
        rw (
          get_or-drop i b 0 0,
          get_or-drop i b 1 0,
          get_or-drop i b 2 0,
          get_or-drop i b 3 0,
          get_or-drop i b 4 0,
          get_or-drop i b 5 0,
          get_or-drop i b 6 0,
          get_or-drop i b 7 0,
          get_or-drop i b 8 0,
          none,
          five,
          six,
          seven,
          ← p,
          ← q,
        )

module _ (b : List ℕ) (count i : ℕ) where
  pub entries_on : i < count → entries_from b count i ≡ entry_at b (4 + 9 * i) ++ entries_from b count (i + 1)
  unfolding entries_in
  entries_on h =
      let some : count - i ≡ suc (count - (i + 1)) = omega arith in
      let next : 4 + 9 * i + 9 ≡ 4 + 9 * (i + 1) = omega arith in
      rw (some, drop-drop 9 (4 + 9 * i) b, next) (ap (λ (s : List ℕ). s ++ entries_from b count (i + 1)) (entry_at_lem b (4 + 9 * i)))

  pub entries_done : count ≤ i → entries_from b count i ≡ []
  unfolding entries_in
  entries_done h = let none : count - i ≡ 0 = omega arith in rw none

-- block by block: how far the taking has come. `number` is that of the next block
pub record Taking (f room out : List ℕ) (next size : ℕ) (left : List ℕ) : Type 0 where
  pub full : size ≡ 512
  pub number : ℕ
  pub laid : broken (length f / 512) (count_all (blocks_of f)) number (blocks_of left) ≡ false
  pub toward : Toward room 0 (folds_in f) out next (listed (blocks_of left))

module _ {f room out : List ℕ} {next size : ℕ} {left : List ℕ} (w : Taking f room out next size left) where
  module _ (x rest : List ℕ) (cut_off : left ≡ x ++ rest) (long : length x ≡ size) where
    first : Keeps (length f / 512) (count_all (blocks_of f)) w.number x ×
        (broken (length f / 512) (count_all (blocks_of f)) (w.number + 1) (blocks_of rest) ≡ false)
    first =
        let parts = or_parts _ _ (sym (broken_next left x rest cut_off (long ∙ w.full) (length f / 512) (count_all (blocks_of f)) w.number) ∙ w.laid) in
        (keeps (length f / 512) (count_all (blocks_of f)) w.number x parts.0, parts.1)

    pub taking_few : count_of x ≤ 56
    taking_few = first.0.few

    pub taking_room : length (folds_in f) ≤ length room → next + 3 * count_of x ≤ length out
    taking_room r =
        let piece = entries_in (count_of x) (drop 4 x) in
        omega (
          arith,
          toward_room piece (listed (blocks_of rest)) w.toward (listed_next left x rest cut_off (long ∙ w.full)),
          length_entries_in (count_of x) (drop 4 x),
        )

    pub taking_on : {size' : ℕ} → size' ≡ size → (count : ℕ) → count ≡ count_of x → {c : ℕ} {p : List ℕ} →
        Wrote out next (entries_in count (drop 4 x)) c p → Taking f room p c size' rest
    taking_on same count e {c} {p} v =
        record {
          full = same ∙ w.full;
          number = w.number + 1;
          laid = first.1;
          toward = toward_on (entries_in (count_of x) (drop 4 x)) (listed (blocks_of rest)) w.toward (listed_next left x rest cut_off (long ∙ w.full))
              (subst (λ (m : ℕ). Wrote out next (entries_in m (drop 4 x)) c p) e v);
        }

  pub taking_end : length left < size → Wrote room 0 (folds_in f) next out
  taking_end h = toward_end w.toward (listed_end left (omega (arith, w.full)))
