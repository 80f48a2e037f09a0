-- What two writes, one after the other, leave of a buffer: behind a gap and into it, or moved down and zeros behind. On plain lists. Assumes nothing.
use Rattle.lists.proofs.Kit.{◌≡◌, ap, sym, ◌∙◌, List, [], ◌++◌, append_assoc, append-nil, ℕ, ◌+◌, ◌-◌, ◌≤◌, arith, length, take, drop, take-take, length-slice}
use Rattle.edit_places.specs.Replaced.{replaced, zeros, Over, Deleted}
use Rattle.edit_places.proofs.Puts.{length_zeros}
use Rattle.edit_places.proofs.Parts.{replaced_front, replaced_rest, replaced_through, replaced_behind}

-- two writes, one after the other, into a buffer e whose first len places are taken: s is what stands behind the edit then
module _ (e : List ℕ) (len a : ℕ) (s : List ℕ) (fits : len ≤ length e) (inside : a ≤ len) {buf buf' : List ℕ} where
  -- s up to place end, behind a gap, and then c into the gap
  pub opened : {c : List ℕ} {at end : ℕ} → Over e at s buf → Over buf a c buf' → at ≡ a + length c → end ≡ at + length s → end ≤ length e →
      buf' ≡ take a (take len e) ++ c ++ s ++ drop end e
  unfolding replaced
  opened {c} {at} {end} u v at_is end_is room =
      let front : take a buf ≡ take a (take len e) =
      rw u.left (replaced_front e at (at + length s) s (omega arith) a (omega arith)) ∙ sym (take-take a len e inside) in
      let rest : drop at buf ≡ s ++ drop end e = rw (u.left, end_is) (replaced_rest e at (at + length s) s (omega arith)) in
      v.left ∙ rw (← at_is, front, rest) (sym (append_assoc (take a (take len e) ++ c) s (drop end e)))

  -- s moved down, and then zeros behind it
  pub closed : {kept n : ℕ} → Over e a s buf → Over buf kept (zeros n) buf' → kept ≡ a + length s → kept ≤ len →
      n ≡ len - kept → buf' ≡ take a (take len e) ++ s ++ zeros n ++ drop len e
  unfolding replaced
  closed {kept} {n} u v kept_is h count =
      let size_is : length (zeros n) ≡ n = length_zeros n in
      let to : kept + length (zeros n) ≡ a + length s + n = omega arith in
      let whole : a + length s + n ≡ len = omega arith in
      let front : take kept buf ≡ take a (take len e) ++ s =
      rw (kept_is, u.left, take-take a len e inside) (replaced_through e a (a + length s) s (omega arith)) in
      let rest : drop (kept + length (zeros n)) buf ≡ drop len e =
      rw (to, u.left) (replaced_behind e a (a + length s) s (omega arith) n) ∙ ap (λ (i : ℕ). drop i e) whole in
      v.left ∙ rw (front, rest)

-- the same for a text that is the first len places of e
module _ (e : List ℕ) (len a : ℕ) (fits : len ≤ length e) where
  pub deleted : (b : ℕ) → a ≤ b → b ≤ len → {buf buf' : List ℕ} {kept n : ℕ} → Over e a (drop b (take len e)) buf → Over buf kept (zeros n) buf' →
      kept ≡ len - (b - a) → n ≡ b - a → Deleted e len a b buf'
  unfolding replaced
  deleted b h k {buf} {buf'} {kept} {n} u v kept_is count =
      let front = take len e in
      let size_is : length (drop b front) ≡ len - b = length-slice b len e fits in
      let whole : buf' ≡ replaced front a b [] ++ zeros n ++ drop len e =
      rw (append-nil (take a front)) (closed e len a (drop b front) fits (omega arith) u v (omega arith) (omega arith) (omega arith)) in
      record { left = rw (sym count) whole; size = v.size ∙ u.size }
