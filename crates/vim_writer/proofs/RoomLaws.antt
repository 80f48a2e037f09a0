-- Laws of a list put into lent room: one more token put, the room that it takes, and the answer. Assumes nothing.
use Rattle.lists.proofs.Kit.{take-length, ◌≡◌, ap, sym, subst, ◌∙◌, List, [], ◌∷◌, ◌++◌, ℕ, ◌+◌, ◌≤◌, ◌<◌, arith, length, get_or, take, drop, sets-eq, take-append_seam}
use Rattle.lists.proofs.Kit.{ne_eqb, le-leb, lt-leb}
use Rattle.print.specs.Print.{Wrote}
use Rattle.print.proofs.Laws.{wrote_then}
use Rattle.vim_grammar.specs.declared.VimToken.{VimToken}
use Rattle.vim_grammar.specs.Tokens.{no_token}
use Rattle.vim_reader.specs.declared.VimSpec.{VimSpec}
use Rattle.vim_reader.specs.Table.{kept}
use Rattle.vim_writer.specs.declared.VimWritten.TheVariants.{Made, Refused}
use Rattle.vim_writer.specs.Written.{token_text, written, write_refusal, written_of, written_in}
use Rattle.vim_writer.proofs.WrittenLaws.{written_first, written_next, next_length, take_longer}

-- the same, written out otherwise
pub wrote_as : {out o : List ℕ} {at b : ℕ} {s u : List ℕ} → s ≡ u → Wrote out at s b o → Wrote out at u b o
wrote_as {out = out} {o = o} {at = at} {b = b} e w = subst (λ (l : List ℕ). Wrote out at l b o) e w

-- what was written to the front stands there
pub wrote_front : {out o : List ℕ} {b : ℕ} {s : List ℕ} → Wrote out 0 s b o → length s ≤ length out → take b o ≡ s
wrote_front {out = out} {o = o} {b = b} {s = s} w h =
    let at : 0 + length s ≡ length s = omega arith in
    let left : o ≡ s ++ drop (length s) out = w.left ∙ sets-eq s out 0 (omega arith) ∙ rw at in
    rw (left, w.next, at) (take-append_seam s (drop (length s) out))

-- one more token put
module _ {room o p : List ℕ} {at b : ℕ} (ts : List VimToken) (i : ℕ) (h : i < length ts) (w : Wrote room 0 (written (take i ts)) at o) where
  pub put_first : i ≡ 0 → Wrote o at (token_text (get_or ts i no_token)) b p → Wrote room 0 (written (take (i + 1) ts)) b p
  unfolding written
  put_first z v =
      let none : written (take i ts) ≡ [] = rw z in
      let both : Wrote room 0 (written (take i ts) ++ token_text (get_or ts i no_token)) b p = wrote_then w v in
      let joined_is : written (take i ts) ++ token_text (get_or ts i no_token) ≡ written (take (i + 1) ts) =
      ap (λ (l : List ℕ). l ++ token_text (get_or ts i no_token)) none ∙ sym (written_first ts i h z) in
      subst (λ (l : List ℕ). Wrote room 0 l b p) joined_is both

  pub put_next : {c : ℕ} {q : List ℕ} → (i ≡ 0 → ⊥) → Wrote o at (44 ∷ []) b p → Wrote p b (token_text (get_or ts i no_token)) c q →
      Wrote room 0 (written (take (i + 1) ts)) c q
  put_next {c = c} {q = q} n u v = subst (λ (l : List ℕ). Wrote room 0 l c q) (sym (written_next ts i h n)) (wrote_then w (wrote_then u v))

-- the room that the token at i takes is there
module _ (ts : List VimToken) (i at m : ℕ) (h : i < length ts) (r : length (written ts) ≤ m) (w : at ≡ 0 + length (written (take i ts))) where
  within : length (written (take (i + 1) ts)) ≤ m
  within = omega (arith, r, take_longer ts (i + 1) (length ts) (omega arith), ap (λ (l : List VimToken). length (written l)) (take-length ts))

  pub room_first : i ≡ 0 → at + length (token_text (get_or ts i no_token)) ≤ m
  unfolding written
  room_first z =
      let none : length (written (take i ts)) ≡ 0 = rw z in
      omega (arith, none, ap length (written_first ts i h z), within)

  pub room_next : (i ≡ 0 → ⊥) → at + 1 + length (token_text (get_or ts i no_token)) ≤ m
  room_next z = omega (arith, next_length ts i h z, within)

-- the answer
module _ (spec : VimSpec) (room : List ℕ) where
  refused_with : (f : ℕ) → write_refusal spec room ≡ f → (f ≡ 0 → ⊥) → (Refused f ≡ written_of spec room) × (room ≡ written_in spec room)
  unfolding written_of written_in
  refused_with f e n = (rw (e, ne_eqb f 0 n), rw (e, ne_eqb f 0 n))

  pub write_8 : 128 < spec.len → (Refused 8 ≡ written_of spec room) × (room ≡ written_in spec room)
  unfolding write_refusal
  write_8 h = refused_with 8 (rw (lt-leb spec.len 128 h)) (λ z. omega arith)

  pub write_14 : spec.len ≤ 128 → length room < length (written (kept spec)) → (Refused 14 ≡ written_of spec room) × (room ≡ written_in spec room)
  unfolding write_refusal
  write_14 h k = refused_with 14 (rw (le-leb spec.len 128 h, lt-leb (length (written (kept spec))) (length room) k)) (λ z. omega arith)

  pub write_made : (n : ℕ) (o : List ℕ) → spec.len ≤ 128 → length (written (kept spec)) ≤ length room → Wrote room 0 (written (kept spec)) n o →
      (Made n ≡ written_of spec room) × (o ≡ written_in spec room)
  unfolding write_refusal written_of written_in
  write_made n o h k w =
      let at : 0 + length (written (kept spec)) ≡ length (written (kept spec)) = omega arith in
      let size : n ≡ length (written (kept spec)) = w.next ∙ at in
      let none : write_refusal spec room ≡ 0 = rw (le-leb spec.len 128 h, le-leb (length (written (kept spec))) (length room) k) in
      (rw (none, size), rw none (w.left ∙ sets-eq (written (kept spec)) room 0 (omega arith) ∙ rw at))
