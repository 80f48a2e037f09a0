-- Bytes cut behind an ASCII byte: the whole is read exactly where both parts are, one after the other. Assumes nothing.
use Rattle.lists.proofs.Kit.{◌≡◌, refl, ap, sym, ◌∙◌, List, [], ◌∷◌, ◌++◌, Bool, true, false, cond, ◌&&◌, ℕ, zero, suc, ◌+◌, ◌*◌, ◌-◌, ◌≤◌, ◌<◌, arith, length}
use Rattle.lists.proofs.Kit.{leb}
use Rattle.utf8.specs.Decoding.{Reading, text, bad, onto, is_lead, tails_of, low_of, high_of, bits_of, ended, reading, reading_from, decoding}
use Rattle.utf8.specs.Walks.{text_of, points_of}
use Rattle.utf8.proofs.Leads.{low_least}
use Rattle.utf8.proofs.Ascii.{read_ascii}
use Rattle.utf8.proofs.Readings.{reading_fresh, tail_low}
use Rattle.utf8.proofs.Sound.{reads_encoded}
use Rattle.utf8.proofs.Accepts.{decoding_text}

-- the second is read behind the first, if that is read
unfoldable pub behind : Reading → Reading → Reading
behind (text []) r = r
behind (text (x ∷ t)) r = onto x (behind (text t) r)
behind (bad n) r = bad n

behind_onto : (x : ℕ) (p r : Reading) → behind (onto x p) r ≡ onto x (behind p r)
unfolding behind onto
behind_onto x (text t) r = refl
behind_onto x (bad n) r = refl

behind_ended : (left value : ℕ) (p r : Reading) → ended left value (behind p r) ≡ behind (ended left value p) r
unfolding ended
behind_ended zero value p r = sym (behind_onto value p r)
behind_ended (suc left) value p r = refl

behind_cond : (c : Bool) (p r : Reading) (n : ℕ) → cond c (behind p r) (bad n) ≡ behind (cond c p (bad n)) r
unfolding behind
behind_cond true p r n = refl
behind_cond false p r n = refl

reading_cut : (s : List ℕ) (left low high value at x : ℕ) (u : List ℕ) → x < 0x80 → 0x80 ≤ low →
    reading left low high value at (s ++ (x ∷ u)) ≡ behind (reading left low high value at s) (onto x (reading_from (at + length s + 1) u))
unfolding reading behind
reading_cut [] zero low high value at x u h k =
    let sum_is : at + 0 + 1 ≡ at + 1 = omega arith in
    rw sum_is (read_ascii at x u h)
reading_cut [] (suc left) low high value at x u h k = tail_low at x u left low high value (omega arith)
reading_cut (a ∷ s) zero low high value at x u h k =
    let sum_is : at + suc (length s) + 1 ≡ at + 1 + length s + 1 = omega arith in
    let onto_here = onto x (reading_from (at + 1 + length s + 1) u) in
    let reading_here = reading (tails_of a) (low_of a) (high_of a) (bits_of a) (at + 1) s in
    rw (
      sum_is,
      reading_cut s (tails_of a) (low_of a) (high_of a) (bits_of a) (at + 1) x u h (low_least a),
      behind_ended (tails_of a) (bits_of a) reading_here onto_here,
    ) (behind_cond (is_lead a) (ended (tails_of a) (bits_of a) reading_here) onto_here at)
reading_cut (a ∷ s) (suc left) low high value at x u h k =
    let sum_is : at + suc (length s) + 1 ≡ at + 1 + length s + 1 = omega arith in
    let onto_here = onto x (reading_from (at + 1 + length s + 1) u) in
    let bits = value * 64 + (a - 0x80) in
    let reading_here = reading left 0x80 0xbf bits (at + 1) s in
    rw (sum_is, reading_cut s left 0x80 0xbf bits (at + 1) x u h (omega arith), behind_ended left bits reading_here onto_here)
    (behind_cond (leb low a && leb a high) (ended left bits reading_here) onto_here at)

-- the whole is read part by part
pub decoding_cut : (s : List ℕ) (x : ℕ) (u : List ℕ) → x < 0x80 → decoding (s ++ (x ∷ u)) ≡ behind (decoding s) (onto x (reading_from (0 + length s + 1) u))
decoding_cut s x u h = sym (reading_fresh 0x80 0 0 0 (s ++ (x ∷ u))) ∙ reading_cut s 0 0x80 0 0 0 x u h (omega arith)
    ∙ ap (λ (p : Reading). behind p (onto x (reading_from (0 + length s + 1) u))) (reading_fresh 0x80 0 0 0 s)

-- what stands behind is read where the whole is
onto_read : (x : ℕ) (r : Reading) (t : List ℕ) → onto x r ≡ text t → (u : List ℕ) × (r ≡ text u)
unfolding onto
onto_read x (text u) t e = (u, refl)
onto_read x (bad n) t e = let never : ◌≡◌ {A = ℕ} 0 1 = cc in absurd (omega arith)

behind_read : (l : List ℕ) (r : Reading) (t : List ℕ) → behind (text l) r ≡ text t → (u : List ℕ) × (r ≡ text u)
unfolding behind
behind_read [] r t e = (t, e)
behind_read (y ∷ l) r t e = let by_onto_read = onto_read y (behind (text l) r) t e in behind_read l r by_onto_read.0 by_onto_read.1

behind_last : (p r : Reading) (t : List ℕ) → behind p r ≡ text t → (u : List ℕ) × (r ≡ text u)
unfolding behind
behind_last (text l) r t e = behind_read l r t e
behind_last (bad n) r t e = let never : ◌≡◌ {A = ℕ} 0 1 = cc in absurd (omega arith)

pub good_behind : (s : List ℕ) (x : ℕ) (u t : List ℕ) → x < 0x80 → decoding (s ++ (x ∷ u)) ≡ text t → decoding u ≡ text (points_of u)
unfolding text_of
good_behind s x u t h e =
    let by_behind_last = behind_last (decoding s) (onto x (reading_from (0 + length s + 1) u)) t (sym (decoding_cut s x u h) ∙ e) in
    let by_onto_read = onto_read x (reading_from (0 + length s + 1) u) by_behind_last.0 by_behind_last.1 in
    let by_decoding_text = (decoding_text u by_onto_read.0).1 (reads_encoded (0 + length s + 1) u by_onto_read.0 by_onto_read.1) in
    rw by_decoding_text
