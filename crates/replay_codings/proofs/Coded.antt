-- Laws of bytes as numbers, and of what a call on UTF-8 comes to. Assumes nothing.
use Rattle.lists.proofs.Kit.{◌≡◌, refl, sym, ◌∙◌, List, [], ◌∷◌, Bool, true, false, cond, ℕ, ◌+◌, ◌/◌, ◌%◌, ◌<◌, add-one, arith, length, get_or, take, set}
use Rattle.lists.proofs.Kit.{replicate, take-suc, take-suc-set, ltb}
use Rattle.std.proofs.Common.{Result, Ok, Err}
use Rattle.utf8.specs.declared.DecodeError.{DecodeError}
use Rattle.utf8.specs.declared.DecodeError.TheVariants.{Bad, NoRoom}
use Rattle.utf8.specs.declared.EncodeError.{EncodeError}
use Rattle.utf8.specs.Decoding.{decoding}
use Rattle.utf8.specs.Calls.{decoded, encoded, encoded_in}
use Rattle.call_bytes.specs.Reply.{Replied, refused, left}
use Rattle.call_utf8.specs.Utf8.{told_decoded, decodes, decodes_in, told_encoded, encodes}
use Rattle.replay_verdicts.specs.declared.Verdict.{Verdict}
use Rattle.replay_verdicts.specs.Answers.{compared, filler}
use Rattle.replay_codings.specs.Codings.{decoded_into, encoded_into}

-- one number more
pub take_on : (numbers bytes : List ℕ) (i : ℕ) → i < length numbers → i < length bytes → take i bytes ≡ take i numbers →
    take (i + 1) (set bytes i (get_or numbers i 0)) ≡ take (i + 1) numbers
take_on numbers bytes i h k e = rw (add-one i, take-suc-set bytes i (get_or numbers i 0) k, take-suc numbers i 0 h, e)

pub no_true : {A : Type 0} → ◌≡◌ {A = Bool} false true → A
no_true e = let never : ◌≡◌ {A = ℕ} 0 1 = cc in absurd (omega arith)

-- a reply to one place leaves one number there
pub decoded_single : (b points : List ℕ) → left (decodes b points) (filler ∷ []) ≡ get_or (left (decodes b points) (filler ∷ [])) 0 0 ∷ []
unfolding decodes told_decoded
decoded_single b points = go (ltb 4294967295 (length b)) (decoded (decoding b) (length points))
  where
    go : (c : Bool) (d : Result ℕ DecodeError) →
        left (cond c (refused 103) (told_decoded d)) (filler ∷ []) ≡ get_or (left (cond c (refused 103) (told_decoded d)) (filler ∷ [])) 0 0 ∷ []
    go true d = refl
    go false (Ok n) = refl
    go false (Err (Bad at)) = refl
    go false (Err NoRoom) = refl

pub encoded_single : (t bytes : List ℕ) → left (encodes t bytes) (filler ∷ []) ≡ get_or (left (encodes t bytes) (filler ∷ [])) 0 0 ∷ []
unfolding told_encoded
encoded_single t bytes = go (encoded t (length bytes))
  where
    go : (d : Result ℕ EncodeError) → left (told_encoded d) (filler ∷ []) ≡ get_or (left (told_encoded d) (filler ∷ [])) 0 0 ∷ []
    go (Ok n) = refl
    go (Err e) = refl

-- what is compared is what the definitions give
pub decoded_compared : (b points stored : List ℕ) {r : ℕ} {out : List ℕ} {v : Verdict} → Replied (decodes b points) (replicate 1 filler) r out →
    v ≡ compared (r % 4294967296 ∷ r / 4294967296 ∷ get_or out 0 0 ∷ decodes_in b points) stored → v ≡ compared (decoded_into b points) stored
unfolding decoded_into
decoded_compared b points stored p e = e ∙ rw (p.numbered, p.out_left) (sym (rw (decoded_single b points) refl))

pub encoded_compared : (t bytes stored : List ℕ) {r : ℕ} {out : List ℕ} {v : Verdict} → Replied (encodes t bytes) (replicate 1 filler) r out →
    v ≡ compared (r ∷ get_or out 0 0 ∷ encoded_in t bytes) stored → v ≡ compared (encoded_into t bytes) stored
unfolding encoded_into
encoded_compared t bytes stored p e = e ∙ rw (p.numbered, p.out_left) (sym (rw (encoded_single t bytes) refl))
