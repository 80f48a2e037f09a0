-- What the calls go by: a place and a length fit their numbers. Assumes nothing.
use Rattle.lists.proofs.Kit.{◌≡◌, refl, ap, subst, List, Bool, true, false, cond, ℕ, ◌≤◌, arith, length, eqb, leb, leb-true, eqb-true, eq-eqb, ne_eqb}
use Rattle.list_parts.specs.Refusals.{char_refusal, list_refusal}
use Rattle.vim_reader.specs.declared.VimRead.{VimRead}
use Rattle.vim_reader.specs.declared.VimSpec.{VimSpec}
use Rattle.vim_reader.specs.declared.VimTested.{VimTested}
use Rattle.vim_reader.specs.declared.VimTested.TheVariants.{Is, Bad, Refused as Tested-as-Refused}
use Rattle.vim_reader.specs.Reading.{Reading, read, bad, vim_reading}
use Rattle.vim_reader.specs.Table.{table, kept, answered, refused_at, read_of, tested_of}
use Rattle.vim_writer.specs.declared.VimWritten.{VimWritten}
use Rattle.vim_writer.specs.declared.VimWritten.TheVariants.{Made, Refused as Written-as-Refused}
use Rattle.vim_writer.specs.Written.{written, write_refusal, written_of, written_in}
use Rattle.vim_grammar.specs.Tokens.{in_vim}
use Rattle.vim_laws.proofs.Lists.{bad_place}
use Rattle.vim_laws.proofs.Again.{taken, again}
use Rattle.call_signs.specs.declared.Placed.TheVariants.{Refused}
use Rattle.call_signs.specs.Entry.{placed}
use Rattle.call_vim.specs.Vim.{written_placed, vim_writing, vim_left}

-- a place is within a list of 1,024
answered_place : (l : List ℕ) (r : Reading) → vim_reading l ≡ r → (answered r).place ≤ length l
unfolding answered
answered_place l (read ts) e = go (leb (length ts) 128)
  where
    go : (b : Bool) → (cond b (record { refusal = 0; place = 0; spec = table ts }) (refused_at 8 0)).place ≤ length l
    go true = omega arith
    go false = omega arith
answered_place l (bad n) e = (bad_place l n e).inside

pub read_place : (l : List ℕ) → (read_of l).place ≤ 1024
read_place l = go (eqb (list_refusal l) 0) refl
  where
    short : list_refusal l ≡ 0 → length l ≤ 1024
    short z = cut (leb (length l) 1024) refl
      where
        cut : (b : Bool) → leb (length l) 1024 ≡ b → length l ≤ 1024
        cut true e = leb-true (length l) 1024 e
        cut false e = let never : ◌≡◌ {A = ℕ} 7 0 = rw e at z in absurd (omega arith)

    go : (b : Bool) → eqb (list_refusal l) 0 ≡ b → (cond b (answered (vim_reading l)) (refused_at 7 0)).place ≤ 1024
    go true e = omega (arith, answered_place l (vim_reading l) refl, short (eqb-true (list_refusal l) 0 e))
    go false e = omega arith

-- and so is the place of a character's test
place_of : VimTested → ℕ
place_of (Is b) = 0
place_of (Bad n) = n
place_of (Tested-as-Refused f) = 0

pub tested_place : (x : ℕ) (l : List ℕ) (n : ℕ) → tested_of x l ≡ Bad n → n ≤ 1024
unfolding place_of
tested_place x l n e = subst (λ (k : ℕ). k ≤ 1024) (ap place_of e) (go (eqb (char_refusal x) 0) (eqb (read_of l).refusal 0) (eqb (read_of l).refusal 17))
  where
    go : (a b d : Bool) → place_of (cond a (cond b (Is (in_vim (kept (read_of l).spec) x)) (cond d (Bad (read_of l).place) (Tested-as-Refused (read_of l).refusal)))
        (Tested-as-Refused (char_refusal x))) ≤ 1024
    go true true d = omega arith
    go true false true = read_place l
    go true false false = omega arith
    go false b d = omega arith

-- a written list fits its number
size_of : VimWritten → ℕ
size_of (Made n) = n
size_of (Written-as-Refused f) = 0

written_most : (spec : VimSpec) (room : List ℕ) → size_of (written_of spec room) ≤ length (written (kept spec))
unfolding size_of written_of
written_most spec room = go (eqb (write_refusal spec room) 0)
  where
    go : (b : Bool) → size_of (cond b (Made (length (written (kept spec)))) (Written-as-Refused (write_refusal spec room))) ≤ length (written (kept spec))
    go true = omega arith
    go false = omega arith

pub written_size : (l room : List ℕ) (n : ℕ) → (read_of l).refusal ≡ 0 → written_of (read_of l).spec room ≡ Made n → n ≤ 1024
unfolding size_of
written_size l room n z e =
    let size : size_of (written_of (read_of l).spec room) ≡ n = ap size_of e in
    omega (arith, written_most (read_of l).spec room, size, (again l z).shorter, (taken l z).short)

-- the answer of a list read and written, by what reading gave
module _ (l room : List ℕ) (r : VimRead) (w : r ≡ read_of l) where
  pub writing_refused : (f : ℕ) → f ≡ placed r.refusal r.place → (r.refusal ≡ 0 → ⊥) → (Refused f ≡ vim_writing l room) × (room ≡ vim_left l room)
  unfolding vim_writing vim_left
  writing_refused f e n = (rw (← w, ne_eqb r.refusal 0 n, e), rw (← w, ne_eqb r.refusal 0 n))

  pub writing_told : r.refusal ≡ 0 → (m : VimWritten) (left : List ℕ) → (m ≡ written_of r.spec room) × (left ≡ written_in r.spec room) →
      (written_placed m ≡ vim_writing l room) × (left ≡ vim_left l room)
  unfolding vim_writing vim_left
  writing_told z m left k = (rw (← w, eq-eqb r.refusal 0 z) (ap written_placed k.0), rw (← w, eq-eqb r.refusal 0 z) k.1)
