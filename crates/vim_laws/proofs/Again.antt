-- Reading what was written of a list that was read gives the same table again: the written list is one of the grammar, of ASCII alone, and not
-- longer. Assumes nothing.
use Rattle.lists.proofs.Kit.{◌≡◌, refl, ap, sym, ◌∙◌, List, ◌++◌, Bool, true, false, cond, ℕ, ◌≤◌, arith, length, take, drop, take-append_seam, eqb, leb}
use Rattle.lists.proofs.Kit.{le-leb, leb-true}
use Rattle.lists.specs.Lists.{any}
use Rattle.chars.specs.Scalar.{not_scalar}
use Rattle.vim_grammar.specs.declared.VimToken.{VimToken}
use Rattle.vim_grammar.specs.Tokens.{in_vim}
use Rattle.vim_grammar.specs.Grammar.{Reads}
use Rattle.vim_reader.specs.declared.VimRead.{VimRead}
use Rattle.vim_reader.specs.declared.VimSpec.{VimSpec}
use Rattle.vim_reader.specs.Reading.{Reading, read, bad, vim_reading}
use Rattle.vim_reader.specs.Table.{table, kept, answered, refused_at, read_of}
use Rattle.vim_reader.proofs.TableLaws.{table_kept}
use Rattle.vim_writer.specs.declared.VimWritten.TheVariants.{Made, Refused}
use Rattle.vim_writer.specs.Written.{written, write_refusal, written_of, written_in}
use Rattle.vim_laws.specs.Written as statements
use Rattle.vim_laws.proofs.Sound.{reads_sound}
use Rattle.vim_laws.proofs.Complete.{reads_complete}
use Rattle.vim_laws.proofs.Written.{reads_written}
use Rattle.vim_laws.proofs.Scalars.{reads_scalar}

-- what an accepted list is
pub record Taken (l : List ℕ) : Type 0 where
  pub ts : List VimToken
  pub reads : vim_reading l ≡ read ts
  pub few : length ts ≤ 128
  pub short : length l ≤ 1024
  pub is : read_of l ≡ record { refusal = 0; place = 0; spec = table ts }

no_refusal : (n : ℕ) (r : VimRead) → r ≡ refused_at n 0 → r.refusal ≡ 0 → n ≡ 0
no_refusal n r e z = sym (ap (λ (q : VimRead). q.refusal) e) ∙ z

pub taken : (l : List ℕ) → (read_of l).refusal ≡ 0 → Taken l
unfolding answered
taken l z = list (leb (length l) 1024) refl (any not_scalar l) refl
  where
    tokens : (ts : List VimToken) (b : Bool) → vim_reading l ≡ read ts → leb (length ts) 128 ≡ b → length l ≤ 1024 → read_of l ≡ answered (vim_reading l) → Taken l
    tokens ts true r few short e = record { ts = ts; reads = r; few = leb-true (length ts) 128 few; short = short; is = e ∙ rw (r, few) }
    tokens ts false r few short e =
        let never : ◌≡◌ {A = ℕ} 8 0 = no_refusal 8 (read_of l) (e ∙ rw (r, few)) z in
        absurd (omega arith)

    reading : (r : Reading) → vim_reading l ≡ r → length l ≤ 1024 → read_of l ≡ answered (vim_reading l) → Taken l
    reading (read ts) r short e = tokens ts (leb (length ts) 128) r refl short e
    reading (bad n) r short e =
        let read_is : read_of l ≡ refused_at 17 n = e ∙ rw r in
        let never : ◌≡◌ {A = ℕ} 17 0 = sym (ap (λ (q : VimRead). q.refusal) read_is) ∙ z in
        absurd (omega arith)

    list : (b : Bool) → leb (length l) 1024 ≡ b → (s : Bool) → any not_scalar l ≡ s → Taken l
    list true h false s = reading (vim_reading l) refl (leb-true (length l) 1024 h) (rw (h, s))
    list true h true s = let never : ◌≡◌ {A = ℕ} 7 0 = no_refusal 7 (read_of l) (rw (h, s)) z in absurd (omega arith)
    list false h s e = let never : ◌≡◌ {A = ℕ} 7 0 = no_refusal 7 (read_of l) (rw h) z in absurd (omega arith)

module _ (l : List ℕ) (t : Taken l) where
  tokens : kept (read_of l).spec ≡ t.ts
  tokens = ap (λ (r : VimRead). kept r.spec) t.is ∙ table_kept t.ts

  again_reads : Reads (written t.ts) t.ts × (length (written t.ts) ≤ length l)
  again_reads = reads_written (reads_sound l t.ts t.reads)

  back : read_of (written t.ts) ≡ record { refusal = 0; place = 0; spec = table t.ts }
  unfolding answered
  back =
      let short : length (written t.ts) ≤ 1024 = omega (arith, again_reads.1, t.short) in
      rw (le-leb (length (written t.ts)) 1024 short, reads_scalar again_reads.0, reads_complete again_reads.0, le-leb (length t.ts) 128 t.few)

  same_again : read_of (written (kept (read_of l).spec)) ≡ read_of l
  same_again = ap (λ (ts : List VimToken). read_of (written ts)) tokens ∙ back ∙ sym t.is

no_made : (f n : ℕ) → Refused f ≡ Made n → ⊥
no_made f n e = let never : ◌≡◌ {A = ℕ} 0 1 = cc in omega arith

there : (spec : VimSpec) (room : List ℕ) (n : ℕ) → written_of spec room ≡ Made n → take n (written_in spec room) ≡ written (kept spec)
unfolding written_of written_in
there spec room n e = go (eqb (write_refusal spec room) 0) refl e
  where
    w : List ℕ
    w = written (kept spec)

    go : (b : Bool) → eqb (write_refusal spec room) 0 ≡ b → cond b (Made (length w)) (Refused (write_refusal spec room)) ≡ Made n →
        take n (cond b (w ++ drop (length w) room) room) ≡ w
    go true z g =
        let size : length w ≡ n = cc g in
        ap (λ (k : ℕ). take k (w ++ drop (length w) room)) (sym size) ∙ take-append_seam w (drop (length w) room)
    go false z g = absurd (no_made (write_refusal spec room) n g)

pub again : (l : List ℕ) → (read_of l).refusal ≡ 0 → statements.Again l
again l z =
    let by_taken = taken l z in
    record {
      same = same_again l by_taken;
      holds = λ c. ap (λ (r : VimRead). in_vim (kept r.spec) c) (same_again l by_taken);
      shorter = rw (tokens l by_taken) (again_reads l by_taken).1;
      written_there = there (read_of l).spec;
    }
