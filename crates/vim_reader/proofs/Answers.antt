-- Laws of the answers of `matches` and `is_vim_char`. Assumes nothing.
use Rattle.lists.proofs.Kit.{◌≡◌, refl, List, Bool, true, false, cond, ℕ, zero, suc, ◌≤◌, arith, length, leb, eqb, ne_eqb, leb-true}
use Rattle.list_parts.specs.Refusals.{lowest, char_refusal, list_refusal}
use Rattle.vim_grammar.specs.Tokens.{in_vim}
use Rattle.vim_reader.specs.declared.VimMatched.TheVariants.{Refused}
use Rattle.vim_reader.specs.declared.VimRead.{VimRead}
use Rattle.vim_reader.specs.declared.VimTested.TheVariants.{Is, Bad, Refused as Tested-as-Refused}
use Rattle.vim_reader.specs.Reading.{Reading, read, bad, vim_reading}
use Rattle.vim_reader.specs.Table.{table, kept, matched, answered, refused_at, read_of, tested_by, tested_of}

pub matched_refused : (a b : ℕ) → (a ≡ 0 → ⊥) → (v : Bool) → Refused a ≡ matched (lowest a b) v
matched_refused zero b n v = absurd (n refl)
matched_refused (suc a) b n v = rw (ne_eqb (suc a) 0 n)

-- a table that was read has at most 128 tokens
answered_few : (r : Reading) → (answered r).spec.len ≤ 128
unfolding answered
answered_few (read ts) = go (leb (length ts) 128) refl
  where
    go : (b : Bool) → leb (length ts) 128 ≡ b → (cond b (record { refusal = 0; place = 0; spec = table ts }) (refused_at 8 0)).spec.len ≤ 128
    go true e = leb-true (length ts) 128 e
    go false e = omega arith
answered_few (bad n) = omega arith

pub read_few : (l : List ℕ) → (read_of l).spec.len ≤ 128
read_few l = go (eqb (list_refusal l) 0) refl
  where
    go : (b : Bool) → eqb (list_refusal l) 0 ≡ b → (cond b (answered (vim_reading l)) (refused_at 7 0)).spec.len ≤ 128
    go true e = answered_few (vim_reading l)
    go false e = omega arith

-- the answer by what `parse` gave
module _ (c : ℕ) (r : VimRead) where
  pub tested_bad : r.refusal ≡ 17 → Bad r.place ≡ tested_by c r
  tested_bad e = rw e

  pub tested_refused : (r.refusal ≡ 17 → ⊥) → (r.refusal ≡ 0 → ⊥) → Tested-as-Refused r.refusal ≡ tested_by c r
  tested_refused n m = rw (ne_eqb r.refusal 0 m, ne_eqb r.refusal 17 n)

  pub tested_is : r.refusal ≡ 0 → Is (in_vim (kept r.spec) c) ≡ tested_by c r
  tested_is e = rw e

-- the character comes first
module _ (c : ℕ) (l : List ℕ) (n : ℕ) (w : n ≡ char_refusal c) where
  pub tested_first : (n ≡ 0 → ⊥) → Tested-as-Refused n ≡ tested_of c l
  tested_first z = rw (← w, ne_eqb n 0 z)

  pub tested_list : n ≡ 0 → (r : VimRead) → r ≡ read_of l → tested_by c r ≡ tested_of c l
  tested_list z r e = rw (← w, z, e)
