-- The statements of `specs/Lists.antt`: exactly the lists of the grammar, one reading each, and the place. Assumes nothing.
use Rattle.lists.proofs.Kit.{◌≡◌, refl, subst, List, [], ◌∷◌, ◌++◌, ℕ, suc, ◌+◌, ◌<◌, arith, length, take}
use Rattle.lists.specs.Beginnings.{Place}
use Rattle.vim_grammar.specs.declared.VimToken.{VimToken}
use Rattle.vim_grammar.specs.Grammar.{Reads, Accepted}
use Rattle.vim_reader.specs.declared.State.TheVariants.{Part}
use Rattle.vim_reader.specs.Machine.{step_of, phase_of, token_of, ends}
use Rattle.vim_reader.specs.Reading.{Reading, read, bad, reading, vim_reading}
use Rattle.vim_laws.specs.Lists as statements
use Rattle.vim_laws.proofs.Spelt.{at_part}
use Rattle.vim_laws.proofs.Sound.{reads_sound}
use Rattle.vim_laws.proofs.Complete.{reads_complete}
use Rattle.vim_laws.proofs.Places.{IsRead, Wrong, wrong_from}

pub one_reading : (l : List ℕ) (ts us : List VimToken) → Reads l ts → Reads l us → ts ≡ us
one_reading l ts us a b = let by_reads_complete = reads_complete a in let by_reads_complete_b = reads_complete b in cc

pub bad_refused : (l : List ℕ) (n : ℕ) → vim_reading l ≡ bad n → Accepted l → ⊥
bad_refused l n e (ts, a) = let by_reads_complete = reads_complete a in let never : ◌≡◌ {A = ℕ} 0 1 = cc in omega arith

accepted_read : (l : List ℕ) → IsRead (vim_reading l) → Accepted l
unfolding IsRead
accepted_read l is = go (vim_reading l) refl is
  where
    go : (r : Reading) → vim_reading l ≡ r → IsRead r → Accepted l
    go (read ts) e i = (ts, reads_sound l ts e)
    go (bad n) e i = absurd i

-- a list that goes wrong at its start's state goes wrong as its first part does
wrong_list : (l : List ℕ) (n : ℕ) → vim_reading l ≡ bad n → Wrong Part l n
unfolding reading step_of token_of ends phase_of
wrong_list [] n e = let never : ◌≡◌ {A = ℕ} 0 1 = cc in absurd (omega arith)
wrong_list (x ∷ l) n e = wrong_from (x ∷ l) at_part n e

start_read : (l : List ℕ) → IsRead (reading Part l) → IsRead (vim_reading l)
unfolding reading step_of token_of ends phase_of IsRead
start_read [] i = tt
start_read (x ∷ l) i = i

start_bad : (x : ℕ) (l : List ℕ) (n : ℕ) → reading Part (x ∷ l) ≡ bad n → vim_reading (x ∷ l) ≡ bad n
unfolding reading step_of token_of
start_bad x l n e = e

pub bad_place : (l : List ℕ) (n : ℕ) → vim_reading l ≡ bad n → Place Accepted l n
bad_place l n e =
    let by_wrong_list = wrong_list l n e in
    record {
      inside = by_wrong_list.inside;
      begins = (by_wrong_list.rest, accepted_read (take n l ++ by_wrong_list.rest) (start_read (take n l ++ by_wrong_list.rest) by_wrong_list.begins));
      longest = λ h g. never l n h g.0 (by_wrong_list.longest h g.0) g.1;
    }
  where
    never : (l : List ℕ) (n : ℕ) → n < length l → (u : List ℕ) → reading Part (take (suc n) l ++ u) ≡ bad n → Accepted (take (n + 1) l ++ u) → ⊥
    never [] n h u f a = absurd (omega arith)
    never (x ∷ l) n h u f a =
        let one : n + 1 ≡ suc n = omega arith in
        bad_refused (take (suc n) (x ∷ l) ++ u) n (start_bad x (take n l ++ u) n f) (subst (λ (m : ℕ). Accepted (take m (x ∷ l) ++ u)) one a)

pub lists : (l : List ℕ) → statements.Lists l
lists l =
    record {
      reads_exactly = λ ts. (reads_sound l ts, λ r. reads_complete r);
      one_reading = one_reading l;
      place = bad_place l;
      refused = bad_refused l;
    }
