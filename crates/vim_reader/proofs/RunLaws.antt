-- Laws of the pass that fills the table: what was read before an index, and what is read from there on; one code point more. Assumes nothing.
use Rattle.lists.proofs.Kit.{◌≡◌, refl, ap, sym, ◌∙◌, List, [], ◌∷◌, ◌++◌, append_assoc, cond, ℕ, suc, ◌+◌, ◌≤◌, ◌<◌, arith, length, get_or, drop, set}
use Rattle.lists.proofs.Kit.{length-append, eqb, ne_eqb}
use Rattle.lists.proofs.Lists.{drop_at}
use Rattle.vim_grammar.specs.declared.VimToken.{VimToken}
use Rattle.vim_reader.specs.declared.State.{State}
use Rattle.vim_reader.specs.declared.State.TheVariants.{Start}
use Rattle.vim_reader.specs.declared.VimSpec.{VimSpec}
use Rattle.vim_reader.specs.Machine.{step_of, token_of, phase_of}
use Rattle.vim_reader.specs.Reading.{Reading, read, bad, onto, later, reading, vim_reading}
use Rattle.vim_reader.specs.Table.{table}
use Rattle.vim_reader.proofs.StateLaws.{step_no_start}
use Rattle.vim_reader.proofs.TableLaws.{table_push}

-- i code points with the tokens ts stood before
unfoldable pub after : ℕ → List VimToken → Reading → Reading
after i ts (read us) = read (ts ++ us)
after i ts (bad n) = bad (i + n)

after_none : (r : Reading) → r ≡ after 0 [] r
unfolding after
after_none (read us) = refl
after_none (bad n) = let n_is : n ≡ 0 + n = omega arith in ap bad n_is

after_later : (i : ℕ) (ts : List VimToken) (r : Reading) → after i ts (later r) ≡ after (i + 1) ts r
unfolding after later
after_later i ts (read us) = refl
after_later i ts (bad n) = let sum_is_lem : i + suc n ≡ i + 1 + n = omega arith in ap bad sum_is_lem

after_onto : (i : ℕ) (ts : List VimToken) (t : VimToken) (r : Reading) → after i ts (later (onto t r)) ≡ after (i + 1) (ts ++ (t ∷ [])) r
unfolding after later onto
after_onto i ts t (read us) = ap read (sym (append_assoc ts (t ∷ []) us))
after_onto i ts t (bad n) = let sum_is_lem : i + suc n ≡ i + 1 + n = omega arith in ap bad sum_is_lem

-- the pass so far: the table holds the tokens before index i, if there are at most 128
pub record Run (l : List ℕ) (σ : State) (i n : ℕ) (spec : VimSpec) : Type 0 where
  pub ts : List VimToken
  pub inside : i ≤ length l
  pub same : vim_reading l ≡ after i ts (reading σ (drop i l))
  pub count : n ≡ length ts
  pub fewer : n ≤ i
  pub start : phase_of σ ≡ 2 → n ≡ 0
  pub holds : n ≤ 128 → spec ≡ table ts

pub run_start_lem : (l : List ℕ) (spec : VimSpec) → spec ≡ table [] → Run l Start 0 0 spec
run_start_lem l spec e =
    record {
      ts = [];
      inside = omega arith;
      same = after_none (vim_reading l);
      count = refl;
      fewer = omega arith;
      start = λ z. refl;
      holds = λ z. e;
    }

module _ {l : List ℕ} {σ : State} {i n : ℕ} {spec : VimSpec} (run : Run l σ i n spec) where
  module _ (h : i < length l) (σ' : State) (s : σ' ≡ step_of σ (get_or l i 0)) (k : ℕ) (p : k ≡ phase_of σ') where
    to : reading σ (drop i l) ≡ cond (eqb k 0) (bad 0) (later (cond (eqb k 1) (onto (token_of σ) (reading σ' (drop (i + 1) l))) (reading σ' (drop (i + 1) l))))
    unfolding reading
    to = rw (drop_at l i h, p, s)

    pub run_dead : k ≡ 0 → vim_reading l ≡ bad i
    unfolding after
    run_dead z =
        let reading_is : reading σ (drop i l) ≡ bad 0 = to ∙ rw z in
        let i_plus_zero : i + 0 ≡ i = omega arith in
        run.same ∙ ap (after i run.ts) reading_is ∙ ap bad i_plus_zero

    pub run_on : (k ≡ 0 → ⊥) → (k ≡ 1 → ⊥) → Run l σ' (i + 1) n spec
    run_on z w =
        let reading_is : reading σ (drop i l) ≡ later (reading σ' (drop (i + 1) l)) = to ∙ rw (ne_eqb k 0 z, ne_eqb k 1 w) in
        record {
          ts = run.ts;
          inside = omega arith;
          same = run.same ∙ ap (after i run.ts) reading_is ∙ after_later i run.ts (reading σ' (drop (i + 1) l));
          count = run.count;
          fewer = omega (arith, run.fewer);
          start = λ y. absurd (step_no_start σ (get_or l i 0) (sym (ap phase_of s) ∙ y));
          holds = run.holds;
        }

    comma : k ≡ 1 → vim_reading l ≡ after (i + 1) (run.ts ++ (token_of σ ∷ [])) (reading σ' (drop (i + 1) l))
    comma z =
        let reading_is : reading σ (drop i l) ≡ later (onto (token_of σ) (reading σ' (drop (i + 1) l))) = to ∙ rw z in
        run.same ∙ ap (after i run.ts) reading_is ∙ after_onto i run.ts (token_of σ) (reading σ' (drop (i + 1) l))

    pub run_part : k ≡ 1 → (spec' : VimSpec) → (n < 128 → spec' ≡ record { tokens = set spec.tokens n (token_of σ); len = n + 1 }) →
        Run l σ' (i + 1) (n + 1) spec'
    run_part z spec' w =
        record {
          ts = run.ts ++ (token_of σ ∷ []);
          inside = omega arith;
          same = comma z;
          count = omega (arith, run.count, length-append run.ts (token_of σ ∷ []));
          fewer = omega (arith, run.fewer);
          start = λ y. absurd (step_no_start σ (get_or l i 0) (sym (ap phase_of s) ∙ y));
          holds = λ few. push few;
        }
      where
        push : n + 1 ≤ 128 → spec' ≡ table (run.ts ++ (token_of σ ∷ []))
        push few =
            let spec_is : spec ≡ table run.ts = run.holds (omega arith) in
            w (omega arith) ∙ ap (λ (x : VimSpec). record { tokens = set x.tokens n (token_of σ); len = n + 1 }) spec_is
            ∙ ap (λ (m : ℕ). record { tokens = set (table run.ts).tokens m (token_of σ); len = m + 1 }) run.count
            ∙ table_push run.ts (token_of σ) (omega (arith, run.count))
