-- What the pass that fills the table answers at the end of the list: cut short, empty, with too many tokens, or with the last one put.
-- Assumes nothing.
use Rattle.lists.proofs.Kit.{◌≡◌, ap, sym, ◌∙◌, List, [], ◌∷◌, ◌++◌, append-nil, true, false, cond, ℕ, ◌+◌, ◌≤◌, ◌<◌, arith, length, drop, set, length-append}
use Rattle.lists.proofs.Kit.{drop_of_length-le, ne_eqb, le-leb, lt-leb}
use Rattle.vim_reader.specs.declared.State.{State}
use Rattle.vim_reader.specs.declared.VimSpec.{VimSpec}
use Rattle.vim_reader.specs.Machine.{token_of, ends, phase_of, is_start}
use Rattle.vim_reader.specs.Reading.{read, bad, reading, vim_reading}
use Rattle.vim_reader.specs.Table.{table, refused_at, answered}
use Rattle.vim_reader.proofs.TableLaws.{table_push}
use Rattle.vim_reader.proofs.RunLaws.{after, Run}

module _ {l : List ℕ} {σ : State} {i n : ℕ} {spec : VimSpec} (run : Run l σ i n spec) (h : length l ≤ i) where
  here : reading σ (drop i l) ≡ cond (ends σ) (read (cond (is_start σ) [] (token_of σ ∷ []))) (bad 0)
  unfolding reading
  here = rw (drop_of_length-le l {i = i} h)

  pub run_cut : ends σ ≡ false → refused_at 17 i ≡ answered (vim_reading l)
  unfolding after answered
  run_cut e =
      let i_plus_zero : i + 0 ≡ i = omega arith in
      let reading_is : reading σ (drop i l) ≡ bad 0 = here ∙ rw e in
      sym (ap answered (run.same ∙ ap (after i run.ts) reading_is ∙ ap bad i_plus_zero))

  pub run_none : ends σ ≡ true → phase_of σ ≡ 2 → record { refusal = 0; place = 0; spec = spec } ≡ answered (vim_reading l)
  unfolding after answered
  run_none e z =
      let reading_is : reading σ (drop i l) ≡ read [] = here ∙ rw (e, z) in
      let is : vim_reading l ≡ read (run.ts ++ []) = run.same ∙ ap (after i run.ts) reading_is in
      let none : length (run.ts ++ []) ≤ 128 = omega (arith, length-append run.ts [], run.count, run.start z) in
      let few : n ≤ 128 = omega (arith, run.start z) in
      rw (is, le-leb (length (run.ts ++ [])) 128 none, append-nil run.ts, run.holds few)

  whole : ends σ ≡ true → (phase_of σ ≡ 2 → ⊥) → vim_reading l ≡ read (run.ts ++ (token_of σ ∷ []))
  unfolding after
  whole e z =
      let reading_is : reading σ (drop i l) ≡ read (token_of σ ∷ []) = here ∙ rw (e, ne_eqb (phase_of σ) 2 z) in
      run.same ∙ ap (after i run.ts) reading_is

  pub run_many : ends σ ≡ true → (phase_of σ ≡ 2 → ⊥) → 128 ≤ n → refused_at 8 0 ≡ answered (vim_reading l)
  unfolding answered
  run_many e z many =
      let over : 128 < length (run.ts ++ (token_of σ ∷ [])) = omega (arith, length-append run.ts (token_of σ ∷ []), run.count) in
      rw (whole e z, lt-leb (length (run.ts ++ (token_of σ ∷ []))) 128 over)

  pub run_last : ends σ ≡ true → (phase_of σ ≡ 2 → ⊥) → n < 128 →
      record { refusal = 0; place = 0; spec = record { tokens = set spec.tokens n (token_of σ); len = n + 1 } } ≡ answered (vim_reading l)
  unfolding answered
  run_last e z few =
      let most : length (run.ts ++ (token_of σ ∷ [])) ≤ 128 = omega (arith, length-append run.ts (token_of σ ∷ []), run.count) in
      let is : spec ≡ table run.ts = run.holds (omega arith) in
      let left : record { tokens = set spec.tokens n (token_of σ); len = n + 1 } ≡ table (run.ts ++ (token_of σ ∷ [])) =
      ap (λ (x : VimSpec). record { tokens = set x.tokens n (token_of σ); len = n + 1 }) is
      ∙ ap (λ (m : ℕ). record { tokens = set (table run.ts).tokens m (token_of σ); len = m + 1 }) run.count
      ∙ table_push run.ts (token_of σ) (omega (arith, run.count)) in
      rw (whole e z, le-leb (length (run.ts ++ (token_of σ ∷ []))) 128 most, left)
