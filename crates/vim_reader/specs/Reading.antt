-- What a list is read as by the machine: its tokens, or the place where it goes wrong. Document 02, #108.
-- Definitions only. That tokens are read exactly where the grammar has that reading, and that the place is that of the longest beginning, is
-- proved in `proofs/`. Assumes nothing.
use Rattle.std.specs.Prelude.{ℕ, suc, List, [], ◌∷◌, cond}
use Rattle.vim_grammar.specs.declared.VimToken.{VimToken}
use Rattle.vim_reader.specs.declared.State.{State}
use Rattle.vim_reader.specs.declared.State.TheVariants.{Start}
use Rattle.vim_reader.specs.Machine.{step_of, token_of, ends, is_dead, is_part, is_start}

-- what was read: tokens, or that it goes wrong at a place
pub data Reading : Type 0 where
  read : List VimToken → Reading
  bad : ℕ → Reading

-- with a token in front
unfoldable pub onto : VimToken → Reading → Reading
onto t (read ts) = read (t ∷ ts)
onto t (bad n) = bad n

-- behind one more code point
unfoldable pub later : Reading → Reading
later (read ts) = read ts
later (bad n) = bad (suc n)

-- what is read from a state on: a part's token where a comma ends it, and at the list's end that of its last part, if it has one
unfoldable pub reading : State → List ℕ → Reading
reading σ [] = cond (ends σ) (read (cond (is_start σ) [] (token_of σ ∷ []))) (bad 0)
reading σ (x ∷ l) =
    let r = reading (step_of σ x) l in
    cond (is_dead (step_of σ x)) (bad 0) (later (cond (is_part (step_of σ x)) (onto (token_of σ) r) r))

-- a list's tokens, or its place
abbrev pub vim_reading : List ℕ → Reading
vim_reading l = reading Start l
