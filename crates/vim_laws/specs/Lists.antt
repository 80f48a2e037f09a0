-- The statements about Vim's own lists: what is accepted, and where a list goes wrong. Their proofs are in `proofs/Lists.antt`. Document 02, #108.
-- Definitions only. Assumes nothing.
use Rattle.std.specs.Prelude.{ℕ, ◌≡◌, List, ◌↔◌}
use Rattle.lists.specs.Beginnings.{Place}
use Rattle.vim_grammar.specs.declared.VimToken.{VimToken}
use Rattle.vim_grammar.specs.Grammar.{Reads, Accepted}
use Rattle.vim_reader.specs.Reading.{read, bad, vim_reading}

pub record Lists (l : List ℕ) : Type 0 where
  -- the reader has exactly the readings of the grammar
  pub reads_exactly : (ts : List VimToken) → (vim_reading l ≡ read ts) ↔ Reads l ts
  -- no list has two
  pub one_reading : (ts us : List VimToken) → Reads l ts → Reads l us → ts ≡ us
  -- 17 comes with the length of the longest beginning that some list of the grammar has
  pub place : (n : ℕ) → vim_reading l ≡ bad n → Place Accepted l n
  pub refused : (n : ℕ) → vim_reading l ≡ bad n → Accepted l → ⊥
