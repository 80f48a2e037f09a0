-- What the functions of `src/sequences.rt` are lent and answer: one sequence of bytes.
-- Definitions only. Assumes nothing.
use Rattle.std.specs.Prelude.{ℕ, zero, suc, ◌≤◌, ◌<◌, ◌≡◌, List, length, drop, Result, Ok, Err}
use Rattle.utf8.specs.declared.BadAt.{BadAt}
use Rattle.utf8.specs.Decoding.{Reading, bad, onto, reading_from}

-- one sequence: its value and the index behind it, `from` or more, or the place where it goes wrong; r is what is read from its start on
abbrev pub Stepped : List ℕ → ℕ → Reading → Result (ℕ × ℕ) BadAt → Type 0
Stepped b from r (Ok (next, x)) = (r ≡ onto x (reading_from next (drop next b))) × (from ≤ next) × (next ≤ length b)
Stepped b from r (Err e) = r ≡ bad e.place

-- what its bits stay below with so many bytes left: a value has at most 21
unfoldable pub bits_below : ℕ → ℕ
bits_below zero = 0x200000
bits_below (suc zero) = 0x8000
bits_below (suc (suc zero)) = 0x200
bits_below (suc (suc (suc left))) = 8

-- a sequence that `follow` goes on with
pub record Begun (at length left least most value : ℕ) : Type 0 where
  pub within : at ≤ length
  pub few : left ≤ 3
  pub low : 0x80 ≤ least
  pub high : most ≤ 0xbf
  pub small : value < bits_below left
