-- How far the two passes of the decoder have come, the first of which counts code points and the second writes them; and what the encoder writes.
-- Definitions only. Assumes nothing.
use Rattle.std.specs.Prelude.{ℕ, ◌+◌, ◌≤◌, ◌<◌, ◌≡◌, List, [], length, take, drop, Result, Ok, Err}
use Rattle.std.proofs.lemmas.List.Edits.{sets}
use Rattle.utf8.specs.declared.BadAt.{BadAt}
use Rattle.utf8.specs.declared.Spot.{Spot}
use Rattle.utf8.specs.Decoding.{Reading, text, bad, reading_from, decoding}
use Rattle.utf8.specs.Calls.{tally, checked}

-- with n code points before it
unfoldable pub plus : ℕ → Result ℕ BadAt → Result ℕ BadAt
plus n (Ok m) = Ok (n + m)
plus n (Err e) = Err e

-- n code points stand before index at, where a sequence begins
pub record Counts (b : List ℕ) (at n : ℕ) : Type 0 where
  pub within : at ≤ length b
  pub fewer : n ≤ at
  pub count : checked b ≡ plus n (tally (reading_from at (drop at b)))

-- r is an index past `at`, of a sequence of len bytes or its end
pub record Onward (at len r : ℕ) : Type 0 where
  pub onward : at < r
  pub inside : r ≤ len

-- the count went on to an index at or past `until`, or met the place
abbrev pub Walked : List ℕ → ℕ → Result Spot BadAt → Type 0
Walked b until (Ok s) = Counts b s.at s.count × (until ≤ s.at)
Walked b until (Err e) = checked b ≡ Err e

-- the text that was read
unfoldable pub text_of : Reading → List ℕ
text_of (text t) = t
text_of (bad n) = []

abbrev pub points_of : List ℕ → List ℕ
points_of b = text_of (decoding b)

-- the code points before index at, n of them, are written, and there is room for all
pub record Holds (b : List ℕ) (at n : ℕ) (points : List ℕ) : Type 0 where
  pub within : at ≤ length b
  pub rest : reading_from at (drop at b) ≡ text (drop n (points_of b))
  pub most : n ≤ length (points_of b)
  pub front : take n points ≡ take n (points_of b)
  pub room : length (points_of b) ≤ length points

-- the writing went on from n code points in points to those of points', up to an index at or past `until`; what comes after them is as it was
pub record Wrote (b points : List ℕ) (n until : ℕ) (r : Spot) (points' : List ℕ) : Type 0 where
  pub holds : Holds b r.at r.count points'
  pub reached : until ≤ r.at
  pub onward : n ≤ r.count
  pub kept : drop r.count points' ≡ drop r.count points
  pub size : length points' ≡ length points

-- s was written into bytes from index at on: the index behind it, and what stands in bytes then. The last follows
pub record Put (bytes : List ℕ) (at : ℕ) (s : List ℕ) (r : ℕ) (bytes' : List ℕ) : Type 0 where
  pub next : r ≡ at + length s
  pub left : bytes' ≡ sets bytes at s
  pub size : length bytes' ≡ length bytes
