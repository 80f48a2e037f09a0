-- The three walks over the classes: how one goes, and each of them. Document 02, #113.
-- Definitions only; the laws are in `proofs/Walking.antt`. Assumes nothing.
use Rattle.std.specs.Prelude.{ℕ, zero, suc, ◌+◌, List, Bool, cond, ◌&&◌, ◌||◌, not, length, eqb, ltb, Option, Some}
use Rattle.word_places.specs.Places.{is_empty, kind, soft, text_end, forward, backward, further}
use Rattle.word_ends.specs.declared.Halt.{Halt}
use Rattle.word_ends.specs.declared.Halt.TheVariants.{Onto, Stuck}

-- step by step while the test holds: done at the first place that fails it, or standing at one that passes and has no step. The counter is never used up:
-- every walk below has more turns than there are places ahead (`walking_start`)
unfoldable pub walk : (ℕ → Bool) → (ℕ → Option ℕ) → ℕ → ℕ → Halt ℕ
walk test step zero i = Stuck i
walk test step (suc n) i = cond (test i) (further (step i) (walk test step n) (Stuck i)) (Onto i)

-- on over the places of the kinds a and b
abbrev pub over : List ℕ → Bool → ℕ → ℕ → ℕ → Halt ℕ
over c big a b i = walk (λ j. eqb (kind c big j) a || eqb (kind c big j) b) (forward c) (length c + 1) i

-- back over the places of a kind, the row's end as a space; an empty row ends it
abbrev pub back : List ℕ → Bool → ℕ → ℕ → Halt ℕ
back c big k i = walk (λ j. eqb (soft c big j) k && not (is_empty c j)) backward (i + 1) i

-- the place where a walk ended
abbrev pub place : Halt ℕ → ℕ
place (Onto j) = j
place (Stuck j) = j

-- the last place of the run of one kind that has the place
abbrev pub runs : List ℕ → Bool → ℕ → ℕ → Bool
runs c big k j = ltb j (text_end c) && eqb (kind c big (j + 1)) k

abbrev pub run_end : List ℕ → Bool → ℕ → ℕ
run_end c big i = place (walk (runs c big (kind c big i)) (λ j. Some (j + 1)) (length c + 1) i)
