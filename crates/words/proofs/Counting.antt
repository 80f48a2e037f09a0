-- Where the loop over the rounds of a count stands, and how a round takes it on or ends it. Assumes nothing.
use Rattle.lists.proofs.Kit.{◌≡◌, ap, sym, ◌∙◌, List, ℕ, ◌+◌, ◌-◌, ◌<◌, arith}
use Rattle.text.specs.declared.Position.{Position}
use Rattle.word_kinds.specs.declared.Spot.{Spot}
use Rattle.word_kinds.specs.Spots.{place_of, IsSpot, Lands}
use Rattle.word_kinds.proofs.Telling.{tells_as, tells_too, lands_here}
use Rattle.fold_stretches.specs.declared.Stretch.{Stretch}
use Rattle.fold_stretches.specs.Stretches.{NoFold}
use Rattle.word_ends.specs.declared.Turn as code
use Rattle.word_ends.specs.declared.Turn.TheVariants as variant
use Rattle.word_rounds.specs.Rounds.{Turn, On, counted}
use Rattle.word_rounds.specs.Turns.{ComesTo}
use Rattle.word_rounds.proofs.Counts.{counted_none, counted_on, counted_off, counted_still}
use Rattle.word_rounds.proofs.Turning.{same_place}

-- the rounds left from `cur` on come to where all of them come, and there is no closed fold at the rows of the stretch
pub record Counting (t folds : List ℕ) (round : Position → Turn) (count : ℕ) (from cur : Spot) (left : ℕ) (w : Stretch) : Type 0 where
  pub spot : IsSpot t cur
  pub rest : counted round left (place_of t cur) ≡ counted round count (place_of t from)
  pub bare : NoFold folds w

module _ {t folds : List ℕ} {round : Position → Turn} {count : ℕ} where
  pub counting_start : {p : Spot} {w : Stretch} → IsSpot t p → NoFold folds w → Counting t folds round count p p (count - 0) w
  counting_start i b = let all : count - 0 ≡ count = omega arith in record { spot = i; rest = rw all; bare = b }

  module _ {from cur : Spot} {left : ℕ} {w : Stretch} (so_far : Counting t folds round count from cur left w) where
    -- no round is left
    pub counting_none : left ≡ 0 → Lands t cur (counted round count (place_of t from))
    counting_none z = tells_too (lands_here so_far.spot) (sym (counted_none round left (place_of t cur) z) ∙ so_far.rest)

    -- a round from `cur`: on to another place, to the same one, or the last
    module _ {r : code.Turn Spot} (told : ComesTo t r (round (place_of t cur))) {q : Spot} where
      pub counting_on : {less : ℕ} {next : Stretch} → r ≡ variant.On q → left ≡ less + 1 → NoFold folds next → Counting t folds round count from q less next
      counting_on {less} e h b =
          let less_is : less ≡ left - 1 = omega arith in
          let found = tells_as told e in
          record { spot = found.inside; rest = rw less_is (sym (counted_on round left (place_of t cur) (place_of t q) (omega arith) (sym found.place)) ∙ so_far.rest); bare = b }

      pub counting_still : r ≡ variant.On q → q.at ≡ cur.at → Lands t cur (counted round count (place_of t from))
      counting_still e h =
          let found = tells_as told e in
          let still = sym found.place ∙ ap On (same_place t cur q so_far.spot found.inside h) in
          tells_too (lands_here so_far.spot) (sym (counted_still round left (place_of t cur) still) ∙ so_far.rest)

      pub counting_off : r ≡ variant.Off q → 0 < left → Lands t q (counted round count (place_of t from))
      counting_off e h =
          let found = tells_as told e in
          tells_too (lands_here found.inside) (sym (counted_off round left (place_of t cur) (place_of t q) h (sym found.place)) ∙ so_far.rest)
