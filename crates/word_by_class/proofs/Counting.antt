-- Where the loop over the rounds of a count stands, and how a round takes it on or ends it. Assumes nothing.
use Rattle.lists.proofs.Kit.{◌≡◌, ap, sym, ◌∙◌, List, ℕ, ◌+◌, ◌-◌, ◌≤◌, ◌<◌, arith, length}
use Rattle.fold_stretches.specs.declared.Stretch.{Stretch}
use Rattle.fold_stretches.specs.Stretches.{NoFold}
use Rattle.word_kinds.specs.declared.Spot.{Spot}
use Rattle.word_class_rows.specs.Rows.{StandsAt}
use Rattle.word_ends.specs.declared.Turn.{Turn}
use Rattle.word_ends.specs.declared.Turn.TheVariants.{On, Off}
use Rattle.word_by_class.specs.Rounds.{counted, Ready}
use Rattle.word_by_class.proofs.Counts.{counted_none, counted_on, counted_off, counted_still}
use Rattle.word_by_class.proofs.Asks.{ready_at}

-- the rounds left from `cur` on come to where all of them come, and there is no closed fold at the rows of the stretch
pub record Counting (c folds : List ℕ) (rows content : ℕ) (round : ℕ → Turn ℕ) (count : ℕ) (from cur : Spot) (left : ℕ) (w : Stretch) : Type 0 where
  pub ready : Ready c folds rows content cur
  pub rest : counted round left cur.at ≡ counted round count from.at
  pub bare : NoFold folds w

module _ {c folds : List ℕ} {rows content : ℕ} {round : ℕ → Turn ℕ} {count : ℕ} {from cur : Spot} {left : ℕ} {w : Stretch}
    (so_far : Counting c folds rows content round count from cur left w) where
  -- no round is left
  pub counting_none : left ≡ 0 → cur.at ≡ counted round count from.at
  counting_none z = sym (counted_none round left cur.at z) ∙ so_far.rest

  -- a round from `cur`: on to another place, to the same one, or the last
  module _ {j : ℕ} where
    pub counting_on : {q : Spot} {less : ℕ} {next : Stretch} → round cur.at ≡ On j → left ≡ less + 1 → j + 1 ≤ length c → StandsAt c j q → NoFold folds next →
        Counting c folds rows content round count from q less next
    counting_on {q} {less} e h high at b =
        let less_is : less ≡ left - 1 = omega arith in
        record {
          ready = ready_at so_far.ready q at.stands (omega (arith, high, at.place));
          rest = rw less_is (ap (counted round (left - 1)) at.place ∙ sym (counted_on round left cur.at j (omega arith) e) ∙ so_far.rest);
          bare = b;
        }

    pub counting_still : round cur.at ≡ On j → j ≡ cur.at → j ≡ counted round count from.at
    counting_still e h = h ∙ sym (counted_still round left cur.at (e ∙ ap On h)) ∙ so_far.rest

    pub counting_off : round cur.at ≡ Off j → 0 < left → j ≡ counted round count from.at
    counting_off e h = sym (counted_off round left cur.at j h e) ∙ so_far.rest
