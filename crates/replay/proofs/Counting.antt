-- Laws of the verdicts of rows and of counting them. Assumes nothing.
use Rattle.lists.proofs.Kit.{◌≡◌, refl, ap, sym, ◌∙◌, List, ℕ, ◌+◌, ◌-◌, ◌≤◌, ◌<◌, arith, length, take, drop, drop_of_length-le, Option, Some, None}
use Rattle.replay_verdicts.specs.declared.Tally.{Tally}
use Rattle.replay_verdicts.specs.declared.Verdict.{Verdict}
use Rattle.replay_verdicts.specs.declared.Verdict.TheVariants.{Malformed}
use Rattle.replay_rows.specs.Rows.{RowRead, read_row, row_length, lines}
use Rattle.replay_verdicts.specs.Tallies.{counted, none, Countable}
use Rattle.replay_rows.proofs.Lines.{row_within, lines_step}
use Rattle.replay_verdicts.proofs.Counting.{counted_cases}
use Rattle.replay.specs.Cases.{verdict_of}
use Rattle.replay.specs.Tallies.{judged, most, tallied, tally_of, Judged}

-- the verdict of a row that was read
module _ {row room room' : List ℕ} {m : Option ℕ} (p : RowRead row room m room') where
  pub count_within : (n : ℕ) → m ≡ Some n → n ≤ length room'
  count_within n e = rw e at p.within

  pub judged_count : (n : ℕ) {v : Verdict} → m ≡ Some n → v ≡ verdict_of (take n room') → Judged row room v room'
  unfolding judged
  judged_count n e q = record { verdict = q ∙ ap judged (rw e at p.numbers); kept = p.kept }

  pub judged_malformed : m ≡ None → Judged row room Malformed room'
  unfolding judged
  judged_malformed e = record { verdict = ap judged (rw e at p.numbers); kept = p.kept }

-- the rows before `at` are counted
pub record Tallying (bytes room : List ℕ) (t : Tally) (at : ℕ) : Type 0 where
  pub inside : at ≤ length bytes
  pub kept : length room ≡ most
  pub below : t.cases ≤ at
  pub ordered : t.agree ≤ t.cases
  pub so_far : tally_of bytes ≡ tallied t (lines (drop at bytes))

pub tallying_start : (bytes room : List ℕ) → length room ≡ most → Tallying bytes room none 0
tallying_start bytes room e = record { inside = omega arith; kept = e; below = omega arith; ordered = omega arith; so_far = refl }

module _ {bytes room : List ℕ} {t : Tally} {at : ℕ} (so : Tallying bytes room t at) where
  pub tallying_countable : at < length bytes → length bytes ≤ 18446744073709551615 → Countable t
  tallying_countable h l = record { below = omega (arith, so.below); ordered = so.ordered }

  pub tallying_on : at < length bytes → (e : ℕ) → e ≡ at + row_length (drop at bytes) → {room' : List ℕ} {v : Verdict} →
      Judged (take (e - at) (drop at bytes)) room v room' →
      Tallying bytes room' (counted t v) e
  unfolding tallied
  tallying_on h e q {room'} {v} j =
      let by_row_within = row_within bytes at e h q in
      let by_counted_cases = counted_cases t v in
      record {
        inside = by_row_within.1;
        kept = j.kept ∙ so.kept;
        below = omega (arith, so.below, by_counted_cases.0, by_row_within.0);
        ordered = omega (arith, so.ordered, by_counted_cases.0, by_counted_cases.1);
        so_far = so.so_far ∙ ap (tallied t) (lines_step bytes at e h q) ∙ ap (λ (x : Verdict). tallied (counted t x) (lines (drop e bytes)))
            (sym (j.verdict ∙ ap (λ (n : ℕ). judged (read_row n (take (e - at) (drop at bytes)))) so.kept));
      }

  pub tallying_end : length bytes ≤ at → t ≡ tally_of bytes
  unfolding tallied lines
  tallying_end h = sym (so.so_far ∙ rw (drop_of_length-le bytes {i = at} h) refl)
