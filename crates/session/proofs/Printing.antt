-- Laws of what an input prints: refused or run, and within the room. Assumes nothing.
use Rattle.lists.proofs.Kit.{◌≡◌, refl, ap, sym, ◌∙◌, List, Bool, true, false, cond, ℕ, ◌≤◌, arith, length, drop, sets-eq, length-take-le, Some, None}
use Rattle.lists.specs.Codes.{codes}
use Rattle.print.specs.Print.{Wrote}
use Rattle.utf8.specs.Walks.{points_of}
use Rattle.session_input.specs.Parts.{text_of, is_refused, begin_of}
use Rattle.session_input.proofs.Inputs.{taken_short, begin_refused, begin_taken}
use Rattle.session.specs.Session.{output_of, session_of}
use Rattle.session.specs.Written.{Printed}
use Rattle.session.proofs.Lengths.{lines_fit}

-- what an input prints
module _ (input : List ℕ) where
  pub session_refused : None ≡ begin_of input → session_of input ≡ codes "refused\n"
  unfolding session_of
  session_refused e = rw (begin_refused input e)

  pub session_runs : {i : ℕ} → Some i ≡ begin_of input → session_of input ≡ output_of (points_of (drop i input)) input
  unfolding session_of
  session_runs e = let by_begin_taken = begin_taken input e in rw (by_begin_taken.0, by_begin_taken.1)

  pub session_short : {i : ℕ} → Some i ≡ begin_of input → length input ≤ 16384
  session_short e = taken_short input (begin_taken input e).0

  -- the room of the public call is enough for every input
  pub session_fits : length (session_of input) ≤ 393240
  unfolding session_of codes
  session_fits = go (is_refused input) refl
    where
      go : (b : Bool) → is_refused input ≡ b → length (cond b (codes "refused\n") (output_of (text_of input) input)) ≤ 393240
      go true e = omega arith
      go false e = lines_fit (text_of input) input (taken_short input e)

pub printed : {out t s : List ℕ} {r : ℕ} {out' : List ℕ} → t ≡ s → length t ≤ length out → Wrote out 0 s r out' → Printed out t r out'
printed {out} {t} {s} {r} {out'} e h w =
    let r_at_most : r ≤ length out' = omega (arith, w.size, w.next, ap length e) in
    record {
      count = omega (arith, w.next, ap length e);
      front = w.left ∙ sets-eq s out 0 (omega (arith, ap length e)) ∙ rw (sym w.next, e);
      within = r_at_most;
      counts = sym (length-take-le r out' r_at_most);
    }
