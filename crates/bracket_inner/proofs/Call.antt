-- What `inner_pair` goes by once it has called `enter`, and what it answers. Assumes nothing.
use Rattle.lists.proofs.Kit.{◌≡◌, sym, ◌∙◌, ap, List, ℕ, ◌+◌, arith, eq-eqb, ne_eqb}
use Rattle.text.specs.Text.{position}
use Rattle.text.specs.Offsets.{row_start}
use Rattle.text.proofs.Stands.{stands_row}
use Rattle.bracket_kinds.specs.declared.Kind.{Kind}
use Rattle.bracket_laws.proofs.Positions.{pos_eq}
use Rattle.positions.specs.declared.Entry.{Entry}
use Rattle.positions.specs.Positions.{entry_of, refusal_at, Accepted}
use Rattle.positions.proofs.Checks.{entry_number, entered}
use Rattle.bracket_inner.specs.declared.Inner.{Inner}
use Rattle.bracket_inner.specs.declared.Inner.TheVariants.{Refused}
use Rattle.bracket_inner.specs.Inner.{inner_open, pair_from, answered, inner_pair}
use Rattle.bracket_inner.specs.Walk.{Stays}

module _ (t : List ℕ) (k : Kind) (row col : ℕ) {e : Entry} (is : e ≡ entry_of t (position row col)) where
  number : e.refusal ≡ refusal_at t (position row col)
  number = entry_number t (position row col) e is

  pub call_refused : (e.refusal ≡ 0 → ⊥) → Refused e.refusal ≡ inner_pair t k row col
  unfolding answered
  call_refused n = rw (← number, ne_eqb e.refusal 0 n)

  module _ (z : e.refusal ≡ 0) where
    known : Accepted t (position row col) e
    known = entered t (position row col) e is z

    pub call_stays : Stays t (record { row = row; start = e.start }) (e.start + col) (record { row = row; col = col })
    call_stays =
        let here = known.here in
        let same = stands_row here in
        let begins = ap (row_start t) same in
        record { stands = here; short = known.brief; place = pos_eq (sym same) (omega (arith, here.begins)) }

    pub call_answer : {r : Inner} → r ≡ pair_from t (inner_open k t (e.start + col)) → r ≡ inner_pair t k row col
    unfolding answered
    call_answer so = so ∙ rw (← number, eq-eqb e.refusal 0 z, known.here.begins)
