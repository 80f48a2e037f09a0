-- A partner, and the ranges of a pair, stand in the text: their rows and columns fit u32s. Assumes nothing.
use Rattle.lists.proofs.Kit.{◌≡◌, refl, sym, List, Bool, true, false, cond, ℕ, ◌≤◌, arith, length, eqb}
use Rattle.text_check.proofs.Accepted.{accepted_short}
use Rattle.text.specs.Text.{position}
use Rattle.text.specs.declared.Position.{Position}
use Rattle.text.proofs.Parts.{count_le, row_fits}
use Rattle.positions.specs.Positions.{Inside}
use Rattle.bracket_kinds.specs.declared.Kind.{Kind}
use Rattle.bracket_kinds.specs.declared.Kind.TheVariants.{Round, Square, Curly, Angle}
use Rattle.bracket_walks.specs.declared.Partner.{Partner}
use Rattle.bracket_walks.specs.declared.Partner.TheVariants.{There, None, Refused}
use Rattle.brackets.specs.Matching.{matching_bracket_pos}
use Rattle.bracket_laws.proofs.Call.{call_accepted}
use Rattle.bracket_laws.proofs.Demand.{unique}
use Rattle.bracket_inner.specs.declared.Inner.{Inner}
use Rattle.bracket_inner.specs.declared.Inner.TheVariants.{Pair, None as Inner-as-None, Refused as Inner-as-Refused}
use Rattle.bracket_inner.specs.Inner.{inner_pair}
use Rattle.bracket_inner.proofs.Innermost.{inner_pairs}
use Rattle.call_texts.specs.Partners
use Rattle.call_texts.specs.Partners.{Small}
use Rattle.call_texts.specs.Inners.{Fits, inner_by}

small : (t : List ℕ) (p : Position) → length t ≤ 1048576 → Inside t p → Small p
small t p brief i = record {
  row_small = omega (arith, brief, i.in_row, count_le t);
  col_small = omega (arith, brief, i.in_col, row_fits t p.row i.in_row);
}

pub partner_fits : (t : List ℕ) (row col : ℕ) (m : Partner) → m ≡ matching_bracket_pos t row col → Partners.Fits m
partner_fits t row col (There q) e =
    let clear = call_accepted t row col q (sym e) in
    let to = ((unique t clear).told (position row col) q (sym e)).to in
    small t q (accepted_short t clear) (record { in_row = to.in_row; in_col = omega (arith, to.in_col) })
partner_fits t row col None e = tt
partner_fits t row col (Refused f) e = tt

inner_fits : (t : List ℕ) (k : Kind) (row col : ℕ) → Fits (inner_pair t k row col)
inner_fits t k row col = go (inner_pair t k row col) refl
  where
    go : (m : Inner) → inner_pair t k row col ≡ m → Fits m
    go (Pair r) e =
        let told = (inner_pairs t k (position row col)).pair r e in
        let stand = told.standing in
        let brief = accepted_short t (call_accepted t told.open_at.row told.open_at.col told.close_at told.innermost.encloses.pair.answer) in
        record {
          from_small = small t r.from brief stand.from_in;
          to_small = small t r.to brief stand.to_in;
          opening_small = small t r.opening brief stand.opening_in;
          past_small = small t r.past brief stand.past_in;
        }
    go Inner-as-None e = tt
    go (Inner-as-Refused f) e = tt

either : (b : Bool) (x y : Inner) → Fits x → Fits y → Fits (cond b x y)
either true x y p q = p
either false x y p q = q

pub inner_by_fits : (kind row col : ℕ) (t : List ℕ) → Fits (inner_by kind row col t)
unfolding inner_by
inner_by_fits kind row col t = either (eqb kind 0) _ _ (inner_fits t Round row col) (either (eqb kind 1) _ _ (inner_fits t Square row col)
    (either (eqb kind 2) _ _ (inner_fits t Curly row col) (either (eqb kind 3) _ _ (inner_fits t Angle row col) tt)))
