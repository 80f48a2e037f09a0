-- Where a search by number leads to is in the text, and so are a partner and the ranges of the innermost pair. Assumes nothing.
use Rattle.lists.proofs.Kit.{◌≡◌, refl, sym, subst, List, Bool, true, false, cond, ℕ, ◌≤◌, arith, eqb, eqb-true, Option, Some, None}
use Rattle.motions.specs.declared.Move.{Move}
use Rattle.chars.specs.Scalar.{is_scalar}
use Rattle.text.specs.Text.{row_at, row_len}
use Rattle.bracket_walks.specs.declared.Partner.{Partner}
use Rattle.bracket_walks.specs.declared.Partner.TheVariants.{There, None as Partner-as-None, Refused as Partner-as-Refused}
use Rattle.brackets.specs.Matching.{matching_bracket_pos}
use Rattle.bracket_kinds.specs.declared.Kind.{Kind}
use Rattle.bracket_kinds.specs.declared.Kind.TheVariants.{Round, Square, Curly, Angle}
use Rattle.bracket_inner.specs.declared.Inner.{Inner}
use Rattle.bracket_inner.specs.declared.Inner.TheVariants.{Pair, None as Inner-as-None, Refused as Inner-as-Refused}
use Rattle.bracket_inner.specs.Inner.{inner_pair}
use Rattle.bracket_inner.proofs.Innermost.{inner_pairs}
use Rattle.row_search.specs.Find.{find_on_row}
use Rattle.bracket_laws.proofs.Call.{call_accepted}
use Rattle.bracket_laws.proofs.Demand.{unique}
use Rattle.row_search.proofs.Finds.{find_within}
use Rattle.positions.specs.Positions.{refusal_with}
use Rattle.positions.proofs.Checks.{inside}
use Rattle.positions.proofs.Entered.{sought_none}
use Rattle.motions.specs.declared.Caret.{Caret}
use Rattle.motions.specs.declared.Moved.TheVariants.{To}
use Rattle.motions.specs.declared.Sought.{Sought}
use Rattle.motions.specs.declared.Sought.TheVariants.{Found, Missing, Refused as Sought-as-Refused}
use Rattle.motions.specs.Carets.{here, Inside, refusal_of, cleared}
use Rattle.motions.specs.Finds.{match_bracket, find_char_on_line, seeking, lands_on}
use Rattle.call_texts.specs.Asks.{seek_as}
use Rattle.call_texts.specs.Seeks.{seek_of, seek}
use Rattle.call_texts.specs.Inners.{inner_by}
use Rattle.promises.specs.Positions.{in_moved, in_sought, in_partner, in_inner, AllIn}
use Rattle.promises.specs.Writes.{EveryRangeInside}
use Rattle.promises.proofs.Landings.{either}
use Rattle.promises.proofs.KeyMoves.{key}

module _ (t : List ℕ) where
  pub stands : (k : Caret) → Inside t k → AllIn t (in_moved (To k))
  stands k h = (record { in_row = h.in_row; in_col = h.in_col }, tt)

  abbrev Sits : Sought → Type 0
  Sits m = AllIn t (in_sought m)

  seeking_sits : (f : ℕ) (m : Sought) → (f ≡ 0 → Sits m) → Sits (seeking f m)
  unfolding seeking
  seeking_sits f m h = go (eqb f 0) refl
    where
      go : (b : Bool) → eqb f 0 ≡ b → Sits (cond b m (Sought-as-Refused f))
      go true e = h (eqb-true f 0 e)
      go false e = tt

  module _ (k : Caret) where
    -- at the partner of a bracket, or where the caret was
    key_sits : Sits (match_bracket t k)
    key_sits = go (match_bracket t k) refl
      where
        go : (m : Sought) → match_bracket t k ≡ m → Sits m
        go (Found c) e =
            let by_key = ((key t k).lands c e).partner.partner.to in
            (record { in_row = by_key.in_row; in_col = omega (arith, by_key.in_col) }, tt)
        go (Missing c) e =
            let by_key = (key t k).missing c e in
            subst (λ (x : Caret). Sits (Missing x)) (sym by_key.same) (stands (cleared k) (inside t (here k) by_key.accepted))
        go (Sought-as-Refused f) e = tt

    -- at a column of the row, or where the caret was
    found_sits : (f : Option ℕ) → ((i : ℕ) → f ≡ Some i → i ≤ row_len t k.row) → Inside t k → Sits (lands_on k f)
    unfolding lands_on
    found_sits (Some i) h w = (record { in_row = w.in_row; in_col = h i refl }, tt)
    found_sits None h w = stands k w

    find_sits : (x : ℕ) (forward till skip : Bool) → Sits (find_char_on_line t x forward till skip k)
    find_sits x forward till skip = seeking_sits (refusal_with t (here k) x) _
        (λ z. let by_inside = inside t (here k) (sought_none (refusal_of t k) (is_scalar x) z) in
        found_sits (find_on_row (row_at t k.row) k.col x forward till skip)
        (λ i e. find_within (row_at t k.row) k.col x forward till skip by_inside.in_col e) by_inside)

    pub seek_sits : (op x : ℕ) → Sits (seek op x k t)
    unfolding seek seek_of seek_as
    seek_sits op x =
        let P : Option Move → Type 0 = λ a. Sits (seek_as a k t) in
        either P (eqb op 0) _ _ key_sits (either P (eqb op 1) _ _ (find_sits x false false false) (either P (eqb op 2) _ _ (find_sits x true false false)
        (either P (eqb op 3) _ _ (find_sits x false true false) (either P (eqb op 4) _ _ (find_sits x true true false)
        (either P (eqb op 5) _ _ (find_sits x false false true) (either P (eqb op 6) _ _ (find_sits x true false true)
        (either P (eqb op 7) _ _ (find_sits x false true true) (either P (eqb op 8) _ _ (find_sits x true true true) tt))))))))

  -- a partner, of an accepted text alone
  pub pair_sits : (row col : ℕ) → AllIn t (in_partner (matching_bracket_pos t row col))
  pair_sits row col = go (matching_bracket_pos t row col) refl
    where
      go : (p : Partner) → matching_bracket_pos t row col ≡ p → AllIn t (in_partner p)
      go (There q) e =
          let by_unique = ((unique t (call_accepted t row col q e)).told (record { row = row; col = col }) q e).to in
          (record { in_row = by_unique.in_row; in_col = omega (arith, by_unique.in_col) }, tt)
      go Partner-as-None e = tt
      go (Partner-as-Refused f) e = tt

-- the ranges of a pair
pub every_range_inside : EveryRangeInside
unfolding inner_by
every_range_inside kind row col t = either Sit (eqb kind 0) _ _ (sits Round) (either Sit (eqb kind 1) _ _ (sits Square)
    (either Sit (eqb kind 2) _ _ (sits Curly) (either Sit (eqb kind 3) _ _ (sits Angle) tt)))
  where
    Sit : Inner → Type 0
    Sit m = AllIn t (in_inner m)

    sits : (k : Kind) → Sit (inner_pair t k row col)
    sits k = go (inner_pair t k row col) refl
      where
        go : (m : Inner) → inner_pair t k row col ≡ m → Sit m
        go (Pair r) e =
            let both = ((inner_pairs t k (record { row = row; col = col })).pair r e).standing in
            (both.from_in, (both.to_in, (both.opening_in, (both.past_in, tt))))
        go Inner-as-None e = tt
        go (Inner-as-Refused f) e = tt
