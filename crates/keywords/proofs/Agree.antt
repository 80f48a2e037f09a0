-- `Agree`: `parse` with `matches`, `is_keyword_char`, the flat form and the set of a list agree. Assumes nothing.
use Rattle.lists.proofs.Kit.{◌≡◌, refl, ap, sym, ◌∙◌, List, Bool, true, false, ℕ, zero, suc, ◌≤◌, arith, length, leb, ne_eqb, leb-true}
use Rattle.list_tokens.specs.declared.Token.{Token}
use Rattle.keywords.specs.declared.Parsed.{Parsed}
use Rattle.list_parts.specs.Refusals.{list_refusal, table_refusal, lowest}
use Rattle.list_tokens.specs.Tokens.{tokens, in_list}
use Rattle.keywords.specs.Table.{table, kept, parsed, parse_of}
use Rattle.keywords.specs.Flat.{flat_of}
use Rattle.keywords.specs.Agree.{Agree}
use Rattle.keywords.proofs.TableLaws.{table_kept}
use Rattle.keywords.proofs.FlatLaws.{flat_front, flat_same}

parsed_number : (n : ℕ) (ts : List Token) → (parsed n ts).refusal ≡ n
parsed_number zero ts = refl
parsed_number (suc n) ts = refl

lowest_none : (a b : ℕ) → lowest a b ≡ 0 → (a ≡ 0) × (b ≡ 0)
lowest_none zero b e = (refl, e)
lowest_none (suc a) b e = let one_more_is : suc a ≡ 0 = rw (ne_eqb (suc a) 0 (λ w. omega arith)) at e in absurd (omega arith)

few : (n : ℕ) → table_refusal n ≡ 0 → n ≤ 128
few n e = go (leb n 128) refl
  where
    go : (b : Bool) → leb n 128 ≡ b → n ≤ 128
    go true w = leb-true n 128 w
    go false w = let never : ◌≡◌ {A = ℕ} 8 0 = rw w at e in absurd (omega arith)

-- p is what `parse` answered, and it accepted the list
module _ (list : List ℕ) (p : Parsed) (w : p ≡ parse_of list) (e : p.refusal ≡ 0) where
  none : (list_refusal list ≡ 0) × (table_refusal (length (tokens list)) ≡ 0)
  none = lowest_none _ _ (sym (ap (λ (q : Parsed). q.refusal) w ∙ parsed_number _ (tokens list)) ∙ e)

  pub parse_table : p.spec ≡ table (tokens list)
  parse_table = rw (w, none.0, none.1)

  pub parse_kept : kept p.spec ≡ tokens list
  parse_kept = ap kept parse_table ∙ table_kept (tokens list)

  pub parse_length : p.spec.len ≤ 128
  parse_length = rw parse_table (few (length (tokens list)) none.1)

  -- the flat form of the table holds what the list holds
  pub parse_flat : (c : ℕ) → flat_of p.spec c ≡ in_list list c
  parse_flat c = rw (parse_table, table_kept (tokens list), flat_front (tokens list)) (flat_same (tokens list) c)

pub agree : Agree
agree list c e s =
    let by_none = none list (parse_of list) refl e in
    let by_parse_table = parse_table list (parse_of list) refl e in
    record {
      read = parse_kept list (parse_of list) refl e;
      table = rw (by_parse_table, s, by_none.1, table_kept (tokens list));
      direct = rw (s, by_none.0);
      lent = parse_flat list (parse_of list) refl e c;
    }
