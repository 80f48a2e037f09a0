-- Laws of refusals: the number that a call gives, and the lowest where two apply. Assumes nothing.
use Rattle.lists.proofs.Kit.{◌≡◌, refl, List, Bool, ℕ, zero, suc, ne_eqb}
use Rattle.list_tokens.specs.declared.Token.{Token}
use Rattle.keywords.specs.declared.Matched.TheVariants.{Refused}
use Rattle.list_parts.specs.Refusals.{lowest}
use Rattle.keywords.specs.Table.{matched, parsed, refused_by}

-- a refusal is given by its number
pub matched_refused_next : (n : ℕ) → (n ≡ 0 → ⊥) → (b : Bool) → Refused n ≡ matched n b
matched_refused_next zero h b = absurd (h refl)
matched_refused_next (suc n) h b = refl

parsed_refused_next : (n : ℕ) → (n ≡ 0 → ⊥) → (ts : List Token) → refused_by n ≡ parsed n ts
parsed_refused_next zero h ts = absurd (h refl)
parsed_refused_next (suc n) h ts = refl

-- and the first that applies is given
module _ (n m : ℕ) (h : n ≡ 0 → ⊥) where
  pub matched_refused : (b : Bool) → Refused n ≡ matched (lowest n m) b
  matched_refused b = rw (ne_eqb n 0 h) (matched_refused_next n h b)

  pub parsed_refused : (ts : List Token) → refused_by n ≡ parsed (lowest n m) ts
  parsed_refused ts = rw (ne_eqb n 0 h) (parsed_refused_next n h ts)
