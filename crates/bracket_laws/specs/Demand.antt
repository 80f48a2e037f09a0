-- Demand 3 of the request, as statements over the answers of `matching_bracket_pos`, on rows and columns.
-- Definitions only; the proofs, for every accepted text, are in `proofs/Demand.antt`. Assumes nothing.
use Rattle.std.specs.Prelude.{◌≡◌, ◌⊎◌, List, ℕ, ◌+◌, ◌<◌, get_or}
use Rattle.text_check.specs.Accept.{text_refusal}
use Rattle.text.specs.Text.{row_at}
use Rattle.text.specs.Offsets.{row_start}
use Rattle.bracket_kinds.specs.declared.Kind.{Kind}
use Rattle.text.specs.declared.Position.{Position}
use Rattle.bracket_walks.specs.declared.Partner.{Partner}
use Rattle.bracket_walks.specs.declared.Partner.TheVariants.{There, None, Refused}
use Rattle.bracket_kinds.specs.Kinds.{open_of}
use Rattle.bracket_laws.specs.Pairs.{IsPartner, Alone, Stand}
use Rattle.brackets.specs.Matching.{matching_bracket_pos, Inside}

-- what the call answers at a position
abbrev pub answer_at : List ℕ → Position → Partner
answer_at t p = matching_bracket_pos t p.row p.col

abbrev pub in_text : List ℕ → Position → Type 0
in_text t p = Inside t p.row p.col

abbrev pub offset_of : List ℕ → Position → ℕ
offset_of t p = row_start t p.row + p.col

-- q is the partner of p
pub record PartnerAt (t : List ℕ) (p q : Position) : Type 0 where
  pub from : in_text t p
  pub to : in_text t q
  pub partner : IsPartner t (offset_of t p) (offset_of t q)

-- p is outside the text, or what it holds has no partner
pub data NoPartner (t : List ℕ) (p : Position) : Type 0 where
  outside : (in_text t p → ⊥) → NoPartner t p
  alone : in_text t p → Alone t (offset_of t p) → NoPartner t p

-- the number f that the text is refused with
pub record Refusal (t : List ℕ) (f : ℕ) : Type 0 where
  pub number : text_refusal t ≡ f
  pub some : f ≡ 0 → ⊥

-- refused exactly where the text is, and with its number
pub record Refuses (t : List ℕ) : Type 0 where
  pub refused : (p : Position) (f : ℕ) → answer_at t p ≡ Refused f → Refusal t f
  pub refused_only : (p : Position) (f : ℕ) → Refusal t f → answer_at t p ≡ Refused f

-- at most one partner, and the answer is it; none exactly where there is none
pub record Unique (t : List ℕ) : Type 0 where
  pub once : (p q r : Position) → PartnerAt t p q → PartnerAt t p r → q ≡ r
  pub told : (p q : Position) → answer_at t p ≡ There q → PartnerAt t p q
  pub found : (p q : Position) → PartnerAt t p q → answer_at t p ≡ There q
  pub none : (p : Position) → answer_at t p ≡ None → NoPartner t p
  pub none_only : (p : Position) → NoPartner t p → answer_at t p ≡ None

-- the partner's partner is the position itself
abbrev pub Symmetric : List ℕ → Type 0
Symmetric t = (p q : Position) → answer_at t p ≡ There q → answer_at t q ≡ There p

-- p holds an open of the kind, and the answer there is q
pub record PairAt (k : Kind) (t : List ℕ) (p q : Position) : Type 0 where
  pub opens : get_or (row_at t p.row) p.col 0 ≡ open_of k
  pub answer : answer_at t p ≡ There q

-- p stands before q in the text
abbrev pub Before : Position → Position → Type 0
Before p q = (p.row < q.row) ⊎ ((p.row ≡ q.row) × (p.col < q.col))

-- two different pairs of one kind share no bracket and do not cross: one encloses the other or they stand apart
pub record NeverCross (t : List ℕ) : Type 0 where
  pub stand : (k : Kind) (p q p' q' : Position) → PairAt k t p q → PairAt k t p' q' → Stand Before p q p' q'
  pub share_none : (k : Kind) (p q p' q' : Position) → PairAt k t p q → PairAt k t p' q' → (p ≡ p' → ⊥) → (p ≡ q' → ⊥) × (q ≡ p' → ⊥) × (q ≡ q' → ⊥)
