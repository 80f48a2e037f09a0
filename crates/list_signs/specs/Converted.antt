-- The statements about a converted list and about the entry. Definitions only; the proofs are `converted` and `entry` in
-- `proofs/Converted.antt`. Assumes nothing.
use Rattle.std.specs.Prelude.{ℕ, ◌+◌, ◌≤◌, ◌<◌, ◌≡◌, List, [], ◌∷◌, ◌++◌, true, false, length, get_or, take, drop}
use Rattle.list_parts.specs.Parts.{parts, trim}
use Rattle.list_parts.specs.Refusals.{list_refusal}
use Rattle.list_tokens.specs.Grammar.{is_token, token_of}
use Rattle.list_tokens.specs.Tokens.{tokens, in_list}
use Rattle.keywords.specs.Table.{parse_of}
use Rattle.list_signs.specs.Signs.{part_signs, signs}
use Rattle.list_signs.specs.Plain.{without, first_sign, plain, refused_at, entered_by, entry_of}

-- a part without its signs, and parts
abbrev pub bare : List ℕ → List ℕ
bare p = without p (part_signs p)

unfoldable pub bares : List (List ℕ) → List (List ℕ)
bares [] = []
bares (p ∷ ps) = bare p ∷ bares ps

pub record Converted (list : List ℕ) : Type 0 where
  -- the first reader reads the same tokens in the same order, and so the same characters
  pub same : tokens (plain list) ≡ tokens list
  pub holds : (c : ℕ) → in_list (plain list) c ≡ in_list list c
  -- no retired sign is left, and converting again changes nothing
  pub none_left : first_sign (plain list) ≡ length (plain list)
  pub again : plain (plain list) ≡ plain list
  -- what goes is a `+`
  pub pluses : (k : ℕ) → get_or (signs list) k false ≡ true → get_or list k 0 ≡ 43
  -- what is no retired sign stays, between what is left of what stood before it and of what stood after it
  pub stays :
      (k : ℕ) → k < length list → get_or (signs list) k false ≡ false →
      plain list ≡ without (take k list) (take k (signs list)) ++ (get_or list k 0 ∷ without (drop (k + 1) list) (drop (k + 1) (signs list)))
  -- part by part; a part that the first reader drops stays as typed
  pub by_parts : parts (plain list) ≡ bares (parts list)
  pub dropped : (p : List ℕ) → is_token (token_of (trim p)) ≡ false → bare p ≡ p
  pub shorter : length (plain list) ≤ length list

-- of a list that is not refused with 7
pub record Entry (list : List ℕ) (taken : list_refusal list ≡ 0) : Type 0 where
  -- 21 where there is a retired sign, with the place of the first one
  pub retired :
      (k : ℕ) → k < length list → get_or (signs list) k false ≡ true → ((j : ℕ) → j < k → get_or (signs list) j false ≡ false) →
      entry_of list ≡ refused_at 21 k
  -- where there is none, the answer of `parse`
  pub parses : ((k : ℕ) → k < length list → get_or (signs list) k false ≡ false) → entry_of list ≡ entered_by (parse_of list)
  -- the converted list is entered with what `parse` answers to the list itself
  pub converted : entry_of (plain list) ≡ entered_by (parse_of list)
