-- What the contracts of `src/parts.rt` cite: the parts of a list between commas, and a part trimmed. Document 01, "Keyword lists".
-- Definitions only; the laws are in `proofs/TrimLaws.antt`, and those of parts in `lists`. Assumes nothing.
use Rattle.std.specs.Prelude.{ℕ, ◌≤◌, ◌≡◌, List, [], ◌∷◌, cond, length, take, drop}
use Rattle.lists.specs.Lists.{split}
use Rattle.chars.specs.White.{is_white}

-- what stands between the commas of a list
abbrev pub parts : List ℕ → List (List ℕ)
parts list = split 44 list

-- without white space at the start
unfoldable pub trim_start : List ℕ → List ℕ
trim_start [] = []
trim_start (x ∷ p) = cond (is_white x) (trim_start p) (x ∷ p)

-- x, unless it is white space with nothing after it
abbrev pub keep_last : ℕ → List ℕ → List ℕ
keep_last x [] = cond (is_white x) [] (x ∷ [])
keep_last x (y ∷ p) = x ∷ y ∷ p

-- without white space at the end
unfoldable pub trim_end : List ℕ → List ℕ
trim_end [] = []
trim_end (x ∷ p) = keep_last x (trim_end p)

abbrev pub trim : List ℕ → List ℕ
trim p = trim_end (trim_start p)

-- trimmed at one end, a part is what is left of it at i
pub record Trimmed (trims : List ℕ → List ℕ) (left : ℕ → List ℕ) (p : List ℕ) (i : ℕ) : Type 0 where
  pub inside : i ≤ length p
  pub is : trims p ≡ left i

-- it begins at i, and ends at e
abbrev pub Begun : List ℕ → ℕ → Type 0
Begun p i = Trimmed trim_start (λ j. drop j p) p i

abbrev pub Ended : List ℕ → ℕ → Type 0
Ended p e = Trimmed trim_end (λ j. take j p) p e
