-- P11 of document 01, as a statement; its proof is `p11` in `proofs/Worked.antt`. Assumes nothing.
use Rattle.std.specs.Prelude.{ℕ, ◌≡◌, [], ◌∷◌, false, ◌&&◌, eqb, leb}
use Rattle.list_tokens.specs.Tokens.{in_list}

pub record P11 : Type 0 where
  -- `+48-57` holds 48 to 57
  pub plus : (c : ℕ) → in_list (43 ∷ 52 ∷ 56 ∷ 45 ∷ 53 ∷ 55 ∷ []) c ≡ (leb 48 c && leb c 57)
  -- `a_z` and `57-48` hold nothing
  pub letters : (c : ℕ) → in_list (97 ∷ 45 ∷ 122 ∷ []) c ≡ false
  pub down : (c : ℕ) → in_list (53 ∷ 55 ∷ 45 ∷ 52 ∷ 56 ∷ []) c ≡ false
  -- `5` holds code 5 only
  pub code : (c : ℕ) → in_list (53 ∷ []) c ≡ eqb c 5
