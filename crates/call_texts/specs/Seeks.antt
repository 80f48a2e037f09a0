-- The searches by the number that stands for each. Cited by `call_texts::seeks`; number by number in `proofs/Numbers.antt`.
-- Assumes nothing.
use Rattle.std.specs.Prelude.{ℕ, List, [], ◌∷◌, true, false, cond, eqb, Option, Some, None}
use Rattle.motions.specs.declared.Move.{Move}
use Rattle.motions.specs.declared.Caret.{Caret}
use Rattle.motions.specs.declared.Move.TheVariants.{Bracket, Find}
use Rattle.motions.specs.declared.Sought.{Sought}
use Rattle.motions.specs.declared.Sought.TheVariants.{Found, Missing, Refused}
use Rattle.call_bytes.specs.Reply.{Reply, answer, refused}
use Rattle.call_texts.specs.Asks.{seek_as}
use Rattle.call_texts.specs.Carets.{held, column}

-- the number and values of a search: 1 or 0, found or missing, and the caret; or a refusal's number
unfoldable pub sought : Sought → Reply
sought (Found k) = answer (1 ∷ k.row ∷ k.col ∷ held k.sticky ∷ column k.sticky ∷ [])
sought (Missing k) = answer (0 ∷ k.row ∷ k.col ∷ held k.sticky ∷ column k.sticky ∷ [])
sought (Refused f) = refused f

unfoldable pub seek_of : ℕ → ℕ → Option Move
seek_of op x =
    cond (eqb op 0) (Some Bracket)
    (cond (eqb op 1) (Some (Find x false false false))
    (cond (eqb op 2) (Some (Find x true false false))
    (cond (eqb op 3) (Some (Find x false true false))
    (cond (eqb op 4) (Some (Find x true true false))
    (cond (eqb op 5) (Some (Find x false false true))
    (cond (eqb op 6) (Some (Find x true false true))
    (cond (eqb op 7) (Some (Find x false true true))
    (cond (eqb op 8) (Some (Find x true true true))
    None))))))))

-- the answer of the search; 100 where the number stands for none
unfoldable pub seek : ℕ → ℕ → Caret → List ℕ → Sought
seek op x k t = seek_as (seek_of op x) k t

abbrev pub seeks : ℕ → ℕ → Caret → List ℕ → Reply
seeks op x k t = sought (seek op x k t)
