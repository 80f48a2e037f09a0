-- Cases of the call that makes jumps (document 02, #114), as in `Cases`: over P1's text, a `%` that finds nothing, no jump at all, and its own
-- refusals. Definitions only; `proofs/Jumps.antt` computes them. Assumes nothing.
use Rattle.std.specs.Prelude.{ℕ, List, [], ◌∷◌, ◌++◌, replicate}
use Prim.Native.String.{String}
use Rattle.lists.specs.Codes.{codes}
use Rattle.call_bytes.specs.Reply.{Reply, answer, refused}
use Rattle.call_texts.specs.Carets.{caret_six}
use Rattle.jumps.specs.Jumps.{places_left}
use Rattle.call_jumps.specs.Jumping.{jumping}
use Rattle.promises.specs.Asking.{branch}
use Rattle.promises.specs.Cases.{Case, case}
use Rattle.promises.specs.Buffers.{shown}

-- jumps from the start, by a caret with sticky column 9 that keeps offset 3, into places that hold 8s: the caret and the places
abbrev pub hopping : String → List ℕ → ℕ → List ℕ → ℕ → Reply
hopping t table n pairs places =
    let answers : List ℕ = replicate places 8 in
    let k = caret_six 0 0 1 9 1 3 in
    shown (jumping table n k pairs answers (codes t) [] (codes "@,48-57,_")) (places_left (codes t) table n [] (codes "@,48-57,_") k pairs answers)

-- the same over a row of two words
abbrev pub hops : List ℕ → ℕ → Reply
hops = hopping "a b" (0 ∷ []) 1

-- the caret at the end, without an offset, and the places
abbrev pub ends : ℕ → ℕ → List ℕ → Reply
ends r c places = answer ((r ∷ c ∷ 1 ∷ 9 ∷ 0 ∷ 0 ∷ []) ++ places)

unfoldable pub leaps : List Case
leaps =
    case "jumps" (hopping branch (0 ∷ 9 ∷ 15 ∷ []) 3 (0 ∷ 4 ∷ 3 ∷ 0 ∷ []) 5) (ends 2 0 (0 ∷ 7 ∷ 2 ∷ 0 ∷ 8 ∷ [])) (ends 0 5 (0 ∷ 7 ∷ 0 ∷ 5 ∷ 8 ∷ []))
    (ends 2 0 (0 ∷ 7 ∷ 2 ∷ 0 ∷ 0 ∷ [])) ∷
    case "jumps" (hops (3 ∷ 1 ∷ 0 ∷ 1 ∷ []) 4) (ends 0 2 (0 ∷ 0 ∷ 0 ∷ 2 ∷ [])) (ends 0 0 (0 ∷ 0 ∷ 8 ∷ 8 ∷ []))
    (answer ((0 ∷ 2 ∷ replicate 4 0) ++ (0 ∷ 0 ∷ 0 ∷ 2 ∷ []))) ∷
    case "jumps" (hops [] 1) (answer (0 ∷ 0 ∷ 1 ∷ 9 ∷ 1 ∷ 3 ∷ 8 ∷ [])) (ends 0 0 (8 ∷ [])) (refused 22) ∷
    case "jumps" (hops (0 ∷ 1 ∷ 0 ∷ []) 2) (refused 22) (refused 14) (ends 0 2 (0 ∷ 2 ∷ [])) ∷
    case "jumps" (hops (0 ∷ 1 ∷ 3 ∷ 1 ∷ []) 3) (refused 14) (refused 22) (ends 0 2 (0 ∷ 2 ∷ 8 ∷ [])) ∷
    case "jumps" (hopping "a b" (0 ∷ []) 2 (4 ∷ 1 ∷ []) 0) (refused 16) (refused 22) (refused 14) ∷
    []
