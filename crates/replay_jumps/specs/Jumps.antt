-- What a run of jumps answers and leaves, as the list of cases has it, and the verdict of a case. What the contracts of `replay_jumps` cite.
-- Definitions only. Assumes nothing.
use Rattle.std.specs.Prelude.{ℕ, ◌+◌, List, ◌∷◌, ◌++◌, cond, ◌&&◌, leb, length, get_or, replicate}
use Rattle.motions.specs.declared.Caret.{Caret}
use Rattle.jumps.specs.Jumps.{places_left}
use Rattle.call_bytes.specs.Reply.{number, left}
use Rattle.call_texts.specs.Carets.{caret_six}
use Rattle.call_jumps.specs.Jumping.{jumping}
use Rattle.replay_rows.specs.Cases.{part}
use Rattle.replay_rows.specs.declared.Head.{Head}
use Rattle.replay_verdicts.specs.declared.Verdict.{Verdict}
use Rattle.replay_verdicts.specs.declared.Verdict.TheVariants.{Malformed}
use Rattle.replay_verdicts.specs.Answers.{compared, filler}

-- the caret's six numbers
abbrev pub caret : Head → Caret
caret k = caret_six k.a k.b k.c k.d k.e k.f

-- the number, the caret's six places, and those for answers; h rows have content
unfoldable pub jumped_into : Head → List ℕ → List ℕ → List ℕ → List ℕ → List ℕ → List ℕ → List ℕ
jumped_into k text folds starts pairs words answers =
    let m = jumping starts k.h (caret k) pairs answers text folds words in
    number m ∷ (left m (replicate 6 filler) ++ places_left text starts k.h folds words (caret k) pairs answers)

-- into g places, at most 64
unfoldable pub room_verdict : Head → List ℕ → List ℕ → List ℕ → List ℕ → List ℕ → List ℕ → Verdict
room_verdict k text folds starts pairs words stored =
    cond (leb k.g 64) (compared (jumped_into k text folds starts pairs words (replicate k.g filler)) stored) Malformed

-- where the jumps and the keyword list begin in the list of a case
abbrev pub pairs_at : List ℕ → ℕ
pairs_at list = 2 + get_or list 0 0

abbrev pub words_at : List ℕ → ℕ
words_at list = pairs_at list + get_or list 1 0

unfoldable pub jump_verdict : Head → List ℕ → List ℕ → List ℕ → List ℕ → Verdict
jump_verdict k text folds list stored =
    cond (leb 2 (length list) && leb (words_at list) (length list))
    (room_verdict k text folds (part 2 (pairs_at list) list) (part (pairs_at list) (words_at list) list) (part (words_at list) (length list) list) stored)
    Malformed
