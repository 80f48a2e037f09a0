-- What the calls on a keyword list answer and leave where plus signs are retired, as the list of cases has it, and the verdict of a case. What the
-- contracts of `replay_signs` cite. Definitions only. Assumes nothing.
use Rattle.std.specs.Prelude.{ℕ, ◌/◌, ◌%◌, List, [], ◌∷◌, ◌++◌, cond, leb, replicate}
use Rattle.call_bytes.specs.Reply.{number, left, told}
use Rattle.call_signs.specs.Entry.{placed_reply, entering}
use Rattle.list_signs.specs.Plain.{plain_in}
use Rattle.call_signs.specs.Plain.{plain_told}
use Rattle.replay_rows.specs.declared.Head.{Head}
use Rattle.replay_verdicts.specs.declared.Verdict.{Verdict}
use Rattle.replay_verdicts.specs.declared.Verdict.TheVariants.{Malformed}
use Rattle.replay_verdicts.specs.Answers.{compared, filler}

-- the entry, with the character a: the number, the place and the answer
unfoldable pub entered_of : Head → List ℕ → List ℕ
entered_of k list =
    let m = placed_reply (entering k.op k.a list) in
    number m % 4294967296 ∷ number m / 4294967296 ∷ left m (replicate 1 filler)

-- the converter: the number, the count and the places
unfoldable pub plain_into : List ℕ → List ℕ → List ℕ
plain_into list written =
    let m = told (plain_told written list) in
    number m ∷ (left m (filler ∷ []) ++ plain_in list written)

-- into a places, at most 64
unfoldable pub plain_verdict : Head → List ℕ → List ℕ → Verdict
plain_verdict k list stored = cond (leb k.a 64) (compared (plain_into list (replicate k.a filler)) stored) Malformed
