-- What an edit answers and leaves, as the list of cases has it, and the verdict of a case. What the contracts of `replay_edits` cite.
-- Definitions only. Assumes nothing.
use Rattle.std.specs.Prelude.{ℕ, ◌*◌, ◌≤◌, List, [], ◌∷◌, ◌++◌, cond, ◌&&◌, eqb, leb, length}
use Rattle.text.specs.declared.Position.{Position}
use Rattle.call_bytes.specs.Reply.{number, left}
use Rattle.edit_places.specs.Replaced.{refilled}
use Rattle.edits.specs.Edits.{new_text, new_folds, kept_by, refusal_of}
use Rattle.call_edits.specs.Edits.{caret_in, sizes_in, position_at, caret_reply, sizes_reply, edit_of, HostEdits}
use Rattle.replay_rows.specs.declared.Head.{Head}
use Rattle.replay_verdicts.specs.declared.Verdict.{Verdict}
use Rattle.replay_verdicts.specs.declared.Verdict.TheVariants.{Malformed}
use Rattle.replay_verdicts.specs.Answers.{compared}

-- where the stretch begins and ends, and what it gives way to: operation 0 inserts, any other deletes
abbrev pub from : Head → Position
from k = position_at k.a k.b

unfoldable pub to : Head → Position
to k = cond (eqb k.op 0) (from k) (position_at k.c k.d)

unfoldable pub put : Head → List ℕ → List ℕ
put k c = cond (eqb k.op 0) c []

-- the caret, which keeps a sticky column and an offset, and the sizes
abbrev pub caret_lent : Head → List ℕ
caret_lent k = k.g ∷ k.h ∷ 1 ∷ 7 ∷ 1 ∷ 3 ∷ []

abbrev pub sizes_lent : Head → List ℕ
sizes_lent k = k.e ∷ k.f ∷ []

-- the call of the operation
abbrev pub Edits : Head → List ℕ → List ℕ → List ℕ → List ℕ → List ℕ → ℕ → List ℕ → List ℕ → List ℕ → List ℕ → Type 0
Edits k c buf fold caret sizes r buf' fold' caret' sizes' =
    HostEdits buf fold (from k) (to k) (put k c) caret sizes r buf' fold' caret' sizes'

-- by the refusal's number: what is left of a buffer that holds n places
abbrev pub refusal : Head → List ℕ → List ℕ → List ℕ → ℕ
refusal k c buf fold = refusal_of buf fold (sizes_in (sizes_lent k)) (from k) (to k) (put k c) (caret_in (caret_lent k))

abbrev pub text_left : Head → List ℕ → List ℕ → List ℕ → List ℕ
text_left k c buf fold =
    let s = sizes_in (sizes_lent k) in
    kept_by (refusal k c buf fold) buf (refilled buf s.len (new_text buf s (from k) (to k) (put k c)))

abbrev pub folds_left : Head → List ℕ → List ℕ → List ℕ → List ℕ
folds_left k c buf fold =
    let s = sizes_in (sizes_lent k) in
    kept_by (refusal k c buf fold) fold (refilled fold (3 * s.count) (new_folds fold s (from k) (to k) (put k c)))

-- the number, the caret, the sizes, and both buffers
unfoldable pub edited_into : Head → List ℕ → List ℕ → List ℕ → List ℕ
edited_into k c buf fold =
    let m = edit_of buf fold (from k) (to k) (put k c) (caret_lent k) (sizes_lent k) in
    number (caret_reply m) ∷
    (((left (caret_reply m) (caret_lent k) ++ left (sizes_reply m) (sizes_lent k)) ++ text_left k c buf fold) ++ folds_left k c buf fold)

-- buffers of at most 64 places each
pub record Buffers (text folds : List ℕ) : Type 0 where
  pub text_fits : length text ≤ 64
  pub folds_fit : length folds ≤ 64

-- the verdict of a case: one with longer buffers is malformed
unfoldable pub edit_verdict : Head → List ℕ → List ℕ → List ℕ → List ℕ → Verdict
edit_verdict k buf fold c stored = cond (leb (length buf) 64 && leb (length fold) 64) (compared (edited_into k c buf fold) stored) Malformed
