-- One word on or back, by the classes alone: where `w`, `b`, `e` and `ge` go in one round. Document 02, #113. Definitions only. Long, since the four
-- motions share their walks. Assumes nothing.
use Rattle.std.specs.Prelude.{ℕ, ◌+◌, ◌-◌, List, Bool, cond, ◌&&◌, not, eqb, ltb, Option, Some, None}
use Rattle.word_places.specs.Places.{is_end, is_empty, soft, text_end, forward, backward, further}
use Rattle.word_places.specs.Walks.{over, back, run_end}
use Rattle.word_ends.specs.declared.Halt.{Halt}
use Rattle.word_ends.specs.declared.Halt.TheVariants.{Onto, Stuck}

-- the end of the last row with content, where `w` runs out: the text's end, or the place before it where the last row is empty and not the only one
abbrev pub last_empty : List ℕ → Bool
last_empty c = ltb 0 (text_end c) && is_empty c (text_end c)

unfoldable pub content_end : List ℕ → ℕ
content_end c = cond (last_empty c) (text_end c - 1) (text_end c)

-- the place where a walk ended, or the content's end for one that had no step
abbrev pub or_end : List ℕ → Halt ℕ → Option ℕ
or_end c (Onto j) = Some j
or_end c (Stuck j) = Some (content_end c)

-- on over spaces
abbrev pub over_space : List ℕ → Bool → ℕ → Option ℕ
over_space c big i = or_end c (over c big 2 2 i)

-- and behind all row ends
abbrev pub then_space : List ℕ → Bool → Halt ℕ → Option ℕ
then_space c big (Onto j) = over_space c big j
then_space c big (Stuck j) = None

abbrev pub from_end : List ℕ → Bool → ℕ → Option ℕ
from_end c big i = cond big (then_space c big (over c big 4 4 i)) (over_space c big i)

-- `w`: from a row's end behind it; from a character behind its run; and then over spaces
unfoldable pub next_start : List ℕ → Bool → ℕ → Option ℕ
next_start c big i =
    cond (is_end c i) (further (forward c i) (from_end c big) None)
    (further (forward c (run_end c big i)) (over_space c big) (Some (content_end c)))

-- the first place of the run that has the place
abbrev pub behind : Halt ℕ → ℕ
behind (Onto j) = j + 1
behind (Stuck j) = j

abbrev pub run_start : List ℕ → Bool → ℕ → ℕ
run_start c big i = behind (back c big (soft c big i) i)

-- `b`: one back, back over spaces, and to the front of the run there; an empty row is a word
abbrev pub start_from : List ℕ → Bool → Halt ℕ → Option ℕ
start_from c big (Onto j) = cond (is_empty c j) (Some j) (Some (run_start c big j))
start_from c big (Stuck j) = Some j

unfoldable pub prev_start : List ℕ → Bool → ℕ → Option ℕ
prev_start c big i = further (backward i) (λ j. start_from c big (back c big 2 j)) None

-- `e`: one on, over spaces and row ends, and to the end of the run there
abbrev pub end_from : List ℕ → Bool → Halt ℕ → Option ℕ
end_from c big (Onto j) = Some (run_end c big j)
end_from c big (Stuck j) = Some j

unfoldable pub next_end : List ℕ → Bool → ℕ → Option ℕ
next_end c big i = further (forward c i) (λ j. end_from c big (over c big 2 4 j)) None

-- `ge`: one back, over the rest of the run that the place is in, and back over spaces
abbrev pub landed : Halt ℕ → Option ℕ
landed (Onto j) = Some j
landed (Stuck j) = Some j

abbrev pub back_from : List ℕ → Bool → Halt ℕ → Option ℕ
back_from c big (Onto j) = landed (back c big 2 j)
back_from c big (Stuck j) = Some j

unfoldable pub prev_end : List ℕ → Bool → ℕ → Option ℕ
prev_end c big i =
    further (backward i) (λ j. cond (eqb (soft c big i) 2) (landed (back c big 2 j)) (back_from c big (back c big (soft c big i) j))) None

-- where `e` with `stop` stays: at the last place of a run that is no space
unfoldable pub at_end : List ℕ → Bool → ℕ → Bool
at_end c big i = not (eqb (soft c big i) 2) && not (eqb (soft c big (i + 1)) (soft c big i))
