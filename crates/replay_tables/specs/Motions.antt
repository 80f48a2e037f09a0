-- What a motion with a table answers, as the list of cases has it: n rows have content. What the contracts of `replay_tables::moving` cite.
-- Definitions only. Assumes nothing.
use Rattle.std.specs.Prelude.{ℕ, List, cond, ◌&&◌, eqb, leb, length, get_or}
use Rattle.motions.specs.declared.Caret.{Caret}
use Rattle.call_texts.specs.Carets.{caret_of, caret_six}
use Rattle.call_texts.specs.Moves.{motions}
use Rattle.call_texts.specs.Seeks.{seeks}
use Rattle.call_texts.specs.Viewports.{viewports}
use Rattle.call_folds.specs.Terms.{words, is_big}
use Rattle.call_folds.specs.Upright.{verticals}
use Rattle.call_folds.specs.Kept.{screens_kept}
use Rattle.call_motion_rows.specs.Asks.{by_table}
use Rattle.replay_rows.specs.declared.Head.{Head}
use Rattle.replay_verdicts.specs.declared.Verdict.{Verdict}
use Rattle.replay_verdicts.specs.declared.Verdict.TheVariants.{Malformed}
use Rattle.replay_verdicts.specs.Answers.{shown, compared}

-- row, column, whether there is a sticky column, and that
abbrev pub caret : Head → Caret
caret k = caret_of k.a k.b k.c k.d

-- a motion by the count e
unfoldable pub motion_of : ℕ → Head → List ℕ → ℕ → List ℕ → List ℕ
motion_of op k t n starts = shown 4 (by_table t starts n (motions op k.e (caret k) t))

-- a search for the character e
unfoldable pub seek_of : ℕ → Head → List ℕ → ℕ → List ℕ → List ℕ
seek_of op k t n starts = shown 5 (by_table t starts n (seeks op k.e (caret k) t))

-- a word motion by the count e, of big words where f is not 0
unfoldable pub word_of : ℕ → Head → List ℕ → List ℕ → ℕ → List ℕ → List ℕ → List ℕ
word_of op k t folds n starts list = shown 4 (by_table t starts n (words op (is_big k.f) k.e (caret k) t folds list))

-- up, down and the screen by the count e, tabstop f, mode g and a width h below 65536
unfoldable pub vertical_verdict : ℕ → Head → List ℕ → List ℕ → ℕ → List ℕ → List ℕ → Verdict
vertical_verdict op k t folds n starts stored =
    cond (leb k.h 65535) (compared (shown 4 (by_table t starts n (verticals op k.g k.h k.e k.f (caret k) t folds))) stored) Malformed

-- an edge of the viewport with offset e, top row f and a height g below 65536
unfoldable pub viewport_verdict : ℕ → Head → List ℕ → ℕ → List ℕ → List ℕ → Verdict
viewport_verdict op k t n starts stored =
    cond (leb k.g 65535) (compared (shown 4 (by_table t starts n (viewports op k.f k.g k.e (caret k) t))) stored) Malformed

-- the screen moves that remember, likewise; `own` is whether an offset is kept, and that
abbrev pub caret_kept : Head → List ℕ → Caret
caret_kept k own = caret_six k.a k.b k.c k.d (get_or own 0 0) (get_or own 1 0)

unfoldable pub kept_verdict : ℕ → Head → List ℕ → List ℕ → ℕ → List ℕ → List ℕ → List ℕ → Verdict
kept_verdict op k t folds n starts own stored =
    cond (leb k.h 65535 && eqb (length own) 2)
    (compared (shown 6 (by_table t starts n (screens_kept op k.g k.h k.e k.f (caret_kept k own) t folds))) stored)
    Malformed
