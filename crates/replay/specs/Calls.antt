-- The answers of the calls for hosts on the numbers of a case. What the contracts of `replay::calls` cite. Long by its calls: a definition for each.
-- Assumes nothing.
use Rattle.std.specs.Prelude.{ℕ, List, [], ◌∷◌, ◌++◌, cond, ◌&&◌, length, get_or, replicate, eqb, leb}
use Rattle.call_bytes.specs.Reply.{number, left, told}
use Rattle.call_rows.specs.Characters.{fact}
use Rattle.call_rows.specs.Lists.{keywords}
use Rattle.call_rows.specs.Tabs.{tab_columns}
use Rattle.call_rows.specs.Wraps.{offsets, segment_of, segmented, segments_left}
use Rattle.call_texts.specs.Rows.{row_count}
use Rattle.call_texts.specs.Partners.{partner}
use Rattle.call_texts.specs.Inners.{inner}
use Rattle.call_texts.specs.Carets.{caret_of, caret_six}
use Rattle.call_texts.specs.Moves.{motions}
use Rattle.call_texts.specs.Seeks.{seeks}
use Rattle.call_folds.specs.Terms.{words, is_big}
use Rattle.call_texts.specs.Viewports.{viewports}
use Rattle.call_folds.specs.Upright.{verticals}
use Rattle.call_folds.specs.Kept.{screens_kept}
use Rattle.motions.specs.declared.Caret.{Caret}
use Rattle.replay_rows.specs.declared.Head.{Head}
use Rattle.replay_verdicts.specs.declared.Verdict.{Verdict}
use Rattle.replay_verdicts.specs.declared.Verdict.TheVariants.{Malformed}
use Rattle.replay_verdicts.specs.Answers.{filler, shown, compared}

-- a fact about the code point a
unfoldable pub character_of : Head → List ℕ
character_of k = shown 1 (told (fact k.op k.a))

-- a keyword list and the character a
unfoldable pub keywords_of : Head → List ℕ → List ℕ
keywords_of k list = shown 1 (keywords k.op k.a list)

-- column a of a row, tabstop b
unfoldable pub columns_of : Head → List ℕ → List ℕ
columns_of k row = shown 1 (tab_columns k.op k.a k.b row)

-- the segment of a row from a to b, offset or column c
unfoldable pub offsets_of : Head → List ℕ → List ℕ
offsets_of k row = shown 1 (offsets k.op k.a k.b k.c row)

-- the segment that column a is in
unfoldable pub segment_for_col_of : Head → List ℕ → List ℕ
segment_for_col_of k segments = shown 1 (segment_of k.a segments)

-- `wrap_segments` into these places, which follow
unfoldable pub wrapped_in : ℕ → ℕ → List ℕ → List ℕ → List ℕ
wrapped_in mode width segments row =
    let m = told (segmented mode width segments row) in
    number m ∷ (left m (filler ∷ []) ++ segments_left mode width segments row)

-- by the width a, below 65536, into b places, at most 64
unfoldable pub wrap_verdict : Head → List ℕ → List ℕ → Verdict
wrap_verdict k row stored =
    cond (leb k.a 65535 && leb k.b 64) (compared (wrapped_in k.op k.a (replicate k.b filler) row) stored) Malformed

-- the rows with content
unfoldable pub content_row_count_of : List ℕ → List ℕ
content_row_count_of text = shown 1 (row_count text)

-- the partner of the bracket at row a and column b
unfoldable pub matching_bracket_pos_of : Head → List ℕ → List ℕ
matching_bracket_pos_of k text = shown 3 (partner k.a k.b text)

-- the innermost pair around row a and column b
unfoldable pub inner_pair_of : Head → List ℕ → List ℕ
inner_pair_of k text = shown 9 (inner k.op k.a k.b text)

-- row, column, whether there is a sticky column, and that
abbrev pub caret : Head → Caret
caret k = caret_of k.a k.b k.c k.d

-- a motion by the count e
unfoldable pub motion_of : Head → List ℕ → List ℕ
motion_of k text = shown 4 (motions k.op k.e (caret k) text)

-- a search for the character e
unfoldable pub seek_of : Head → List ℕ → List ℕ
seek_of k text = shown 5 (seeks k.op k.e (caret k) text)

-- a word motion by the count e, of big words where f is not 0
unfoldable pub word_of : Head → List ℕ → List ℕ → List ℕ → List ℕ
word_of k text folds list = shown 4 (words k.op (is_big k.f) k.e (caret k) text folds list)

-- up, down and the screen by the count e, tabstop f, mode g and a width h below 65536
unfoldable pub vertical_verdict : Head → List ℕ → List ℕ → List ℕ → Verdict
vertical_verdict k text folds stored =
    cond (leb k.h 65535) (compared (shown 4 (verticals k.op k.g k.h k.e k.f (caret k) text folds)) stored) Malformed

-- the screen moves that remember, likewise; `own` is whether an offset is kept, and that
unfoldable pub kept_verdict : Head → List ℕ → List ℕ → List ℕ → List ℕ → Verdict
kept_verdict k text folds own stored =
    cond (leb k.h 65535 && eqb (length own) 2)
    (compared (shown 6 (screens_kept k.op k.g k.h k.e k.f (caret_six k.a k.b k.c k.d (get_or own 0 0)
    (get_or own 1 0)) text folds)) stored)
    Malformed

-- an edge of the viewport with offset e, top row f and a height g below 65536
unfoldable pub viewport_verdict : Head → List ℕ → List ℕ → Verdict
viewport_verdict k text stored =
    cond (leb k.g 65535) (compared (shown 4 (viewports k.op k.f k.g k.e (caret k) text)) stored) Malformed
