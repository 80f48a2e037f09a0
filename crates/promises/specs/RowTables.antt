-- A case of each call on row starts that are kept (document 02, #106): the fill, the edits with a table, and the motions with one, as in `Cases`.
-- Definitions only; `proofs/RowTables.antt` computes them. Assumes nothing.
use Rattle.std.specs.Prelude.{ℕ, List, [], ◌∷◌, ◌++◌, length, replicate}
use Prim.Native.String.{String}
use Rattle.lists.specs.Codes.{codes}
use Rattle.text.specs.Text.{row_count, position}
use Rattle.text.specs.declared.Position.{Position}
use Rattle.edit_places.specs.Replaced.{refilled}
use Rattle.row_table.specs.Table.{row_starts}
use Rattle.row_table.specs.Fill.{fill_refusal, table_of}
use Rattle.edits.specs.Edits.{new_text, kept_by}
use Rattle.call_bytes.specs.Reply.{Reply, answer, refused, told}
use Rattle.call_texts.specs.Rows.{told_rows}
use Rattle.call_edits.specs.Edits.{sizes_in}
use Rattle.call_row_table.specs.Tables.{fill_of, sizes_reply, number_of, edit_of}
use Rattle.call_motion_rows.specs.Asks.{by_table}
use Rattle.promises.specs.Asking.{key, found}
use Rattle.promises.specs.Cases.{Case, case, caret, missing, caret_to, caret_kept}
use Rattle.promises.specs.Calls.{motion, word, upright, remembering, viewport}
use Rattle.promises.specs.Buffers.{shown}

-- a fill of n places that hold 9s: the rows with content, and the places
abbrev pub filling : String → ℕ → Reply
filling t n =
    let table : List ℕ = replicate n 9 in
    shown (told (told_rows (fill_of (codes t) table))) (kept_by (fill_refusal (codes t) table) table (table_of (codes t) table))

-- an edit of a text in a buffer with so many places more, with a table and a number of rows with content: the sizes and the table
abbrev pub keeping : ℕ → String → List ℕ → ℕ → Position → Position → String → Reply
keeping more t table n p q c =
    let buf : List ℕ = codes t ++ replicate more 9 in
    let sizes = length (codes t) ∷ 0 ∷ n ∷ [] in
    let f = number_of buf [] table p q (codes c) (replicate 6 0) sizes in
    shown (sizes_reply (edit_of buf [] table p q (codes c) (replicate 6 0) sizes))
    (kept_by f table (refilled table (row_count (codes t)) (row_starts (new_text buf (sizes_in sizes) p q (codes c)))))

-- the reply of a call without a table, beside one of two rows and a place behind them, or another
abbrev pub beside : String → Reply → Reply
beside t m = by_table (codes t) (0 ∷ 2 ∷ 9 ∷ []) 2 m

-- `gg` from the second of two rows
abbrev pub to_top : List ℕ → ℕ → Reply
to_top table n = by_table (codes "a\nb") table n (motion 19 "a\nb" 1 0 0)

unfoldable pub tabled : List Case
tabled =
    case "row_starts" (filling "a\n\n" 4) (answer (2 ∷ 0 ∷ 2 ∷ 3 ∷ 9 ∷ [])) (answer (2 ∷ 0 ∷ 2 ∷ 9 ∷ 9 ∷ [])) (answer (3 ∷ 0 ∷ 2 ∷ 3 ∷ 9 ∷ [])) ∷
    case "row_starts" (filling "a\n" 1) (refused 15) (answer (1 ∷ 0 ∷ [])) (refused 1) ∷
    case "insert_rows" (keeping 1 "a\nb" (0 ∷ 2 ∷ 9 ∷ []) 2 (position 1 1) (position 1 1) "\n") (answer (4 ∷ 0 ∷ 2 ∷ 0 ∷ 2 ∷ 4 ∷ []))
    (answer (4 ∷ 0 ∷ 2 ∷ 0 ∷ 2 ∷ 0 ∷ [])) (answer (4 ∷ 0 ∷ 3 ∷ 0 ∷ 2 ∷ 4 ∷ [])) ∷
    case "insert_rows" (keeping 1 "a" (0 ∷ []) 1 (position 0 1) (position 0 1) "\n") (refused 15) (refused 12) (answer (2 ∷ 0 ∷ 1 ∷ 0 ∷ 2 ∷ [])) ∷
    case "delete_rows" (keeping 0 "a\nb\nc\nd" (0 ∷ 2 ∷ 4 ∷ 6 ∷ 777 ∷ []) 4 (position 0 1) (position 2 0) "") (answer (4 ∷ 0 ∷ 2 ∷ 0 ∷ 3 ∷ 0 ∷ 0 ∷ 777 ∷ []))
    (answer (4 ∷ 0 ∷ 2 ∷ 0 ∷ 3 ∷ 4 ∷ 6 ∷ 777 ∷ [])) (answer (4 ∷ 0 ∷ 2 ∷ 0 ∷ 3 ∷ 0 ∷ 0 ∷ 0 ∷ [])) ∷
    case "delete_rows" (keeping 0 "a\nb" (0 ∷ 3 ∷ []) 2 (position 0 0) (position 1 1) "") (refused 16) (answer (0 ∷ 0 ∷ 1 ∷ 0 ∷ 0 ∷ [])) (refused 11) ∷
    case "motion_rows" (to_top (0 ∷ 2 ∷ 9 ∷ []) 2) (caret 0 0) (caret 1 0) (refused 16) ∷
    case "motion_rows" (to_top (0 ∷ []) 1) (refused 15) (caret 0 0) (refused 16) ∷
    case "motion_rows" (to_top (0 ∷ 1 ∷ []) 2) (refused 16) (caret 0 0) (refused 15) ∷
    case "motion_rows" (to_top (0 ∷ 2 ∷ []) 1) (refused 16) (caret 0 0) (refused 15) ∷
    case "motion_rows" (beside "a\nb" (motion 20 "a\nb" 2 0 0)) (refused 4) (refused 16) (caret 1 0) ∷
    case "motion_rows" (by_table (codes "a\nb") [] 9 (motion 20 "a\nb" 2 0 0)) (refused 4) (refused 15) (refused 16) ∷
    case "word_rows" (beside "a\nb" (word 0 "a\nb" 0 0)) (caret 1 0) (caret 0 1) (refused 16) ∷
    case "vertical_rows" (beside "a\nb" (upright 1 0 "a\nb" 0 0)) (caret_to 1 0 0) (caret_to 0 0 0) (caret 1 0) ∷
    case "screen_kept_rows" (beside "a\nb" (remembering 1 1 2 [] "a\nb" 0 0 1 1)) (caret_kept 1 0 1 1) (caret_kept 1 0 0 0) (caret_kept 0 0 1 1) ∷
    case "viewport_rows" (by_table (codes "a\nb\nc") (0 ∷ 2 ∷ 4 ∷ []) 3 (viewport 2 0 2)) (caret 1 0) (caret 0 0) (caret 2 0) ∷
    case "viewport_rows" (by_table (codes "a\nb\nc") (0 ∷ 4 ∷ 2 ∷ []) 3 (viewport 2 0 2)) (refused 16) (caret 1 0) (caret 2 0) ∷
    case "seek_rows" (beside "(\n)" (key "(\n)" 0 0)) (answer (found 1 0)) (missing 0 0) (answer (found 0 0)) ∷
    []
