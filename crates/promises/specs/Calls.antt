-- A case of every public call on characters, rows, texts and folds, as in `Cases`. Definitions only; `proofs/Examples.antt` computes them. Long by its
-- calls: a case for each. Assumes nothing.
use Rattle.std.specs.Prelude.{ℕ, List, [], ◌∷◌, false}
use Prim.Native.String.{String}
use Rattle.call_bytes.specs.Reply.{Reply, answer, refused, told}
use Rattle.call_texts.specs.Carets.{caret_of, caret_six}
use Rattle.call_rows.specs.Characters.{fact}
use Rattle.call_rows.specs.Lists.{keywords}
use Rattle.call_texts.specs.Moves.{motions}
use Rattle.call_texts.specs.Rows.{row_count}
use Rattle.call_rows.specs.Tabs.{tab_columns}
use Rattle.call_folds.specs.Terms.{words}
use Rattle.call_texts.specs.Viewports.{viewports}
use Rattle.call_folds.specs.Upright.{verticals}
use Rattle.call_folds.specs.Kept.{screens_kept}
use Rattle.call_rows.specs.Wraps.{offsets, segment_of}
use Rattle.lists.specs.Codes.{codes}
use Rattle.promises.specs.Asking.{pair, inside, key, till, by_word, with, none, spans, alone, found, yes, no}
use Rattle.promises.specs.Cases.{Case, case, value, caret, missing, caret_to, caret_kept}

-- the calls by what they ask: a motion, from a caret without a sticky column, with a count
abbrev pub motion : ℕ → String → ℕ → ℕ → ℕ → Reply
motion op t r c n = motions op n (caret_of r c 0 0) (codes t)

abbrev pub word : ℕ → String → ℕ → ℕ → Reply
word op t r c = words op false 1 (caret_of r c 0 0) (codes t) [] (codes "@,48-57,_")

-- up, down and the screen of a width, by characters; a viewport of a top row and a height
abbrev pub upright : ℕ → ℕ → String → ℕ → ℕ → Reply
upright op width t r c = verticals op 1 width 1 8 (caret_of r c 0 0) (codes t) []

-- the screen moves that remember, from a caret with a sticky column and an offset or none (kept 0); mode 1 Char, 2 Word
abbrev pub remembering : ℕ → ℕ → ℕ → List ℕ → String → ℕ → ℕ → ℕ → ℕ → Reply
remembering op mode width folds t r c kept offset = screens_kept op mode width 1 8 (caret_six r c 1 9 kept offset) (codes t) folds

abbrev pub viewport : ℕ → ℕ → ℕ → Reply
viewport op top height = viewports op top height 0 (caret_of 0 0 0 0) (codes "a\nb\nc")

unfoldable pub calls : List Case
calls =
    case "is_scalar" (told (fact 0 0xd800)) (answer no) (answer yes) (refused 2) ∷
    case "is_white" (told (fact 1 0xa0)) (answer yes) (answer no) (refused 2) ∷
    case "is_letter" (told (fact 2 123)) (answer no) (answer yes) (refused 2) ∷
    case "width" (told (fact 3 0x3042)) (value 2) (value 1) (value 0) ∷
    case "is_white" (told (fact 1 0xd800)) (refused 2) (answer no) (answer yes) ∷
    case "is_letter" (told (fact 2 0xdfff)) (refused 2) (answer no) (answer yes) ∷
    case "width" (told (fact 3 0x110000)) (refused 2) (value 1) (value 0) ∷
    case "width" (told (fact 259 0x2192)) (value 2) (value 1) (refused 100) ∷
    case "parse" (keywords 0 0 (codes "@,48-57,_")) (value 3) (value 1) (refused 8) ∷
    case "matches" (keywords 1 5 (codes "5")) (answer yes) (answer no) (refused 2) ∷
    case "is_keyword_char" (keywords 2 50 (codes "57-48")) (answer no) (answer yes) (refused 7) ∷
    case "visual_col_to_char_col" (tab_columns 0 7 8 (codes "\tx")) (value 0) (value 1) (value 7) ∷
    case "char_col_to_visual_col" (tab_columns 1 1 8 (codes "\tx")) (value 8) (value 1) (value 7) ∷
    case "cursor_visual_col" (tab_columns 2 0 8 (codes "\tx")) (value 7) (value 0) (value 8) ∷
    case "leading_visual_width" (tab_columns 3 0 8 (codes "\tx")) (value 8) (value 1) (value 0) ∷
    case "wrap_segments" (by_word 4 (codes "ab cd")) (answer (2 ∷ 0 ∷ 3 ∷ 3 ∷ 5 ∷ [])) (answer (1 ∷ 0 ∷ 5 ∷ 9 ∷ 9 ∷ [])) (answer (2 ∷ 0 ∷ 4 ∷ 4 ∷ 5 ∷ [])) ∷
    case "char_col_for_visual_offset" (offsets 0 3 5 1 (codes "ab cd")) (value 4) (value 1) (value 3) ∷
    case "visual_offset_for_char_col" (offsets 1 3 0 4 (codes "ab cd")) (value 1) (value 4) (value 0) ∷
    case "segment_for_col" (segment_of 3 (0 ∷ 3 ∷ 3 ∷ 5 ∷ [])) (value 1) (value 0) (refused 10) ∷
    case "content_row_count" (row_count (codes "a\n")) (value 1) (value 2) (refused 3) ∷
    case "move_left" (motion 0 "ab" 0 1 1) (caret 0 0) (caret 0 1) (refused 4) ∷
    case "move_right_in_line" (motion 1 "ab" 0 0 5) (caret 0 1) (caret 0 2) (caret 0 0) ∷
    case "move_right_to_end" (motion 2 "ab" 0 0 5) (caret 0 2) (caret 0 1) (caret 0 0) ∷
    case "move_space_fwd" (motion 3 "a\nb" 0 0 1) (caret 1 0) (caret 0 0) (caret 0 1) ∷
    case "move_backspace_back" (motion 4 "a\nb" 1 0 1) (caret 0 0) (caret 1 0) (caret 0 1) ∷
    case "move_line_start" (motion 5 "ab" 0 1 0) (caret 0 0) (caret 0 1) (refused 4) ∷
    case "move_first_non_blank" (motion 6 " a" 0 0 0) (caret 0 1) (caret 0 0) (caret 0 2) ∷
    case "move_line_end" (motion 7 "ab" 0 0 0) (caret 0 1) (caret 0 2) (caret 0 0) ∷
    case "move_goto_column" (motion 8 "abc" 0 0 2) (caret 0 1) (caret 0 2) (caret 0 0) ∷
    case "move_last_non_blank" (motion 9 "a " 0 1 0) (caret 0 0) (caret 0 1) (caret 0 2) ∷
    case "move_paragraph_prev" (motion 10 "a\n\nb" 2 0 1) (caret 1 0) (caret 0 0) (caret 2 0) ∷
    case "move_paragraph_next" (motion 11 "a\n\nb" 0 0 3) (caret 0 0) (caret 1 0) (caret 2 0) ∷
    case "move_section_backward" (motion 12 "{\na" 1 0 1) (caret 0 0) (caret 1 0) (refused 4) ∷
    case "move_section_forward" (motion 13 "a\nb\n{" 0 0 1) (caret 2 0) (caret 1 0) (caret 0 0) ∷
    case "move_section_end_backward" (motion 14 "}\na" 1 0 1) (caret 0 0) (caret 1 0) (refused 4) ∷
    case "move_section_end_forward" (motion 15 "a\nb\n}" 0 0 1) (caret 2 0) (caret 1 0) (caret 0 0) ∷
    case "move_first_non_blank_next_line" (motion 16 "a\n b" 0 0 1) (caret 1 1) (caret 1 0) (caret 0 0) ∷
    case "move_first_non_blank_prev_line" (motion 17 "\ta\nb" 1 0 1) (caret 0 1) (caret 0 0) (caret 1 0) ∷
    case "move_first_non_blank_line" (motion 18 "a\n" 1 0 1) (caret 0 0) (caret 1 0) (refused 4) ∷
    case "move_top" (motion 19 "a\nb" 1 0 0) (caret 0 0) (caret 1 0) (refused 4) ∷
    case "move_bottom" (motion 20 "a\nb\n" 0 0 0) (caret 1 0) (caret 2 0) (caret 0 0) ∷
    case "move_word_fwd" (word 0 "ab" 0 0) (caret 0 2) (caret 0 1) (caret 0 0) ∷
    case "move_word_back" (word 1 "a b" 0 2) (caret 0 0) (caret 0 1) (caret 0 2) ∷
    case "move_word_end" (word 2 "ab\ncd" 0 0) (caret 0 1) (caret 1 1) (caret 0 0) ∷
    case "move_word_end_back" (word 4 "ab cd" 0 4) (caret 0 1) (caret 0 3) (caret 0 0) ∷
    case "move_up" (upright 0 0 "ab\n\tc" 1 1) (caret_to 0 1 8) (caret_to 1 1 8) (caret 0 1) ∷
    case "move_down" (upright 1 0 "a\n" 0 0) (caret_to 1 0 0) (caret_to 0 0 0) (caret 1 0) ∷
    case "move_down" (upright 257 0 "→b\nabc" 0 1) (caret_to 1 2 2) (caret_to 1 1 1) (refused 100) ∷
    case "move_screen_up" (upright 2 2 "abcd" 0 3) (caret_to 0 1 3) (caret_to 0 3 3) (caret_to 0 0 3) ∷
    case "move_screen_down" (upright 3 2 "abcd" 0 1) (caret_to 0 3 1) (caret_to 0 2 1) (caret 0 3) ∷
    case "move_screen_up_kept" (remembering 0 1 2 [] "abcd" 0 4 0 0) (caret_kept 0 1 1 2) (caret_kept 0 1 1 1) (caret_kept 0 1 0 0) ∷
    case "move_screen_down_kept" (remembering 1 2 2 [] "aa aa" 0 2 1 1) (caret_kept 0 4 1 1) (caret_kept 0 3 1 1) (caret_kept 0 3 1 0) ∷
    case "move_screen_down_kept" (remembering 1 1 1 (1 ∷ 2 ∷ 1 ∷ []) "\n\na" 0 0 1 0) (caret_kept 1 0 1 0) (caret_kept 2 0 1 0) (caret_kept 0 0 1 0) ∷
    case "move_screen_down_kept" (remembering 1 0 2 [] "a" 0 0 1 5) (caret_kept 0 0 0 0) (caret_kept 0 0 1 5) (caret_kept 0 0 1 0) ∷
    case "move_viewport_top" (viewport 0 1 2) (caret 1 0) (caret 0 0) (caret 2 0) ∷
    case "move_viewport_middle" (viewport 1 0 3) (caret 1 0) (caret 0 0) (caret 2 0) ∷
    case "move_viewport_bottom" (viewport 2 0 2) (caret 1 0) (caret 0 0) (caret 2 0) ∷
    case "matching_bracket_pos" (pair "([)]" 0 0) (answer (with 0 2)) (answer none) (answer (with 0 3)) ∷
    case "inner_pair" (inside 0 "((a))" 0 3) (answer (spans 0 2 0 3)) (answer (spans 0 1 0 4)) (answer alone) ∷
    case "inner_pair" (inside 0 "(a" 0 1) (answer alone) (answer (spans 0 1 0 2)) (refused 4) ∷
    case "inner_pair" (inside 0 "()" 0 3) (refused 4) (answer alone) (answer (spans 0 1 0 1)) ∷
    case "inner_pair" (inside 4 "()" 0 3) (refused 100) (refused 4) (answer alone) ∷
    case "match_bracket" (key "<(>)" 0 0) (answer (found 0 3)) (missing 0 0) (answer (found 0 2)) ∷
    case "find_char_on_line" (till false "axx") (answer (found 0 0)) (missing 0 0) (answer (found 0 1)) ∷
    []
