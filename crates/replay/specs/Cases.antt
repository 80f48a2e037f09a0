-- The verdict of a case. What the contracts of `replay::cases` cite. Assumes nothing.
use Rattle.std.specs.Prelude.{ℕ, List, cond, ◌&&◌, length, get_or, eqb, leb}
use Rattle.replay_rows.specs.declared.Head.{Head}
use Rattle.replay_verdicts.specs.declared.Verdict.{Verdict}
use Rattle.replay_verdicts.specs.declared.Verdict.TheVariants.{Malformed}
use Rattle.replay_verdicts.specs.Answers.{compared}
use Rattle.replay_rows.specs.Cases.{head_of, folds_at, list_at, stored_at, part}
use Rattle.replay_codings.specs.Codings.{decode_verdict, encode_verdict}
use Rattle.replay_signs.specs.Signs.{entered_of, plain_verdict}
use Rattle.replay_edits.specs.Edits.{edit_verdict}
use Rattle.replay_fold_file.specs.FoldFiles.{file_verdict}
use Rattle.replay_classes.specs.Classes.{class_verdict}
use Rattle.replay_tables.specs.Verdicts.{tabled_verdict}
use Rattle.replay_vim.specs.Vim.{vim_verdict, vim_word_of}
use Rattle.replay_jumps.specs.Jumps.{jump_verdict}
use Rattle.replay.specs.Calls.{character_of, keywords_of, columns_of, offsets_of, segment_for_col_of, wrap_verdict}
use Rattle.replay.specs.Calls.{content_row_count_of, matching_bracket_pos_of, inner_pair_of, motion_of, seek_of, word_of, vertical_verdict, viewport_verdict}
use Rattle.replay.specs.Calls.{kept_verdict}

-- the verdict by the group of calls
unfoldable pub by_group : ℕ → Head → List ℕ → List ℕ → List ℕ → List ℕ → Verdict
by_group group k text folds list stored =
    cond (eqb group 0) (compared (character_of k) stored)
    (cond (eqb group 1) (compared (keywords_of k list) stored)
    (cond (eqb group 2) (compared (columns_of k text) stored)
    (cond (eqb group 3) (compared (offsets_of k text) stored)
    (cond (eqb group 4) (compared (segment_for_col_of k list) stored)
    (cond (eqb group 5) (wrap_verdict k text stored)
    (cond (eqb group 6) (compared (content_row_count_of text) stored)
    (cond (eqb group 7) (compared (matching_bracket_pos_of k text) stored)
    (cond (eqb group 8) (compared (motion_of k text) stored)
    (cond (eqb group 9) (compared (seek_of k text) stored)
    (cond (eqb group 10) (compared (word_of k text folds list) stored)
    (cond (eqb group 11) (vertical_verdict k text folds stored)
    (cond (eqb group 12) (viewport_verdict k text stored)
    (cond (eqb group 13) (compared (inner_pair_of k text) stored)
    (cond (eqb group 14) (decode_verdict k text stored)
    (cond (eqb group 15) (encode_verdict k text stored)
    (cond (eqb group 16) (compared (entered_of k list) stored)
    (cond (eqb group 17) (plain_verdict k list stored)
    (cond (eqb group 18) (kept_verdict k text folds list stored)
    (cond (eqb group 19) (edit_verdict k text folds list stored)
    (cond (eqb group 20) (file_verdict k text folds list stored)
    (cond (eqb group 21) (class_verdict k text folds list stored)
    (cond (eqb group 22) (tabled_verdict k text folds list stored)
    (cond (eqb group 23) (vim_verdict k list stored)
    (cond (eqb group 24) (jump_verdict k text folds list stored)
    (cond (eqb group 25) (compared (vim_word_of k text folds list) stored)
    Malformed)))))))))))))))))))))))))

-- the verdict of a case
unfoldable pub verdict_of : List ℕ → Verdict
verdict_of ns =
    cond (leb 13 (length ns) && leb (stored_at ns) (length ns))
    (by_group (get_or ns 0 0) (head_of ns)
    (part 13 (folds_at ns) ns) (part (folds_at ns) (list_at ns) ns) (part (list_at ns) (stored_at ns) ns) (part (stored_at ns) (length ns) ns))
    Malformed
