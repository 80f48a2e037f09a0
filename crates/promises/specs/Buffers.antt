-- A case of each call on lent buffers, edits and fold files, as in `Cases`. Definitions only; `proofs/Buffers.antt` computes them. Long by its calls: a
-- case for each. Assumes nothing.
use Rattle.std.specs.Prelude.{ℕ, ◌*◌, ◌/◌, List, [], ◌∷◌, ◌++◌, length, replicate}
use Prim.Native.String.{String}
use Rattle.lists.specs.Codes.{codes}
use Rattle.text.specs.Text.{position}
use Rattle.text.specs.declared.Position.{Position}
use Rattle.fold_writer.specs.Writing.{written_in}
use Rattle.fold_reader.specs.Reading.{loaded_in}
use Rattle.edit_places.specs.Replaced.{refilled}
use Rattle.edits.specs.declared.Edited.{Edited}
use Rattle.edits.specs.declared.Edited.TheVariants.{Done, Refused}
use Rattle.edits.specs.Edits.{new_text, new_folds, kept_by, refusal_of}
use Rattle.call_bytes.specs.Reply.{Reply, answer, refused}
use Rattle.call_edits.specs.Edits.{caret_in, sizes_in, edit_of}
use Rattle.call_fold_file.specs.FoldFiles.{writes, reads}
use Rattle.promises.specs.Cases.{Case, case}

-- an edit: the caret, the sizes, and both buffers
abbrev pub edit_shown : Edited → List ℕ → List ℕ → Reply
edit_shown (Done l) buf folds = answer (l.caret.row ∷ l.caret.col ∷ l.sizes.len ∷ l.sizes.count ∷ (buf ++ folds))
edit_shown (Refused f) buf folds = refused f

-- of a text in a buffer with so many places more that hold 9s, and of a caret that keeps a sticky column and an offset
abbrev pub editing : ℕ → String → List ℕ → Position → Position → String → ℕ → ℕ → Reply
editing more t folds p q c row col =
    let buf = codes t ++ replicate more 9 in
    let sizes = length (codes t) ∷ length folds / 3 ∷ [] in
    let caret = row ∷ col ∷ 1 ∷ 7 ∷ 1 ∷ 3 ∷ [] in
    let s = sizes_in sizes in
    let f = refusal_of buf folds s p q (codes c) (caret_in caret) in
    edit_shown (edit_of buf folds p q (codes c) caret sizes) (kept_by f buf (refilled buf s.len (new_text buf s p q (codes c))))
    (kept_by f folds (refilled folds (3 * s.count) (new_folds folds s p q (codes c))))

abbrev pub inserting : ℕ → String → List ℕ → ℕ → ℕ → String → ℕ → ℕ → Reply
inserting more t folds r c points row col = editing more t folds (position r c) (position r c) points row col

abbrev pub deleting : String → List ℕ → Position → Position → ℕ → ℕ → Reply
deleting t folds p q row col = editing 1 t folds p q "" row col

-- a caret at the point of an insert, rows and folds behind it, no room; a delete, whose freed places are 0, a fold that loses its rows, and an end that
-- stands first
unfoldable pub edit_cases : List Case
edit_cases =
    case "insert" (inserting 4 "ab\ncd" [] 0 1 "x\nyz" 0 1) (answer (1 ∷ 2 ∷ 9 ∷ 0 ∷ codes "ax\nyzb\ncd"))
    (answer (0 ∷ 1 ∷ 9 ∷ 0 ∷ codes "ax\nyzb\ncd")) (answer (1 ∷ 2 ∷ 9 ∷ 0 ∷ codes "ab\nx\nyzcd")) ∷
    case "insert" (inserting 2 "\n\n" (1 ∷ 2 ∷ 1 ∷ []) 0 0 "\n" 2 0) (answer (3 ∷ 0 ∷ 3 ∷ 1 ∷ (10 ∷ 10 ∷ 10 ∷ 9 ∷ 2 ∷ 3 ∷ 1 ∷ [])))
    (answer (3 ∷ 0 ∷ 3 ∷ 1 ∷ (10 ∷ 10 ∷ 10 ∷ 9 ∷ 1 ∷ 2 ∷ 1 ∷ []))) (answer (2 ∷ 0 ∷ 3 ∷ 1 ∷ (10 ∷ 10 ∷ 10 ∷ 9 ∷ 2 ∷ 3 ∷ 1 ∷ []))) ∷
    case "insert" (inserting 0 "ab" [] 0 0 "c" 0 0) (refused 12) (answer (0 ∷ 1 ∷ 2 ∷ 0 ∷ codes "ca")) (refused 1) ∷
    case "delete" (deleting "ab\ncd" [] (position 0 1) (position 1 1) 1 0) (answer (0 ∷ 1 ∷ 2 ∷ 0 ∷ (codes "ad" ++ (0 ∷ 0 ∷ 0 ∷ 9 ∷ []))))
    (answer (0 ∷ 1 ∷ 2 ∷ 0 ∷ (codes "ad\ncd" ++ (9 ∷ [])))) (answer (0 ∷ 2 ∷ 2 ∷ 0 ∷ (codes "ad" ++ (0 ∷ 0 ∷ 0 ∷ 9 ∷ [])))) ∷
    case "delete" (deleting "\n" (0 ∷ 1 ∷ 1 ∷ 1 ∷ 1 ∷ 0 ∷ []) (position 0 0) (position 1 0) 1 0) (answer (0 ∷ 0 ∷ 0 ∷ 1 ∷ 0 ∷ 9 ∷ replicate 6 0))
    (answer (0 ∷ 0 ∷ 0 ∷ 2 ∷ 0 ∷ 9 ∷ 0 ∷ 0 ∷ 1 ∷ 0 ∷ 0 ∷ 0 ∷ [])) (answer (0 ∷ 0 ∷ 0 ∷ 0 ∷ 0 ∷ 9 ∷ replicate 6 0)) ∷
    case "delete" (deleting "ab\ncd" [] (position 1 1) (position 0 1) 1 0) (refused 11) (answer (0 ∷ 1 ∷ 2 ∷ 0 ∷ (codes "ad" ++ (0 ∷ 0 ∷ 0 ∷ 9 ∷ []))))
    (refused 4) ∷
    []

-- fold files: how many bytes or folds, and what the lent places hold then
abbrev pub shown : Reply → List ℕ → Reply
shown (answer v) left = answer (v ++ left)
shown (refused f) left = refused f

abbrev pub writing : String → List ℕ → Reply
writing t folds = shown (writes (codes t) folds (replicate 512 9)) (written_in (codes t) folds (replicate 512 9))

abbrev pub reading : String → List ℕ → Reply
reading t f = shown (reads (codes t) f (9 ∷ 9 ∷ 9 ∷ 9 ∷ [])) (loaded_in (codes t) f (9 ∷ 9 ∷ 9 ∷ 9 ∷ []))

-- the file of the closed fold from row 0 to row 1, its sum, and that with its first byte changed
abbrev pub one_fold : ℕ → ℕ → List ℕ
one_fold first sum = first ∷ 0 ∷ 1 ∷ 0 ∷ 0 ∷ 0 ∷ 0 ∷ 0 ∷ 1 ∷ 0 ∷ 0 ∷ 0 ∷ 1 ∷ (replicate 495 0 ++ (1 ∷ 0 ∷ sum ∷ 0 ∷ []))

unfoldable pub file_cases : List Case
file_cases =
    case "folds_write" (writing "a\nb" (0 ∷ 1 ∷ 1 ∷ [])) (answer (512 ∷ one_fold 0 4)) (answer (512 ∷ one_fold 0 3)) (refused 5) ∷
    case "folds_write" (writing "a" (0 ∷ 1 ∷ 1 ∷ [])) (refused 5) (answer (512 ∷ one_fold 0 4)) (refused 14) ∷
    case "folds_read" (reading "a\nb" (one_fold 0 4)) (answer (1 ∷ 0 ∷ 1 ∷ 1 ∷ 9 ∷ [])) (answer (1 ∷ 0 ∷ 1 ∷ 0 ∷ 9 ∷ [])) (refused 19) ∷
    case "folds_read" (reading "a\nb" (one_fold 1 4)) (refused 19) (refused 20) (answer (1 ∷ 0 ∷ 1 ∷ 1 ∷ 9 ∷ [])) ∷
    case "folds_read" (reading "a\nb" (one_fold 1 5)) (refused 20) (refused 19) (answer (1 ∷ 0 ∷ 1 ∷ 1 ∷ 9 ∷ [])) ∷
    case "folds_read" (reading "a" (one_fold 0 4)) (refused 5) (refused 20) (answer (1 ∷ 0 ∷ 1 ∷ 1 ∷ 9 ∷ [])) ∷
    case "folds_read" (reading "a" (replicate 511 0)) (refused 18) (refused 20) (answer (0 ∷ 9 ∷ 9 ∷ 9 ∷ 9 ∷ [])) ∷
    []
