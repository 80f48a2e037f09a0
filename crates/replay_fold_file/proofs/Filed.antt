-- Laws of what a call on fold files comes to. Assumes nothing.
use Rattle.lists.proofs.Kit.{◌≡◌, refl, sym, ◌∙◌, List, [], ◌∷◌, ℕ, length, get_or, replicate}
use Rattle.fold_writer.specs.declared.Written.{Written}
use Rattle.fold_writer.specs.declared.Written.TheVariants.{Bytes, Refused}
use Rattle.fold_writer.specs.Writing.{written, written_in}
use Rattle.fold_reader.specs.declared.Loaded.{Loaded}
use Rattle.fold_reader.specs.declared.Loaded.TheVariants.{Folds, Refused as Loaded-as-Refused}
use Rattle.fold_reader.specs.Reading.{loaded, loaded_in}
use Rattle.call_bytes.specs.Reply.{Replied, left}
use Rattle.call_fold_file.specs.FoldFiles.{told_written, writes, told_loaded, reads}
use Rattle.replay_verdicts.specs.declared.Verdict.{Verdict}
use Rattle.replay_verdicts.specs.Answers.{compared, filler}
use Rattle.replay_fold_file.specs.FoldFiles.{written_into, loaded_into}

-- a reply to one place leaves one number there
written_single : (w : Written) → left (told_written w) (filler ∷ []) ≡ get_or (left (told_written w) (filler ∷ [])) 0 0 ∷ []
unfolding told_written
written_single (Bytes n) = refl
written_single (Refused f) = refl

loaded_single : (l : Loaded) → left (told_loaded l) (filler ∷ []) ≡ get_or (left (told_loaded l) (filler ∷ [])) 0 0 ∷ []
unfolding told_loaded
loaded_single (Folds n) = refl
loaded_single (Loaded-as-Refused f) = refl

-- what is compared is what the definitions give
pub written_compared : (t folds file stored : List ℕ) {r : ℕ} {out : List ℕ} {v : Verdict} → Replied (writes t folds file) (replicate 1 filler) r out →
    v ≡ compared (r ∷ get_or out 0 0 ∷ written_in t folds file) stored → v ≡ compared (written_into t folds file) stored
unfolding written_into
written_compared t folds file stored p e = e ∙ rw (p.numbered, p.out_left) (sym (rw (written_single (written t folds (length file))) refl))

pub loaded_compared : (t f folds stored : List ℕ) {r : ℕ} {out : List ℕ} {v : Verdict} → Replied (reads t f folds) (replicate 1 filler) r out →
    v ≡ compared (r ∷ get_or out 0 0 ∷ loaded_in t f folds) stored → v ≡ compared (loaded_into t f folds) stored
unfolding loaded_into
loaded_compared t f folds stored p e = e ∙ rw (p.numbered, p.out_left) (sym (rw (loaded_single (loaded t f (length folds))) refl))
