-- Laws of what a call on a Vim list replies: it fills the places lent to it, and is compared by its number, its place and those. Assumes nothing.
use Rattle.lists.proofs.Kit.{◌≡◌, refl, sym, ◌∙◌, List, [], ◌∷◌, ℕ, ◌/◌, ◌%◌, length, get_or, replicate}
use Rattle.call_bytes.specs.Reply.{Replied, left}
use Rattle.call_signs.specs.declared.Placed.{Placed}
use Rattle.call_signs.specs.declared.Placed.TheVariants.{Value, Refused}
use Rattle.call_signs.specs.Entry.{placed_reply}
use Rattle.call_vim.specs.Vim.{vim_by, vim_writing, vim_left}
use Rattle.vim_words.specs.declared.VimMoved.{VimMoved}
use Rattle.vim_words.specs.declared.VimMoved.TheVariants.{To, Bad, Refused as VimMoved-as-Refused}
use Rattle.call_texts.specs.Carets.{caret_of, moved}
use Rattle.call_folds.specs.Terms.{is_big}
use Rattle.call_vim_words.specs.ByTerm.{vim_moved, words_vim}
use Rattle.replay_rows.specs.declared.Head.{Head}
use Rattle.replay_verdicts.specs.declared.Verdict.{Verdict}
use Rattle.replay_verdicts.specs.Answers.{compared, filler}
use Rattle.replay_vim.specs.Vim.{vim_list_of, vim_into, vim_word_of}

pub placed_sized : (m : Placed) → length (left (placed_reply m) (replicate 1 filler)) ≡ 1
placed_sized (Value n) = refl
placed_sized (Refused f) = refl

placed_single : (m : Placed) → left (placed_reply m) (filler ∷ []) ≡ get_or (left (placed_reply m) (filler ∷ [])) 0 0 ∷ []
placed_single (Value n) = refl
placed_single (Refused f) = refl

pub list_compared : (k : Head) (list stored : List ℕ) {r : ℕ} {out : List ℕ} {v : Verdict} →
    Replied (placed_reply (vim_by k.op k.a list)) (replicate 1 filler) r out →
    v ≡ compared (r % 4294967296 ∷ r / 4294967296 ∷ out) stored → v ≡ compared (vim_list_of k list) stored
unfolding vim_list_of
list_compared k list stored p e = e ∙ rw (p.numbered, p.out_left) refl

pub written_compared : (list written stored : List ℕ) {r : ℕ} {out : List ℕ} {v : Verdict} →
    Replied (placed_reply (vim_writing list written)) (replicate 1 filler) r out →
    v ≡ compared (r % 4294967296 ∷ r / 4294967296 ∷ get_or out 0 0 ∷ vim_left list written) stored → v ≡ compared (vim_into list written) stored
unfolding vim_into
written_compared list written stored p e = e ∙ rw (p.numbered, p.out_left) (sym (rw (placed_single (vim_writing list written)) refl))

pub word_sized : (m : VimMoved) → length (left (vim_moved m) (replicate 4 filler)) ≡ 4
unfolding vim_moved moved
word_sized (To k) = refl
word_sized (Bad p) = refl
word_sized (VimMoved-as-Refused f) = refl

pub word_compared : (k : Head) (text folds list stored : List ℕ) {r : ℕ} {out : List ℕ} {v : Verdict} →
    Replied (words_vim k.op (is_big k.f) k.e (caret_of k.a k.b k.c k.d) text folds list) (replicate 4 filler) r out →
    v ≡ compared (r % 4294967296 ∷ r / 4294967296 ∷ out) stored → v ≡ compared (vim_word_of k text folds list) stored
unfolding vim_word_of
word_compared k text folds list stored p e = e ∙ rw (p.numbered, p.out_left) refl
