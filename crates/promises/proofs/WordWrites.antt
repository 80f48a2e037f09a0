-- What a word motion writes stands in the text, and the last position written is that of its answer, by either kind of list. Assumes nothing.
use Rattle.lists.proofs.Kit.{◌≡◌, refl, List, [], ◌∷◌, Bool, true, false, cond, ℕ, arith, eqb, eqb-true, Option}
use Rattle.motions.specs.declared.Move.{Move}
use Rattle.text.specs.Text.{position}
use Rattle.text.specs.declared.Position.{Position}
use Rattle.list_tokens.specs.Tokens.{in_list}
use Rattle.positions.specs.Positions.{lowest, refusal_folds}
use Rattle.word_kinds.specs.Places.{kind_of}
use Rattle.word_rounds.specs.declared.Motion.{Motion}
use Rattle.word_rounds.specs.declared.Motion.TheVariants.{Fwd, Back, End, EndBack}
use Rattle.motions.specs.declared.Caret.{Caret}
use Rattle.motions.specs.declared.Moved.{Moved}
use Rattle.motions.specs.declared.Moved.TheVariants.{To}
use Rattle.motions.specs.Carets.{here, caret_refusal}
use Rattle.motions.specs.WordMoves.{word_refusal, word_caret, move_word}
use Rattle.motions.proofs.Landing.{moving_to, caret_in_lem}
use Rattle.vim_reader.specs.declared.VimRead.{VimRead}
use Rattle.vim_reader.specs.Table.{read_of}
use Rattle.vim_words.specs.declared.VimMoved.TheVariants.{To as VimMoved-as-To, Bad, Refused as VimMoved-as-Refused}
use Rattle.vim_words.specs.ByVim.{in_vim_list, by_read, word_by_vim}
use Rattle.call_texts.specs.Asks.{move_as}
use Rattle.call_folds.specs.Terms.{word_of, word}
use Rattle.call_classes.specs.ByTerm.{term_of}
use Rattle.call_vim_words.specs.ByTerm.{by_vim_term}
use Rattle.promises.specs.Positions.{placeless, word_vim}
use Rattle.promises.specs.Trails.{word_writes}
use Rattle.promises.specs.Writes.{term_writes}
use Rattle.promises.proofs.Landings.{either}
use Rattle.promises.proofs.Trails.{word_last, word_in}
use Rattle.promises.proofs.Writing.{Fits, Keeps, refused, both}

-- what holds of the caret that a word motion by a Vim list leads to holds of the one that it answers with
read_to : (P : Caret → Type 0) (f : ℕ) (r : VimRead) (m : Caret) → (f ≡ 0 → P m) → (c : Caret) →
    placeless (cond (eqb f 0) (by_read r m) (VimMoved-as-Refused f)) ≡ To c → P c
unfolding by_read
read_to P f r m h c e = go (eqb f 0) (eqb r.refusal 0) (eqb r.refusal 17) refl e
  where
    go : (a b d : Bool) → eqb f 0 ≡ a →
        placeless (cond a (cond b (VimMoved-as-To m) (cond d (Bad r.place) (VimMoved-as-Refused r.refusal))) (VimMoved-as-Refused f)) ≡ To c → P c
    go true true d p q =
        let same : m ≡ c = cc in
        rw same at (h (eqb-true f 0 p))
    go true false true p q = let never : ◌≡◌ {A = ℕ} 0 1 = cc in absurd (omega arith)
    go true false false p q = let never : ◌≡◌ {A = ℕ} 0 1 = cc in absurd (omega arith)
    go false b d p q = let never : ◌≡◌ {A = ℕ} 0 1 = cc in absurd (omega arith)

module _ (t : List ℕ) (k : Caret) (n : ℕ) where
  -- what a motion writes by the characters of a list
  module _ (word : ℕ → Bool) (big : Bool) (folds : List ℕ) (m : Motion) (stop : Bool) where
    abbrev wrote : List Position
    wrote = word_writes t folds (kind_of word big) big m stop n (position k.row k.col)

    word_fits : (f : ℕ) (rest : List ℕ) → lowest (f ∷ caret_refusal t k ∷ rest) ≡ 0 → Fits t wrote (word_caret t folds word big m stop n k)
    word_fits f rest z =
        let by_caret_in = caret_in_lem t k f rest z in (
          word_in t folds (kind_of word big) big m stop n (position k.row k.col) (record { in_row = by_caret_in.in_row; in_col = by_caret_in.in_col }),
          word_last t folds (kind_of word big) big m stop n (position k.row k.col),
        )

  module _ (list : List ℕ) (big : Bool) where
    by_words : (folds : List ℕ) (m : Motion) (stop : Bool) → Keeps t (move_word t folds list big m stop n k) (λ c. wrote (in_list list) big folds m stop)
    by_words folds m stop = record {
      fits = moving_to (Fits t (wrote (in_list list) big folds m stop)) (word_refusal t folds list k) (word_caret t folds (in_list list) big m stop n k)
          (word_fits (in_list list) big folds m stop _ _);
    }

    pub term_keeps : (op : ℕ) (folds : List ℕ) → Keeps t (word op big n k t folds list) (λ c. term_writes op big n k t folds (kind_of (in_list list) big))
    unfolding word word_of move_as term_writes
    term_keeps op folds =
        let answer : Option Move → Moved = λ a. move_as a n k t folds list 0 in
        both t answer (eqb op 0) (by_words folds Fwd false) (both t answer (eqb op 1) (by_words folds Back false)
        (both t answer (eqb op 2) (by_words folds End false) (both t answer (eqb op 3) (by_words folds End true) (either
        (λ (a : Option Move). Keeps t (answer a) (λ c. wrote (in_list list) big [] EndBack false)) (eqb op 4) _ _ (by_words [] EndBack false) (refused t 100 _)))))

    -- by a Vim list: a caret is answered only where text, caret and folds are accepted, and the list is read
    by_vim_words : (folds : List ℕ) (m : Motion) (stop : Bool) →
        Keeps t (placeless (word_by_vim t folds list big m stop n k)) (λ c. wrote (in_vim_list list) big folds m stop)
    unfolding word_by_vim
    by_vim_words folds m stop = record {
      fits = read_to (Fits t (wrote (in_vim_list list) big folds m stop)) (refusal_folds t folds (here k)) (read_of list)
          (word_caret t folds (in_vim_list list) big m stop n k) (word_fits (in_vim_list list) big folds m stop _ _);
    }

    pub vim_keeps : (op : ℕ) (folds : List ℕ) → Keeps t (word_vim op big n k t folds list) (λ c. term_writes op big n k t folds (kind_of (in_vim_list list) big))
    unfolding term_of by_vim_term term_writes
    vim_keeps op folds =
        let answer : Option (Motion × Bool) → Moved = λ a. placeless (by_vim_term a big n k t folds list) in
        both t answer (eqb op 0) (by_vim_words folds Fwd false) (both t answer (eqb op 1) (by_vim_words folds Back false)
        (both t answer (eqb op 2) (by_vim_words folds End false) (both t answer (eqb op 3) (by_vim_words folds End true) (either
        (λ (a : Option (Motion × Bool)). Keeps t (answer a) (λ c. wrote (in_vim_list list) big [] EndBack false)) (eqb op 4) _ _ (by_vim_words [] EndBack false) (refused t 100 _)))))
