-- The refusals of a word motion by a Vim list, check by check, and what an accepted call has. Assumes nothing.
use Rattle.lists.proofs.Kit.{◌≡◌, ap, sym, ◌∙◌, List, Bool, ℕ, eq-eqb, ne_eqb}
use Rattle.text.specs.Text.{row_count}
use Rattle.folds.specs.Folds.{fold_refusal}
use Rattle.positions.specs.declared.Entry.{Entry}
use Rattle.positions.specs.Positions.{refusal_folds, or_folds, Accepted}
use Rattle.positions.proofs.Checks.{entered}
use Rattle.positions.proofs.Entered.{folds_none, folds_number}
use Rattle.vim_reader.specs.declared.VimRead.{VimRead}
use Rattle.vim_reader.specs.Table.{read_of}
use Rattle.vim_reader.proofs.Answers.{read_few}
use Rattle.word_rounds.specs.declared.Motion.{Motion}
use Rattle.motions.specs.declared.Caret.{Caret}
use Rattle.motions.specs.Carets.{here, entry_of}
use Rattle.motions.specs.WordMoves.{word_caret}
use Rattle.vim_words.specs.declared.VimMoved.TheVariants.{To, Bad, Refused}
use Rattle.vim_words.specs.Flags.{LowTable}
use Rattle.vim_words.specs.ByVim.{in_vim_list, by_read, word_by_vim}
use Rattle.vim_words.proofs.Above.{read_low}

-- text, caret and folds, as the checks of a call find them
pub entered_number : (t own folds : List ℕ) (k : Caret) (e : Entry) → e ≡ entry_of t k → own ≡ folds → {f : ℕ} → f ≡ or_folds e own →
    f ≡ refusal_folds t folds (here k)
entered_number t own folds k e is same q = q ∙ folds_number t (here k) e is own ∙ ap (λ (x : List ℕ). refusal_folds t x (here k)) same

pub entered_none : (t own : List ℕ) (k : Caret) (e : Entry) → e ≡ entry_of t k → or_folds e own ≡ 0 → Accepted t (here k) e × (fold_refusal own (row_count t) ≡ 0)
entered_none t own k e is z =
    let none = folds_none e own z in
    let by_entered = entered t (here k) e is none.0 in
    (by_entered, rw (sym by_entered.all_rows) none.1)

-- the list
pub read_ready : (list : List ℕ) (r : VimRead) → r ≡ read_of list → r.refusal ≡ 0 → LowTable r.spec
read_ready list r w z = rw w (record { short = read_few list; low = read_low list (sym (ap (λ (x : VimRead). x.refusal) w) ∙ z) })

-- a caret, or what the list is refused with
module _ (r : VimRead) (k : Caret) where
  read_bad : r.refusal ≡ 17 → Bad r.place ≡ by_read r k
  unfolding by_read
  read_bad e = rw e

  read_refused : (r.refusal ≡ 17 → ⊥) → (r.refusal ≡ 0 → ⊥) → Refused r.refusal ≡ by_read r k
  unfolding by_read
  read_refused n o = rw (ne_eqb r.refusal 0 o, ne_eqb r.refusal 17 n)

  read_given : r.refusal ≡ 0 → To k ≡ by_read r k
  unfolding by_read
  read_given e = rw e

-- the answer, by the refusal of text, caret and folds, and then by what the list was read into
module _ (t folds list : List ℕ) (big : Bool) (m : Motion) (stop : Bool) (count : ℕ) (k : Caret) (f : ℕ) (q : f ≡ refusal_folds t folds (here k)) where
  abbrev to : Caret
  to = word_caret t folds (in_vim_list list) big m stop count k

  pub answer_first : (f ≡ 0 → ⊥) → Refused f ≡ word_by_vim t folds list big m stop count k
  unfolding word_by_vim
  answer_first n = rw (← q, ne_eqb f 0 n)

  module _ (z : f ≡ 0) (r : VimRead) (w : r ≡ read_of list) where
    then_read : by_read r to ≡ word_by_vim t folds list big m stop count k
    unfolding word_by_vim
    then_read = rw (← q, eq-eqb f 0 z, w)

    pub answer_bad : r.refusal ≡ 17 → Bad r.place ≡ word_by_vim t folds list big m stop count k
    answer_bad e = read_bad r to e ∙ then_read

    pub answer_refused : (r.refusal ≡ 17 → ⊥) → (r.refusal ≡ 0 → ⊥) → Refused r.refusal ≡ word_by_vim t folds list big m stop count k
    answer_refused n o = read_refused r to n o ∙ then_read

    pub answer_given : (a : Caret) → r.refusal ≡ 0 → a ≡ to → To a ≡ word_by_vim t folds list big m stop count k
    answer_given a e same = ap To same ∙ read_given r to e ∙ then_read
