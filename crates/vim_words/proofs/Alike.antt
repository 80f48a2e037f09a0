-- `WordsAlike`: the two readers hold the same characters, and no check differs. Assumes nothing.
use Rattle.lists.proofs.Kit.{◌≡◌, refl, ap, sym, ◌∙◌, List, [], ◌∷◌, Bool, true, cond, ℕ, ℕ_discrete, eqb, eq-eqb, ne_eqb}
use Rattle.text_check.specs.Accept.{text_refusal}
use Rattle.text.specs.Text.{row_count}
use Rattle.folds.specs.Folds.{fold_refusal}
use Rattle.list_tokens.specs.Tokens.{in_list}
use Rattle.keywords.specs.Table.{parse_of}
use Rattle.positions.specs.Positions.{refusal_folds}
use Rattle.positions.proofs.Lowest.{lowest_then}
use Rattle.vim_grammar.specs.declared.VimToken.{VimToken}
use Rattle.vim_grammar.specs.Tokens.{in_vim}
use Rattle.vim_grammar.specs.Grammar.{Reads}
use Rattle.vim_reader.specs.Table.{read_of}
use Rattle.vim_laws.specs.Common.{all_common}
use Rattle.vim_laws.proofs.Sound.{reads_sound}
use Rattle.vim_laws.proofs.Lists.{one_reading}
use Rattle.vim_laws.proofs.Again.{taken}
use Rattle.vim_laws.proofs.Common.{both_alike}
use Rattle.motions.specs.declared.Caret.{Caret}
use Rattle.motions.specs.Carets.{here, caret_refusal, moving}
use Rattle.motions.specs.WordMoves.{word_refusal, word_caret, move_word}
use Rattle.vim_words.specs.declared.VimMoved.TheVariants.{To, Refused}
use Rattle.vim_words.specs.ByVim.{in_vim_list, word_by_vim}
use Rattle.vim_words.specs.Alike.{of_first, WordsAlike}
use Rattle.vim_words.proofs.Above.{read_tokens}
use Rattle.vim_words.proofs.Refusing.{answer_first, answer_given}

module _ (list : List ℕ) (ts : List VimToken) (z : (read_of list).refusal ≡ 0) (r : Reads list ts) (common : all_common ts ≡ true) where
  same_word : (x : ℕ) → in_vim_list list x ≡ in_list list x
  same_word x =
      let by_taken = taken list z in
      ap (λ (us : List VimToken). in_vim us x) (read_tokens list z ∙ one_reading list by_taken.ts ts (reads_sound list by_taken.ts by_taken.reads) r)
      ∙ sym (both_alike list ts r common x)

-- a list that is not refused leaves the refusal of text, caret and folds
same_refusal : (t folds list : List ℕ) (k : Caret) → (parse_of list).refusal ≡ 0 → word_refusal t folds list k ≡ refusal_folds t folds (here k)
same_refusal t folds list k z = sym (lowest_then (text_refusal t ∷ caret_refusal t k ∷ fold_refusal folds (row_count t) ∷ []) (parse_of list).refusal)
    ∙ go (ℕ_discrete (refusal_folds t folds (here k)) 0)
  where
    go : Dec (refusal_folds t folds (here k) ≡ 0) → cond (eqb (refusal_folds t folds (here k)) 0) (parse_of list).refusal (refusal_folds t folds (here k)) ≡
        refusal_folds t folds (here k)
    go (yes e) = rw (eq-eqb (refusal_folds t folds (here k)) 0 e) (z ∙ sym e)
    go (no n) = rw (ne_eqb (refusal_folds t folds (here k)) 0 n)

-- the first entry's answer, by a refusal
first_given : (f g : ℕ) (k : Caret) → f ≡ g → g ≡ 0 → of_first (moving f k) ≡ To k
unfolding of_first moving
first_given f g k e z = rw (e, eq-eqb g 0 z)

first_refused : (f g : ℕ) (k : Caret) → f ≡ g → (g ≡ 0 → ⊥) → of_first (moving f k) ≡ Refused g
unfolding of_first moving
first_refused f g k e n = rw (e, ne_eqb g 0 n)

pub words_alike : WordsAlike
words_alike t folds list big m stop count k ts first z r common = go (ℕ_discrete (refusal_folds t folds (here k)) 0)
  where
    go : Dec (refusal_folds t folds (here k) ≡ 0) → word_by_vim t folds list big m stop count k ≡ of_first (move_word t folds list big m stop count k)
    go (yes e) = sym (answer_given t folds list big m stop count k _ refl e (read_of list) refl (word_caret t folds (in_list list) big m stop count k) z
        (ap (λ (word : ℕ → Bool). word_caret t folds word big m stop count k) (λ i x. sym (same_word list ts z r common x) i)))
        ∙ sym (first_given _ _ _ (same_refusal t folds list k first) e)
    go (no n) = sym (answer_first t folds list big m stop count k _ refl n) ∙ sym (first_refused _ _ _ (same_refusal t folds list k first) n)
