-- A list of the grammar has no end above 255; so above it only letters are spoken of, and flags up to 255 with the letters above hold what the tokens
-- hold. Assumes nothing.
use Rattle.lists.proofs.Kit.{◌≡◌, refl, ap, sym, ◌∙◌, List, [], ◌∷◌, Bool, true, false, cond, not, ◌&&◌, ℕ, ◌≤◌, ◌<◌, dec_lt, arith, eqb, leb, lt-ltb, le-ltb}
use Rattle.lists.proofs.Kit.{le-leb, lt-leb, leb-true, eqb-true}
use Rattle.letters.specs.Letters.{is_letter}
use Rattle.lists.proofs.Both.{both}
use Rattle.vim_grammar.specs.declared.VimToken.{VimToken}
use Rattle.vim_grammar.specs.Tokens.{speaks, decided, in_vim}
use Rattle.vim_grammar.specs.Grammar.{End, by_number, of_char, Item, every_letter, single, between, Part, exclude, include}
use Rattle.vim_grammar.specs.Grammar.{Parts, last, caret, more, Reads, empty, parts}
use Rattle.vim_reader.specs.declared.VimRead.{VimRead}
use Rattle.vim_reader.specs.Table.{kept, read_of}
use Rattle.vim_reader.proofs.TableLaws.{table_kept}
use Rattle.vim_laws.proofs.Sound.{reads_sound}
use Rattle.vim_laws.proofs.Again.{taken}
use Rattle.word_kinds.specs.Places.{kind_of}
use Rattle.word_kinds.specs.Lent.{flagged}
use Rattle.vim_words.specs.Flags.{low_ends, last_letters, Flags}

-- the ends of the grammar
end_low : {p : List ℕ} {char : Bool} {c : ℕ} → End p char c → c ≤ 255
end_low (by_number n) = n.most
end_low (of_char h) = omega (arith, h.ascii)

item_low : {out : Bool} {p : List ℕ} {t : VimToken} → Item out p t → leb t.hi 255 ≡ true
item_low every_letter = refl
item_low (single e n) = le-leb _ 255 (end_low e)
item_low (between e f h) = le-leb _ 255 (end_low f)

part_low : {p : List ℕ} {t : VimToken} → Part p t → leb t.hi 255 ≡ true
part_low (exclude i) = item_low i
part_low (include i n) = item_low i

parts_low : {l : List ℕ} {ts : List VimToken} → Parts l ts → low_ends ts ≡ true
unfolding low_ends
parts_low (last p) = rw (part_low p)
parts_low caret = refl
parts_low (more p r) = rw (part_low p) (parts_low r)

pub reads_low : {l : List ℕ} {ts : List VimToken} → Reads l ts → low_ends ts ≡ true
unfolding low_ends
reads_low empty = refl
reads_low (parts p) = parts_low p

-- of a list that is read
pub read_tokens : (l : List ℕ) (z : (read_of l).refusal ≡ 0) → kept (read_of l).spec ≡ (taken l z).ts
read_tokens l z = let by_taken = taken l z in ap (λ (r : VimRead). kept r.spec) by_taken.is ∙ table_kept by_taken.ts

pub read_low : (l : List ℕ) → (read_of l).refusal ≡ 0 → low_ends (kept (read_of l).spec) ≡ true
read_low l z = let by_taken = taken l z in ap low_ends (read_tokens l z) ∙ reads_low (reads_sound l by_taken.ts by_taken.reads)

and-true : (a : Bool) → a ≡ (a && true)
and-true true = refl
and-true false = refl

and-false : (a b : Bool) → (a && false) ≡ (b && false)
and-false true true = refl
and-false true false = refl
and-false false true = refl
and-false false false = refl

-- above 255 a token speaks of letters, or of nothing; so what it says is what it says of them
says_above : (t : VimToken) (x : ℕ) → leb t.hi 255 ≡ true → 256 ≤ x → (b : Bool) →
    cond (speaks t x) (not t.out) (b && is_letter x) ≡ (cond (eqb t.kind 1) (not t.out) b && is_letter x)
says_above t x low h b = go (eqb t.kind 0) refl (eqb t.kind 1) refl (is_letter x) (leb t.lo x)
  where
    far : leb x t.hi ≡ false
    far = lt-leb x t.hi (omega (arith, leb-true t.hi 255 low))

    go : (none : Bool) → eqb t.kind 0 ≡ none → (every : Bool) → eqb t.kind 1 ≡ every → (letter from : Bool) →
        cond (cond none false (cond every letter (from && leb x t.hi))) (not t.out) (b && letter) ≡ (cond every (not t.out) b && letter)
    go true p true q letter from = absurd (omega (arith, eqb-true t.kind 0 p, eqb-true t.kind 1 q))
    go true p false q letter from = refl
    go false p true q true from = and-true (not t.out)
    go false p true q false from = and-false b (not t.out)
    go false p false q letter true = rw far
    go false p false q letter false = refl

-- the tokens hold the letters there, if the last token of letters does, and nothing else
pub above : (ts : List VimToken) (x : ℕ) → low_ends ts ≡ true → 256 ≤ x → (b : Bool) → decided (b && is_letter x) ts x ≡ (last_letters b ts && is_letter x)
unfolding decided low_ends last_letters
above [] x low h b = refl
above (t ∷ ts) x low h b =
    let by_both = both (leb t.hi 255) (low_ends ts) low in
    ap (λ (d : Bool). decided d ts x) (says_above t x by_both.0 h b) ∙ above ts x by_both.1 h (cond (eqb t.kind 1) (not t.out) b)

-- the flags of a list's tokens, and the letters above
pub flags_hold : (ts : List VimToken) (flags : List ℕ) → low_ends ts ≡ true → Flags ts flags → (x : ℕ) → flagged flags (last_letters false ts) x ≡ in_vim ts x
unfolding flagged
flags_hold ts flags low f x = go (dec_lt x 256)
  where
    go : Dec (x < 256) → flagged flags (last_letters false ts) x ≡ in_vim ts x
    go (yes h) = rw (lt-ltb x 256 h) (f x h)
    go (no n) = rw (le-ltb x 256 (omega arith)) (sym (above ts x low (omega arith) false))

-- as kinds, with a bool that is what the list says of the letters
pub kinds_flagged : (ts : List VimToken) (flags : List ℕ) (letters big : Bool) → low_ends ts ≡ true → Flags ts flags → letters ≡ last_letters false ts →
    kind_of (flagged flags letters) big ≡ kind_of (in_vim ts) big
kinds_flagged ts flags letters big low f e = rw e (ap (λ (word : ℕ → Bool). kind_of word big) (λ i x. flags_hold ts flags low f x i))
