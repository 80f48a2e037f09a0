-- Every list of the grammar is of scalar values, by the derivation: digits, ends, items, parts. Assumes nothing.
use Rattle.lists.proofs.Kit.{◌≡◌, refl, List, [], ◌∷◌, ◌++◌, Bool, true, false, ◌||◌, true≢false, ℕ, ◌≤◌, arith, le-leb, lt-ltb}
use Rattle.lists.specs.Lists.{any}
use Rattle.chars.specs.Scalar.{not_scalar}
use Rattle.list_parts.specs.Numbers.{all_digits}
use Rattle.vim_grammar.specs.declared.VimToken.{VimToken}
use Rattle.vim_grammar.specs.Grammar.{End, by_number, of_char, Item, every_letter, single, between, Part, exclude, include}
use Rattle.vim_grammar.specs.Grammar.{Parts, last, caret, more, Reads, empty, parts}
use Rattle.vim_reader.proofs.MachineLaws.{digit_high}
use Rattle.vim_laws.proofs.Numbers.{digits_first, digits_rest}

-- every list of the grammar is of scalar values
any_append : (a b : List ℕ) → any not_scalar a ≡ false → any not_scalar b ≡ false → any not_scalar (a ++ b) ≡ false
unfolding any
any_append [] b e f = f
any_append (x ∷ a) b e f = go (not_scalar x) e (any_append a b)
  where
    go : (s : Bool) → (s || any not_scalar a) ≡ false → (any not_scalar a ≡ false → any not_scalar b ≡ false → any not_scalar (a ++ b) ≡ false) →
        (s || any not_scalar (a ++ b)) ≡ false
    go true g ih = absurd (true≢false g)
    go false g ih = ih g f

scalar : (x : ℕ) → x ≤ 127 → not_scalar x ≡ false
scalar x h = rw (le-leb x 0x10ffff (omega arith), lt-ltb x 0xd800 (omega arith))

ascii_one : (x : ℕ) → x ≤ 127 → any not_scalar (x ∷ []) ≡ false
unfolding any
ascii_one x h = rw (scalar x h)

digits_scalar : (ds : List ℕ) → all_digits ds ≡ true → any not_scalar ds ≡ false
unfolding any
digits_scalar [] a = refl
digits_scalar (x ∷ ds) a = rw (scalar x (omega (arith, digit_high x (digits_first x ds a)))) (digits_scalar ds (digits_rest x ds a))

end_scalar : {p : List ℕ} {char : Bool} {c : ℕ} → End p char c → any not_scalar p ≡ false
end_scalar {p = p} (by_number n) = digits_scalar p n.all
end_scalar {c = c} (of_char h) = ascii_one c h.ascii

cons_scalar : (x : ℕ) (l : List ℕ) → x ≤ 127 → any not_scalar l ≡ false → any not_scalar (x ∷ l) ≡ false
cons_scalar x l h e = any_append (x ∷ []) l (ascii_one x h) e

item_scalar : {out : Bool} {p : List ℕ} {t : VimToken} → Item out p t → any not_scalar p ≡ false
item_scalar every_letter = ascii_one 64 (omega arith)
item_scalar (single e f) = end_scalar e
item_scalar (between {p = p} {q = q} d e k) = any_append p (45 ∷ q) (end_scalar d) (cons_scalar 45 q (omega arith) (end_scalar e))

part_scalar : {p : List ℕ} {t : VimToken} → Part p t → any not_scalar p ≡ false
part_scalar (exclude {p = p} i) = cons_scalar 94 p (omega arith) (item_scalar i)
part_scalar (include i f) = item_scalar i

parts_scalar : {l : List ℕ} {ts : List VimToken} → Parts l ts → any not_scalar l ≡ false
parts_scalar (last d) = part_scalar d
parts_scalar caret = ascii_one 94 (omega arith)
parts_scalar (more {p = p} {l = l} d r) = any_append p (44 ∷ l) (part_scalar d) (cons_scalar 44 l (omega arith) (parts_scalar r))

pub reads_scalar : {l : List ℕ} {ts : List VimToken} → Reads l ts → any not_scalar l ≡ false
unfolding any
reads_scalar empty = refl
reads_scalar (parts d) = parts_scalar d
