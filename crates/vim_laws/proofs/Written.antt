-- What is written of a list that was read is a list of the grammar with the same tokens, and never longer: by the derivation. Assumes nothing.
use Rattle.lists.proofs.Kit.{◌≡◌, refl, ap, sym, subst, ◌∙◌, List, [], ◌∷◌, Bool, true, false, true≢false, ℕ, ◌≤◌, ◌<◌, arith, length, get_or, length-append}
use Rattle.list_parts.specs.Numbers.{all_digits}
use Rattle.print.specs.Print.{decimal}
use Rattle.vim_grammar.specs.declared.VimToken.{VimToken}
use Rattle.vim_grammar.specs.Tokens.{one}
use Rattle.vim_grammar.specs.Grammar.{Number, End, by_number, of_char, Item, every_letter, single, between, Part, exclude, include}
use Rattle.vim_grammar.specs.Grammar.{Parts, last, caret, more, Reads, empty, parts}
use Rattle.vim_reader.proofs.MachineLaws.{digit_high}
use Rattle.vim_writer.specs.Written.{end_text, item_text, token_text, behind, written}
use Rattle.vim_writer.proofs.TokenLaws.{token_out, token_in}
use Rattle.vim_writer.proofs.WrittenLaws.{written_one}
use Rattle.vim_laws.proofs.Numbers.{digits_first}
use Rattle.vim_laws.proofs.Spelt.{first_stays, end_some}
use Rattle.vim_laws.proofs.WrittenNumbers.{Short, number_written}

-- an end
end_written : {p : List ℕ} {char : Bool} {c : ℕ} → End p char c → Short (λ q. End q char c) p (end_text char c)
unfolding end_text
end_written (by_number n) = let by_number_written = number_written n in (by_number by_number_written.0, by_number_written.1)
end_written (of_char h) = (of_char h, omega arith)

-- a number is no `@` and does not begin with `^`
number_at : {ds : List ℕ} {v : ℕ} → Number ds v → ds ≡ 64 ∷ [] → ⊥
unfolding all_digits
number_at n e = let never : ◌≡◌ {A = Bool} true false = sym n.all ∙ ap all_digits e in true≢false never

number_caret : (ds : List ℕ) → 0 < length ds → all_digits ds ≡ true → get_or ds 0 0 ≡ 94 → ⊥
number_caret [] s a e = omega arith
number_caret (x ∷ ds) s a e = omega (arith, digit_high x (digits_first x ds a))

end_at : {p : List ℕ} {char : Bool} {c : ℕ} → End p char c → (p ≡ 64 ∷ [] → ⊥) → end_text char c ≡ 64 ∷ [] → ⊥
unfolding end_text
end_at (by_number n) f = number_at (number_written n).0
end_at (of_char h) f = f

end_caret : {p : List ℕ} {char : Bool} {c : ℕ} → End p char c → (get_or p 0 0 ≡ 94 → ⊥) → get_or (end_text char c) 0 0 ≡ 94 → ⊥
unfolding end_text
end_caret {c = c} (by_number n) f = let by_number_written = (number_written n).0 in number_caret (decimal c) by_number_written.some by_number_written.all
end_caret (of_char h) f = f

-- an item
item_written : {out : Bool} {p : List ℕ} {t : VimToken} → Item out p t → Short (λ q. Item out q t) p (item_text t)
unfolding item_text
item_written every_letter = (every_letter, omega arith)
item_written (single e f) = let by_end_written = end_written e in (single by_end_written.0 (end_at e f), by_end_written.1)
item_written (between {p = p} {q = q} {lochar = a} {hichar = b} {lo = lo} {hi = hi} d e k) =
    let by_end_written = end_written d in
    let by_end_written_e = end_written e in (
      between by_end_written.0 by_end_written_e.0 k,
      omega (arith, length-append p (45 ∷ q), length-append (end_text a lo) (45 ∷ end_text b hi), by_end_written.1, by_end_written_e.1),
    )

-- one that includes
item_caret : {p : List ℕ} {t : VimToken} → Item false p t → (get_or p 0 0 ≡ 94 → ⊥) → get_or (item_text t) 0 0 ≡ 94 → ⊥
unfolding item_text
item_caret every_letter f = f
item_caret (single e g) f = end_caret e f
item_caret (between {p = p} {q = q} {lochar = a} {hichar = b} {lo = lo} {hi = hi} d e k) f = λ z.
    end_caret d (λ y. f (first_stays p (45 ∷ q) (end_some d) ∙ y)) (sym (first_stays (end_text a lo) (45 ∷ end_text b hi) (end_some (end_written d).0)) ∙ z)

-- a token keeps whether it excludes
item_out : {out : Bool} {p : List ℕ} {t : VimToken} → Item out p t → t.out ≡ out
item_out every_letter = refl
item_out (single e f) = refl
item_out (between d e k) = refl

part_written : {p : List ℕ} {t : VimToken} → Part p t → Short (λ q. Part q t) p (token_text t)
part_written (exclude {p = p} {t = t} i) =
    let by_item_written = item_written i in
    subst (λ (q : List ℕ). Part q t × (length q ≤ length (94 ∷ p))) (sym (token_out t (item_out i)))
    (exclude by_item_written.0, omega (arith, by_item_written.1))
part_written (include {p = p} {t = t} i f) =
    let by_item_written = item_written i in
    subst (λ (q : List ℕ). Part q t × (length q ≤ length p)) (sym (token_in t (item_out i))) (include by_item_written.0 (item_caret i f), by_item_written.1)

-- parts
behind_parts : {l : List ℕ} {ts : List VimToken} → Parts l ts → behind ts ≡ 44 ∷ written ts
unfolding behind written
behind_parts (last d) = refl
behind_parts caret = refl
behind_parts (more d r) = refl

caret_written : Short (λ q. Parts q (one false true 94 ∷ [])) (94 ∷ []) (written (one false true 94 ∷ []))
unfolding written behind token_text item_text end_text
caret_written = (caret, omega arith)

parts_written : {l : List ℕ} {ts : List VimToken} → Parts l ts → Short (λ q. Parts q ts) l (written ts)
unfolding written
parts_written (last {t = t} d) = let by_part_written = part_written d in rw (written_one t) (last by_part_written.0, by_part_written.1)
parts_written caret = caret_written
parts_written (more {p = p} {l = l} {t = t} {ts = ts} d r) =
    let by_part_written = part_written d in
    let by_parts_written = parts_written r in
    rw (behind_parts r) (
      more by_part_written.0 by_parts_written.0,
      omega (arith, length-append p (44 ∷ l), length-append (token_text t) (44 ∷ written ts), by_part_written.1, by_parts_written.1),
    )

pub reads_written : {l : List ℕ} {ts : List VimToken} → Reads l ts → Short (λ q. Reads q ts) l (written ts)
unfolding written
reads_written empty = (empty, omega arith)
reads_written (parts d) = let by_parts_written = parts_written d in (parts by_parts_written.0, by_parts_written.1)
