-- What the grammar reads, the machine reads so: by the derivation, end by end. Assumes nothing.
use Rattle.lists.proofs.Kit.{◌≡◌, refl, ap, subst, ◌∙◌, List, [], ◌∷◌, ◌++◌, append-nil, append_assoc, Bool, true, false, ℕ, ◌-◌, arith, get_or, ne_eqb, le-leb}
use Rattle.lists.specs.Codes.{is_digit}
use Rattle.vim_grammar.specs.declared.VimToken.{VimToken}
use Rattle.vim_grammar.specs.Grammar.{Char, End, by_number, of_char, Item, every_letter, single, between, Part as PartOf, exclude, include}
use Rattle.vim_grammar.specs.Grammar.{Parts, last, caret, more, Reads, empty, parts}
use Rattle.vim_reader.specs.declared.State.{State}
use Rattle.vim_reader.specs.declared.State.TheVariants.{Part, Caret, Number, Sign, Dash, Second, Done}
use Rattle.vim_reader.specs.Machine.{start_of, step_of, phase_of, token_of, sign_token, ends}
use Rattle.vim_reader.specs.Reading.{read, onto, later, reading, vim_reading}
use Rattle.vim_reader.proofs.MachineLaws as m
use Rattle.vim_laws.proofs.Commas.{closed, closed_ends, closed_comma}
use Rattle.vim_laws.proofs.Digits.{on, number_whole, second_whole}

-- behind a part, whatever state it ends in
abbrev pub After : VimToken → List ℕ → List VimToken → Type 0
After t s ts = (σ : State) → closed σ ≡ true → token_of σ ≡ t → reading σ s ≡ read ts

-- a first end, and a minus behind it
dashed : {p : List ℕ} {char : Bool} {lo : ℕ} (out : Bool) (σ : State) (s : List ℕ) (ts : List VimToken) → End p char lo →
    ((x : ℕ) → is_digit x ≡ true → step_of σ x ≡ Number out (x - 48)) → ((x : ℕ) → p ≡ x ∷ [] → Char x → step_of σ x ≡ Sign out x) →
    reading (Dash out char lo) s ≡ read ts → reading σ (p ++ (45 ∷ s)) ≡ read ts
unfolding step_of phase_of
dashed {p = p} {lo = lo} out σ s ts (by_number n) f g r = number_whole p out lo (45 ∷ s) ts σ f n
    (on (Number out lo) (Dash out false lo) 45 s ts (m.number_behind out lo 45 refl ∙ m.behind_dash out false lo 45 (λ z. omega arith) refl) refl r)
dashed {lo = lo} out σ s ts (of_char h) f g r = on σ (Sign out lo) lo (45 ∷ s) ts (g lo refl h) refl
    (on (Sign out lo) (Dash out true lo) 45 s ts (m.behind_dash out true lo 45 (λ z. omega arith) refl) refl r)

-- what begins with one code point alone begins with it
starts : (p q : List ℕ) (x : ℕ) → p ≡ x ∷ [] → get_or (p ++ q) 0 0 ≡ x
starts p q x e = rw e

-- an item, from a state where its first code point begins one
item : {out : Bool} {p : List ℕ} {t : VimToken} (σ : State) (s : List ℕ) (ts : List VimToken) → Item out p t →
    ((x : ℕ) → is_digit x ≡ true → step_of σ x ≡ Number out (x - 48)) → ((x : ℕ) → get_or p 0 0 ≡ x → Char x → step_of σ x ≡ Sign out x) →
    After t s ts → reading σ (p ++ s) ≡ read ts
unfolding token_of sign_token closed phase_of step_of
item {out = out} σ s ts every_letter f g after =
    on σ (Sign out 64) 64 s ts (g 64 refl (record { ascii = omega arith; no_digit = refl })) refl (after (Sign out 64) refl refl)
item {out = out} {p = p} σ s ts (single {c = c} (by_number n) b) f g after = number_whole p out c s ts σ f n (after (Number out c) refl refl)
item {out = out} σ s ts (single {c = c} (of_char h) b) f g after = on σ (Sign out c) c s ts (g c refl h) refl
    (after (Sign out c) refl (rw (ne_eqb c 64 (λ z. b (ap (λ (x : ℕ). x ∷ []) z)))))
item {out = out} σ s ts (between {p = p} {q = q} {lochar = char} {lo = lo} {hi = hi} d (by_number n) k) f g after = rw (append_assoc p (45 ∷ q) s)
    (dashed out σ (q ++ s) ts d f (λ x e h. g x (starts p (45 ∷ q) x e) h)
    (second_whole q out char lo hi s ts n k (after (Second out char lo hi) (le-leb lo hi k) refl)))
item {out = out} σ s ts (between {p = p} {lochar = char} {lo = lo} {hi = hi} d (of_char h) k) f g after = rw (append_assoc p (45 ∷ hi ∷ []) s)
    (dashed out σ (hi ∷ s) ts d f (λ x e c. g x (starts p (45 ∷ hi ∷ []) x e) c)
    (on (Dash out char lo) (Done out char lo hi) hi s ts (m.dash_done out char lo hi h.no_digit k h.ascii) refl (after (Done out char lo hi) refl refl)))

digit_no_caret : (x : ℕ) → is_digit x ≡ true → x ≡ 94 → ⊥
digit_no_caret x d e = omega (arith, m.digit_high x d)

-- a part
pub part : {p : List ℕ} {t : VimToken} (s : List ℕ) (ts : List VimToken) → PartOf p t → After t s ts → reading Part (p ++ s) ≡ read ts
unfolding step_of phase_of
part s ts (exclude {p = p} i) after = on Part Caret 94 (p ++ s) ts (m.start_caret 94 refl) refl
    (item Caret s ts i (λ x d. m.first_digit true x d) (λ x e h. m.first_sign_lem true x h.no_digit h.ascii) after)
part s ts (include i f) after = item Part s ts i (λ x d. m.start_first x (digit_no_caret x d) ∙ m.first_digit false x d)
    (λ x e h. m.start_first x (λ z. f (e ∙ z)) ∙ m.first_sign_lem false x h.no_digit h.ascii) after

-- behind a part: the list's end, or a comma
after_end : (t : VimToken) → After t [] (t ∷ [])
unfolding reading
after_end t σ c e = let by_closed_ends = closed_ends σ c in rw (by_closed_ends.0, by_closed_ends.1, e)

after_comma : (t : VimToken) (l : List ℕ) (ts : List VimToken) → reading Part l ≡ read ts → After t (44 ∷ l) (t ∷ ts)
unfolding reading phase_of later onto
after_comma t l ts r σ c e = rw (closed_comma σ c, r, e)

pub parts_read : {l : List ℕ} {ts : List VimToken} → Parts l ts → reading Part l ≡ read ts
unfolding reading step_of start_of phase_of ends token_of later
parts_read (last {p = p} {t = t} d) = subst (λ (l : List ℕ). reading Part l ≡ read (t ∷ [])) (append-nil p) (part [] (t ∷ []) d (after_end t))
parts_read caret = refl
parts_read (more {l = l} {t = t} {ts = ts} d r) = part (44 ∷ l) (t ∷ ts) d (after_comma t l ts (parts_read r))

-- the start reads what has a first code point as a part
start_part : (l : List ℕ) (ts : List VimToken) → reading Part l ≡ read ts → vim_reading l ≡ read ts
unfolding reading step_of ends phase_of token_of
start_part [] ts e = let never : ◌≡◌ {A = ℕ} 0 1 = cc in absurd (omega arith)
start_part (x ∷ l) ts e = e

pub reads_complete : {l : List ℕ} {ts : List VimToken} → Reads l ts → vim_reading l ≡ read ts
unfolding reading ends phase_of
reads_complete empty = refl
reads_complete (parts {l = l} {ts = ts} d) = start_part l ts (parts_read d)
