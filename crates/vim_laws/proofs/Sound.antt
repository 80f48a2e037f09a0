-- What the machine reads, the grammar reads so. The argument goes along the list, with what the part has been spelt so far. Assumes nothing.
use Rattle.lists.proofs.Kit.{◌≡◌, refl, ap, sym, subst, ◌∙◌, List, [], ◌∷◌, ◌++◌, append-nil, append_assoc, Bool, true, false, cond, true≢false, ℕ, ℕ_discrete}
use Rattle.lists.proofs.Kit.{arith, get_or, eqb, leb, eq-eqb, ne_eqb, leb-true}
use Rattle.list_parts.specs.Numbers.{all_digits}
use Rattle.vim_grammar.specs.declared.VimToken.{VimToken}
use Rattle.vim_grammar.specs.Tokens.{letters, one, range}
use Rattle.vim_grammar.specs.Grammar.{Number as Numeral, Char, End, by_number, of_char, Item, every_letter, single, between, Part as PartOf, exclude, include}
use Rattle.vim_grammar.specs.Grammar.{Parts, last, caret, more, Reads, empty, parts}
use Rattle.vim_reader.specs.declared.State.{State}
use Rattle.vim_reader.specs.Machine.{step_of, phase_of, token_of, sign_token, ends}
use Rattle.vim_reader.specs.Reading.{Reading, read, bad, onto, later, reading, vim_reading}
use Rattle.vim_laws.proofs.Spelt.{front, Free, Spelt, at_part, at_caret, at_number, at_sign, at_dash, at_second, at_done, first_stays, end_some}
use Rattle.vim_laws.proofs.SpeltOn.{step_spelt}
use Rattle.vim_laws.proofs.Commas.{closed, step_comma}

-- an item as a part
part_of : (out : Bool) {p : List ℕ} {t : VimToken} → Item out p t → Free out p → PartOf (front out p) t
part_of true i f = exclude i
part_of false i f = include i (f refl)

sign_item : (out : Bool) (c : ℕ) → Char c → Item out (c ∷ []) (sign_token out c)
unfolding sign_token
sign_item out c h = go (ℕ_discrete c 64)
  where
    go : Dec (c ≡ 64) → Item out (c ∷ []) (cond (eqb c 64) (letters out) (one out true c))
    go (yes e) = rw (eq-eqb c 64 e, e) every_letter
    go (no n) = rw (ne_eqb c 64 n) (single (of_char h) (λ w. n (ap (λ (l : List ℕ). get_or l 0 0) w)))

digit_at : (v : ℕ) {ds : List ℕ} → Numeral ds v → ds ≡ 64 ∷ [] → ⊥
unfolding all_digits
digit_at v n e = let never : ◌≡◌ {A = Bool} true false = sym n.all ∙ ap all_digits e in true≢false never

free_range : (out : Bool) {p : List ℕ} {char : Bool} {c : ℕ} (q : List ℕ) → End p char c → Free out p → Free out (p ++ q)
free_range out {p = p} q e f z w = f z (sym (first_stays p q (end_some e)) ∙ w)

-- a part that may end in its state is a part of the grammar with that state's token
pub spelt_closed : {σ : State} {p : List ℕ} → Spelt σ p → closed σ ≡ true → PartOf p (token_of σ)
unfolding closed token_of
spelt_closed at_part e = absurd (true≢false (sym e))
spelt_closed at_caret e = absurd (true≢false (sym e))
spelt_closed (at_number {out = out} {v = v} n f) e = part_of out (single (by_number n) (digit_at v n)) f
spelt_closed (at_sign {out = out} {c = c} h f) e = part_of out (sign_item out c h) f
spelt_closed (at_dash d f) e = absurd (true≢false (sym e))
spelt_closed (at_second {out = out} {ds = ds} {lo = lo} {v = v} d f n a) e =
    part_of out (between d (by_number n) (leb-true lo v e)) (free_range out (45 ∷ ds) d f)
spelt_closed (at_done {out = out} {c = c} d f h k) e = part_of out (between d (of_char h) k) (free_range out (45 ∷ c ∷ []) d f)

no_bad : {n : ℕ} {ts : List VimToken} → bad n ≡ read ts → ⊥
no_bad e = let never : ◌≡◌ {A = ℕ} 0 1 = cc in omega arith

later_read : (r : Reading) (ts : List VimToken) → later r ≡ read ts → r ≡ read ts
unfolding later
later_read (read us) ts e = e
later_read (bad n) ts e = absurd (no_bad e)

-- a token in front
pub record Onto (t : VimToken) (r : Reading) (ts : List VimToken) : Type 0 where
  pub rest : List VimToken
  pub read_rest : r ≡ read rest
  pub is : ts ≡ t ∷ rest

onto_read : (t : VimToken) (r : Reading) (ts : List VimToken) → onto t r ≡ read ts → Onto t r ts
unfolding onto
onto_read t (read us) ts e = record { rest = us; read_rest = refl; is = sym (cc e) }
onto_read t (bad n) ts e = absurd (no_bad e)

-- at the end of the list
ended : {σ : State} {p : List ℕ} → Spelt σ p → (ts : List VimToken) → reading σ [] ≡ read ts → Parts p ts
unfolding reading ends phase_of token_of closed
ended at_part ts e = absurd (no_bad e)
ended at_caret ts e = subst (Parts (94 ∷ [])) (cc e) caret
ended (at_number {out = out} n f) ts e = subst (Parts _) (cc e) (last (spelt_closed (at_number {out = out} n f) refl))
ended (at_sign {out = out} h f) ts e = subst (Parts _) (cc e) (last (spelt_closed (at_sign {out = out} h f) refl))
ended (at_dash d f) ts e = absurd (no_bad e)
ended (at_second {out = out} {char = char} {p = p} {ds = ds} {lo = lo} {v = v} d f n a) ts e = go (leb lo v) refl e
  where
    go : (b : Bool) → leb lo v ≡ b → cond b (read (range out char lo false v ∷ [])) (bad 0) ≡ read ts → Parts (front out (p ++ (45 ∷ ds))) ts
    go true w g = subst (Parts (front out (p ++ (45 ∷ ds)))) (cc g) (last (spelt_closed (at_second {out = out} d f n a) w))
    go false w g = absurd (no_bad g)
ended (at_done {out = out} d f h k) ts e = subst (Parts _) (cc e) (last (spelt_closed (at_done {out = out} d f h k) refl))

pub sound : (s : List ℕ) {σ : State} {p : List ℕ} → Spelt σ p → (ts : List VimToken) → reading σ s ≡ read ts → Parts (p ++ s) ts
unfolding reading
sound [] {p = p} w ts e = subst (λ (l : List ℕ). Parts l ts) (sym (append-nil p)) (ended w ts e)
sound (x ∷ s) {σ = σ} {p = p} w ts e = go (ℕ_discrete (phase_of (step_of σ x)) 0) (ℕ_discrete (phase_of (step_of σ x)) 1) (λ q g us. sound s {p = q} g us)
  where
    r : Reading
    r = reading (step_of σ x) s

    go : Dec (phase_of (step_of σ x) ≡ 0) → Dec (phase_of (step_of σ x) ≡ 1) →
        ((q : List ℕ) → Spelt (step_of σ x) q → (us : List VimToken) → r ≡ read us → Parts (q ++ s) us) → Parts (p ++ (x ∷ s)) ts
    go (yes z) d ih = let bad_is : bad 0 ≡ read ts = rw (eq-eqb (phase_of (step_of σ x)) 0 z) at e in absurd (no_bad bad_is)
    go (no n) (yes z) ih =
        let later_is : later (onto (token_of σ) r) ≡ read ts = rw (ne_eqb (phase_of (step_of σ x)) 0 n, eq-eqb (phase_of (step_of σ x)) 1 z) at e in
        let by_onto_read = onto_read (token_of σ) r ts (later_read (onto (token_of σ) r) ts later_is) in
        let by_step_comma = step_comma σ x z in
        let by_ih = ih [] (subst (λ (τ : State). Spelt τ []) (sym by_step_comma.2) at_part) by_onto_read.rest by_onto_read.read_rest in
        rw (by_step_comma.0, by_onto_read.is) (more (spelt_closed w by_step_comma.1) by_ih)
    go (no n) (no k) ih =
        let later_is : later r ≡ read ts = rw (ne_eqb (phase_of (step_of σ x)) 0 n, ne_eqb (phase_of (step_of σ x)) 1 k) at e in
        subst (λ (l : List ℕ). Parts l ts) (append_assoc p (x ∷ []) s) (ih (p ++ (x ∷ [])) (step_spelt x w n k) ts (later_read r ts later_is))

-- the start reads a list that has a first code point as a part
pub reads_sound : (l : List ℕ) (ts : List VimToken) → vim_reading l ≡ read ts → Reads l ts
unfolding reading ends phase_of step_of token_of
reads_sound [] ts e = subst (Reads []) (cc e) empty
reads_sound (x ∷ l) ts e = parts (sound (x ∷ l) at_part ts e)
