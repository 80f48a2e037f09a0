-- Where reading goes wrong: what stands before that place begins a list that is read, and with the code point there it begins none. Assumes nothing.
use Rattle.lists.proofs.Kit.{◌≡◌, refl, ap, sym, subst, ◌∙◌, List, [], ◌∷◌, ◌++◌, append-nil, Bool, true, false, cond, ℕ, suc, ◌≤◌, ◌<◌, ℕ_discrete, arith}
use Rattle.lists.proofs.Kit.{length, take, eq-eqb, ne_eqb, le-leb}
use Rattle.list_parts.specs.Numbers.{all_digits, value}
use Rattle.vim_grammar.specs.declared.VimToken.{VimToken}
use Rattle.vim_grammar.specs.Tokens.{range}
use Rattle.vim_grammar.specs.Grammar.{Number as Numeral}
use Rattle.vim_reader.specs.declared.State.{State}
use Rattle.vim_reader.specs.declared.State.TheVariants.{Dash, Second}
use Rattle.vim_reader.specs.Machine.{first_of, start_of, step_of, phase_of, token_of, ends, is_start}
use Rattle.vim_reader.specs.Reading.{Reading, read, bad, onto, later, reading}
use Rattle.vim_laws.proofs.Numbers.{most_tail}
use Rattle.vim_laws.proofs.Spelt.{Spelt, at_part, at_caret, at_number, at_sign, at_dash, at_second, at_done, end_most}
use Rattle.vim_laws.proofs.SpeltOn.{step_spelt}
use Rattle.vim_laws.proofs.Commas.{step_comma}
use Rattle.vim_laws.proofs.Digits.{second_on, second_whole}

-- something is read
unfoldable pub IsRead : Reading → Type 0
IsRead (read ts) = Unit {0}
IsRead (bad n) = ⊥

is_read : (r : Reading) (ts : List VimToken) → r ≡ read ts → IsRead r
unfolding IsRead
is_read r ts e = subst IsRead (sym e) tt

-- from every state that a part comes to, something leads to the end of a list
finish : {σ : State} {p : List ℕ} → Spelt σ p → (c : List ℕ) × IsRead (reading σ c)
unfolding reading step_of start_of first_of phase_of ends token_of IsRead later value all_digits
finish at_part = (97 ∷ [], tt)
finish at_caret = ([], tt)
finish (at_number n f) = ([], tt)
finish (at_sign h f) = ([], tt)
finish (at_dash {out = out} {char = char} {lo = lo} e f) =
    let most = end_most e in
    let numeral : Numeral (50 ∷ 53 ∷ 53 ∷ []) 255 = record { some = omega arith; all = refl; is = refl; most = omega arith } in
    let reading_is : reading (Second out char lo 255) [] ≡ read (range out char lo false 255 ∷ []) = rw (le-leb lo 255 most) in (
      50 ∷ 53 ∷ 53 ∷ [],
      is_read (reading (Dash out char lo) (50 ∷ 53 ∷ 53 ∷ [])) _ (second_whole (50 ∷ 53 ∷ 53 ∷ []) out char lo 255 [] _ numeral most reading_is),
    )
finish (at_second {out = out} {char = char} {lo = lo} {v = v} e f n a) =
    let by_most_tail = most_tail v n.most in
    let lo_at_most : lo ≤ value v by_most_tail.ds = omega (arith, by_most_tail.is) in
    let reading_is : reading (Second out char lo (value v by_most_tail.ds)) [] ≡ read (range out char lo false (value v by_most_tail.ds) ∷ []) =
    rw (le-leb lo (value v by_most_tail.ds) lo_at_most) in (
      by_most_tail.ds,
      is_read (reading (Second out char lo v) by_most_tail.ds) (range out char lo false (value v by_most_tail.ds) ∷ [])
          (subst (λ (l : List ℕ). reading (Second out char lo v) l ≡ read (range out char lo false (value v by_most_tail.ds) ∷ []))
          (append-nil by_most_tail.ds)
          (second_on by_most_tail.ds out char lo v [] (range out char lo false (value v by_most_tail.ds) ∷ []) by_most_tail.all lo_at_most
          (omega (arith, by_most_tail.is, by_most_tail.most)) reading_is)),
    )
finish (at_done e f h k) = ([], tt)

-- s goes wrong at n
pub record Wrong (σ : State) (s : List ℕ) (n : ℕ) : Type 0 where
  pub inside : n ≤ length s
  pub rest : List ℕ
  pub begins : IsRead (reading σ (take n s ++ rest))
  pub longest : n < length s → (u : List ℕ) → reading σ (take (suc n) s ++ u) ≡ bad n

-- at once
wrong_here : {σ : State} {p : List ℕ} (s : List ℕ) → Spelt σ p → (0 < length s → (u : List ℕ) → reading σ (take 1 s ++ u) ≡ bad 0) → Wrong σ s 0
wrong_here s w f = let by_finish = finish w in record { inside = omega arith; rest = by_finish.0; begins = by_finish.1; longest = f }

-- one code point, and one token, in front of a reading
plain_back : (a : Reading) (k : ℕ) → later a ≡ bad k → (j : ℕ) × (a ≡ bad j) × (k ≡ suc j)
unfolding later
plain_back (read us) k e = let never : ◌≡◌ {A = ℕ} 0 1 = cc in absurd (omega arith)
plain_back (bad j) k e = (j, refl, sym (cc e))

plain_keep : (a : Reading) → IsRead a → IsRead (later a)
unfolding later IsRead
plain_keep (read us) i = i
plain_keep (bad j) i = absurd i

plain_bad : (j : ℕ) → later (bad j) ≡ bad (suc j)
unfolding later
plain_bad j = refl

onto_back : (t : VimToken) (a : Reading) (k : ℕ) → later (onto t a) ≡ bad k → (j : ℕ) × (a ≡ bad j) × (k ≡ suc j)
unfolding later onto
onto_back t (read us) k e = let never : ◌≡◌ {A = ℕ} 0 1 = cc in absurd (omega arith)
onto_back t (bad j) k e = (j, refl, sym (cc e))

onto_keep : (t : VimToken) (a : Reading) → IsRead a → IsRead (later (onto t a))
unfolding later onto IsRead
onto_keep t (read us) i = i
onto_keep t (bad j) i = absurd i

onto_bad : (t : VimToken) (j : ℕ) → later (onto t (bad j)) ≡ bad (suc j)
unfolding later onto
onto_bad t j = refl

pub wrong_from : (s : List ℕ) {σ : State} {p : List ℕ} → Spelt σ p → (n : ℕ) → reading σ s ≡ bad n → Wrong σ s n
unfolding reading
wrong_from [] {σ = σ} w n e = go (ends σ) e
  where
    go : (b : Bool) → cond b (read (cond (is_start σ) [] (token_of σ ∷ []))) (bad 0) ≡ bad n → Wrong σ [] n
    go true q = let never : ◌≡◌ {A = ℕ} 0 1 = cc in absurd (omega arith)
    go false q = let n_is : 0 ≡ n = cc in subst (Wrong σ []) n_is (wrong_here [] w (λ h. absurd (omega arith)))
wrong_from (x ∷ s) {σ = σ} {p = p} w n e = go (ℕ_discrete (phase_of (step_of σ x)) 0) (ℕ_discrete (phase_of (step_of σ x)) 1) (λ q g k. wrong_from s {p = q} g k)
  where
    r : List ℕ → Reading
    r = reading (step_of σ x)

    -- the steps behind x, where it leads on
    behind : (f : Reading → Reading) → ((l : List ℕ) → reading σ (x ∷ l) ≡ later (f (r l))) →
        ((a : Reading) (k : ℕ) → later (f a) ≡ bad k → (j : ℕ) × (a ≡ bad j) × (k ≡ suc j)) →
        ((a : Reading) → IsRead a → IsRead (later (f a))) → ((j : ℕ) → later (f (bad j)) ≡ bad (suc j)) →
        ((k : ℕ) → r s ≡ bad k → Wrong (step_of σ x) s k) → Wrong σ (x ∷ s) n
    behind f same back keep goes ih =
        let by_back = back (r s) n (sym (same s) ∙ e) in
        let first_part = by_back.0 in
        let by_ih = ih first_part by_back.1 in
        subst (Wrong σ (x ∷ s)) (sym by_back.2) (record {
          inside = omega (arith, by_ih.inside);
          rest = by_ih.rest;
          begins = subst IsRead (sym (same (take first_part s ++ by_ih.rest))) (keep (r (take first_part s ++ by_ih.rest)) by_ih.begins);
          longest = λ h u. same (take (suc first_part) s ++ u) ∙ ap (λ (a : Reading). later (f a)) (by_ih.longest (omega arith) u) ∙ goes first_part;
        })

    go : Dec (phase_of (step_of σ x) ≡ 0) → Dec (phase_of (step_of σ x) ≡ 1) →
        ((q : List ℕ) → Spelt (step_of σ x) q → (k : ℕ) → r s ≡ bad k → Wrong (step_of σ x) s k) → Wrong σ (x ∷ s) n
    go (yes z) d ih =
        let dead : (l : List ℕ) → reading σ (x ∷ l) ≡ bad 0 = λ l. rw (eq-eqb (phase_of (step_of σ x)) 0 z) in
        let bad_is : bad 0 ≡ bad n = sym (dead s) ∙ e in
        let n_is : 0 ≡ n = cc in
        subst (Wrong σ (x ∷ s)) n_is (wrong_here (x ∷ s) w (λ h u. dead u))
    go (no m) (yes z) ih = behind (onto (token_of σ)) (λ l. rw (ne_eqb (phase_of (step_of σ x)) 0 m, eq-eqb (phase_of (step_of σ x)) 1 z)) (onto_back (token_of σ))
        (onto_keep (token_of σ)) (onto_bad (token_of σ)) (ih [] (subst (λ (τ : State). Spelt τ []) (sym (step_comma σ x z).2) at_part))
    go (no m) (no k) ih = behind (λ a. a) (λ l. rw (ne_eqb (phase_of (step_of σ x)) 0 m, ne_eqb (phase_of (step_of σ x)) 1 k)) plain_back plain_keep plain_bad
        (ih (p ++ (x ∷ [])) (step_spelt x w m k))
