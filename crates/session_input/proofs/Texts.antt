-- Where the text of an input begins: at its end, or behind a byte 10; and so it is UTF-8 where the whole is. Assumes nothing.
use Rattle.lists.proofs.Kit.{◌≡◌, refl, ap, sym, subst, ◌∙◌, List, [], ◌∷◌, ◌++◌, append_assoc, Bool, true, false, cond, not, ◌||◌, ◌⊎◌, inl, inr, ⊎_elim, ℕ}
use Rattle.lists.proofs.Kit.{suc, ◌+◌, arith, length, drop, drop_of_length-le, drop-append-add, eqb, ltb, eqb-true}
use Rattle.lists.specs.Lists.{on_first}
use Rattle.text.specs.Text.{rows}
use Rattle.utf8.specs.Decoding.{Reading, text, bad, decoding, reading}
use Rattle.utf8.specs.Walks.{text_of as read_text}
use Rattle.utf8.proofs.Cuts.{good_behind}
use Rattle.session_input.specs.Parts.{is_stop, has_stop, text_at, text_of, is_bad, is_refused}

-- rows with a separator between two
joined : List (List ℕ) → List ℕ
joined [] = []
joined (row ∷ []) = row
joined (row ∷ next ∷ rest) = row ++ (10 ∷ joined (next ∷ rest))

-- there is a first row
Some : List (List ℕ) → Type 0
Some [] = ⊥
Some (row ∷ rest) = Unit {0}

rows_some : (l : List ℕ) → Some (rows l)
unfolding rows Some on_first
rows_some [] = tt
rows_some (x ∷ l) = go (eqb x 10) (rows l)
  where
    go : (b : Bool) (rs : List (List ℕ)) → Some (cond b ([] ∷ rs) (on_first x rs))
    go true rs = tt
    go false [] = tt
    go false (row ∷ rs) = tt

joined_end : (rs : List (List ℕ)) → Some rs → joined ([] ∷ rs) ≡ 10 ∷ joined rs
unfolding joined Some
joined_end [] s = absurd s
joined_end (row ∷ rest) s = refl

joined_first : (x : ℕ) (rs : List (List ℕ)) → Some rs → joined (on_first x rs) ≡ x ∷ joined rs
unfolding joined Some on_first
joined_first x [] s = absurd s
joined_first x (row ∷ []) s = refl
joined_first x (row ∷ next ∷ rest) s = refl

rows_joined : (l : List ℕ) → joined (rows l) ≡ l
unfolding rows joined
rows_joined [] = refl
rows_joined (x ∷ l) = go (eqb x 10) refl (rows_joined l)
  where
    go : (b : Bool) → eqb x 10 ≡ b → joined (rows l) ≡ l → joined (cond b ([] ∷ rows l) (on_first x (rows l))) ≡ x ∷ l
    go true p ih = joined_end (rows l) (rows_some l) ∙ rw (ih, eqb-true x 10 p)
    go false p ih = joined_first x (rows l) (rows_some l) ∙ rw ih

-- the text is empty, or it stands behind a separator
Behind : List ℕ → ℕ → Type 0
Behind l n = (drop n l ≡ []) ⊎ ((s : List ℕ) × (l ≡ s ++ (10 ∷ drop n l)))

text_behind : (rs : List (List ℕ)) → Behind (joined rs) (text_at rs)
unfolding joined text_at Behind
text_behind [] = inl refl
text_behind (row ∷ []) = inl (drop_of_length-le row {i = length row + 1 + cond (is_stop row) 0 0} (omega arith))
text_behind (row ∷ next ∷ rest) = go (is_stop row) (text_behind (next ∷ rest))
  where
    after : List ℕ
    after = joined (next ∷ rest)

    past : (k n : ℕ) → n ≡ length row + suc k → drop n (row ++ (10 ∷ after)) ≡ drop k after
    past k n e = ap (λ (i : ℕ). drop i (row ++ (10 ∷ after))) e ∙ drop-append-add row (10 ∷ after) (suc k)

    go : (b : Bool) → Behind after (text_at (next ∷ rest)) → Behind (row ++ (10 ∷ after)) (length row + 1 + cond b 0 (text_at (next ∷ rest)))
    go true w = inr (row, ap (λ (l : List ℕ). row ++ (10 ∷ l)) (sym (past 0 (length row + 1 + 0) (omega arith))))
    go false w =
        let the_text = text_at (next ∷ rest) in
        let n = length row + 1 + the_text in
        let by_past = past the_text n (omega arith) in
        ⊎_elim (λ none. inl (by_past ∙ none)) (λ some. inr (
          row ++ (10 ∷ some.0),
          ap (λ (l : List ℕ). row ++ (10 ∷ l)) some.1 ∙ sym (append_assoc row (10 ∷ some.0) (10 ∷ drop the_text after))
              ∙ ap (λ (l : List ℕ). (row ++ (10 ∷ some.0)) ++ (10 ∷ l)) (sym by_past),
        ))
        w

input_behind : (input : List ℕ) → Behind input (text_at (rows input))
input_behind input = subst (λ (l : List ℕ). Behind l (text_at (rows input))) (rows_joined input) (text_behind (rows input))

good_read : (r : Reading) → is_bad r ≡ false → (t : List ℕ) × (r ≡ text t)
unfolding is_bad
good_read (text t) e = (t, refl)
good_read (bad n) e = let never : ◌≡◌ {A = ℕ} 0 1 = cc in absurd (omega arith)

taken_good : (input : List ℕ) → is_refused input ≡ false → is_bad (decoding input) ≡ false
unfolding is_refused
taken_good input e = go (ltb 16384 (length input)) (is_bad (decoding input)) e
  where
    go : (a b : Bool) → (a || (b || not (has_stop (rows input)))) ≡ false → b ≡ false
    go true b p = let never : ◌≡◌ {A = ℕ} 0 1 = cc in absurd (omega arith)
    go false true p = let never : ◌≡◌ {A = ℕ} 0 1 = cc in absurd (omega arith)
    go false false p = refl

-- the text of an input that is not refused is UTF-8: its code points are what is read of it
pub text_good : (input : List ℕ) → is_refused input ≡ false → decoding (drop (text_at (rows input)) input) ≡ text (text_of input)
unfolding Behind read_text reading
text_good input e =
    let n = text_at (rows input) in
    let by_good_read = good_read (decoding input) (taken_good input e) in
    ⊎_elim (λ none. rw none) (λ some. good_behind some.0 10 (drop n input) by_good_read.0 (omega arith)
    (subst (λ (l : List ℕ). decoding l ≡ text by_good_read.0) some.1 by_good_read.1)) (input_behind input)
