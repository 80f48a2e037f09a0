-- Only plus signs are retired: every mark of `signs` that is true stands at a `+`. Assumes nothing.
use Rattle.lists.proofs.Kit.{◌≡◌, refl, ap, sym, ◌∙◌, List, [], ◌∷◌, ◌++◌, append-nil, Bool, true, false, true≢false, ℕ, zero, suc, ◌+◌, add-one, arith, length}
use Rattle.lists.proofs.Kit.{get_or, take, drop, replicate, length-replicate, split_at, eqb-true}
use Rattle.lists.specs.Lists.{up_to, split}
use Rattle.list_parts.specs.Numbers.{number_of}
use Rattle.list_parts.specs.Parts.{trim}
use Rattle.list_tokens.specs.Grammar.{is_token, range_of}
use Rattle.list_signs.specs.Signs.{none, leading, is_value, kept_signs, before, behind, part_signs, signs_in, signs}
use Rattle.list_signs.proofs.Answers.{cond_yes}
use Rattle.list_signs.proofs.Joins.{joined, joined_split}
use Rattle.list_signs.proofs.MarkLaws.{range_inside, kept_length}
use Rattle.list_signs.proofs.PartLaws.{leading_length, up_to_found}
use Rattle.list_signs.proofs.PartMarks.{part_length}
use Rattle.list_signs.proofs.WhiteLaws.{split_part}

abbrev pub Pluses : List ℕ → List Bool → Type 0
Pluses l ms = (k : ℕ) → get_or ms k false ≡ true → get_or l k 0 ≡ 43

never : (n k : ℕ) → get_or (replicate n false) k false ≡ false
never zero k = refl
never (suc n) zero = refl
never (suc n) (suc k) = never n k

pluses_none : (l : List ℕ) (n : ℕ) → Pluses l (replicate n false)
pluses_none l n k e = absurd (true≢false (sym e ∙ never n k))

pluses_leading : (p : List ℕ) → Pluses p (leading p)
pluses_leading [] k e = absurd (true≢false (sym e))
pluses_leading (x ∷ p) zero e = eqb-true x 43 e
pluses_leading (x ∷ p) (suc k) e = absurd (true≢false (sym e ∙ never (length p) k))

pluses_skip : (x : ℕ) (l : List ℕ) (ms : List Bool) → Pluses l ms → Pluses (x ∷ l) (false ∷ ms)
pluses_skip x l ms f zero e = absurd (true≢false (sym e))
pluses_skip x l ms f (suc k) e = f k e

pluses_append : (p q : List ℕ) (a b : List Bool) → length a ≡ length p → Pluses p a → Pluses q b → Pluses (p ++ q) (a ++ b)
pluses_append [] q [] b h f g k e = g k e
pluses_append [] q (m ∷ a) b h f g k e = absurd (omega arith)
pluses_append (x ∷ p) q [] b h f g k e = absurd (omega arith)
pluses_append (x ∷ p) q (m ∷ a) b h f g zero e = f zero e
pluses_append (x ∷ p) q (m ∷ a) b h f g (suc k) e = pluses_append p q a b (omega arith) (λ (j : ℕ). f (suc j)) g k e

pluses_of : (l l' : List ℕ) (ms ms' : List Bool) → l ≡ l' → ms ≡ ms' → Pluses l' ms' → Pluses l ms
pluses_of l l' ms ms' a b f k e = ap (λ (q : List ℕ). get_or q k 0) a ∙ f k (ap (λ (q : List Bool). get_or q k false) (sym b) ∙ e)

-- of a trimmed part
pluses_range : (t : List ℕ) → is_token (range_of t) ≡ true → Pluses t (kept_signs t)
pluses_range t r =
    let up_to_lem = up_to 45 t in
    let front = take up_to_lem t in
    let rest = drop (up_to_lem + 1) t in
    let inside = (range_inside t r).1 in
    let found : t ≡ front ++ (45 ∷ rest) = split_at t up_to_lem 0 inside ∙ rw (up_to_found 45 t inside, add-one up_to_lem) in
    pluses_of t (front ++ (45 ∷ rest)) (kept_signs t) (leading front ++ (false ∷ leading rest)) found (cond_yes (is_token (range_of t)) _ _ r)
    (pluses_append front (45 ∷ rest) (leading front) (false ∷ leading rest) (leading_length front) (pluses_leading front)
    (pluses_skip 45 rest (leading rest) (pluses_leading rest)))

pluses_kept : (t : List ℕ) → Pluses t (kept_signs t)
pluses_kept t = go (is_token (range_of t)) refl (is_value (number_of t)) refl
  where
    go : (r : Bool) → is_token (range_of t) ≡ r → (n : Bool) → is_value (number_of t) ≡ n → Pluses t (kept_signs t)
    go true r n m = pluses_range t r
    go false r true m = pluses_of t t (kept_signs t) (leading t) refl (rw (r, m)) (pluses_leading t)
    go false r false m = pluses_of t t (kept_signs t) (none t) refl (rw (r, m)) (pluses_none t (length t))

pluses_part : (p : List ℕ) → Pluses p (part_signs p)
pluses_part p =
    let Before-here = before p in
    let trim_here = trim p in
    let behind_here = behind p in
    pluses_of p (Before-here ++ (trim_here ++ behind_here)) (part_signs p) (part_signs p) (sym (split_part p)) refl
    (pluses_append Before-here (trim_here ++ behind_here) (none Before-here) (kept_signs trim_here ++ none behind_here)
    (length-replicate (length Before-here) false) (pluses_none Before-here (length Before-here))
    (pluses_append trim_here behind_here (kept_signs trim_here) (none behind_here) (kept_length trim_here) (pluses_kept trim_here)
    (pluses_none behind_here (length behind_here))))

-- of parts that are joined, and so of a list
pluses_joined : (ps : List (List ℕ)) → Pluses (joined ps) (signs_in ps)
unfolding joined signs_in
pluses_joined [] = pluses_none [] 0
pluses_joined (p ∷ []) = pluses_of p (p ++ []) (part_signs p ++ (false ∷ [])) (part_signs p ++ (false ∷ [])) (sym (append-nil p)) refl
    (pluses_append p [] (part_signs p) (false ∷ []) (part_length p) (pluses_part p) (pluses_none [] 1))
pluses_joined (p ∷ q ∷ ps) = pluses_append p (44 ∷ joined (q ∷ ps)) (part_signs p) (false ∷ signs_in (q ∷ ps)) (part_length p) (pluses_part p)
    (pluses_skip 44 (joined (q ∷ ps)) (signs_in (q ∷ ps)) (pluses_joined (q ∷ ps)))

pub signs_pluses : (l : List ℕ) → Pluses l (signs l)
signs_pluses l = pluses_of l (joined (split 44 l)) (signs l) (signs l) (sym (joined_split l)) refl (pluses_joined (split 44 l))
