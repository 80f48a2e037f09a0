-- The parts of a converted list: those of the list without their signs, read as the same tokens, with none left. Assumes nothing.
use Rattle.lists.proofs.Kit.{◌≡◌, refl, ap, sym, ◌∙◌, List, [], ◌∷◌, ◌++◌, append-nil, Bool, true, false, not, true≢false, ℕ, suc, ◌+◌, length, replicate, Option, Some, None}
use Rattle.lists.proofs.Kit.{length-replicate, replicate-append-replicate, eqb}
use Rattle.lists.proofs.Both.{both}
use Rattle.lists.specs.Lists.{split}
use Rattle.list_parts.specs.Parts.{trim_start, trim}
use Rattle.list_parts.specs.Numbers.{number_of}
use Rattle.list_tokens.specs.Grammar.{is_token, is_at, range_of, token_of}
use Rattle.list_tokens.specs.Tokens.{tokens_in}
use Rattle.list_signs.specs.Signs.{none, kept_signs, before, behind, part_signs, signs_in, signs}
use Rattle.list_signs.specs.Plain.{without, plain}
use Rattle.list_signs.specs.Converted.{bare, bares}
use Rattle.list_signs.proofs.Joins.{joined, Filled, no_cons, split_some, joined_split, no_comma, no_commas, split_no_commas, split_joined}
use Rattle.list_signs.proofs.MarkLaws.{none_append, kept_length}
use Rattle.list_signs.proofs.PartMarks.{part_length}
use Rattle.list_signs.proofs.PartLaws.{Same}
use Rattle.list_signs.proofs.SameLaws.{same_trimmed}
use Rattle.list_signs.proofs.TrimLaws.{trim_twice, start_of_trim, trim_around}
use Rattle.list_signs.proofs.WhiteLaws.{split_part, before_white, end_white}
use Rattle.list_signs.proofs.WithoutLaws.{without_none, without_append}

-- a part without its signs: its white space stays around what it is trimmed to
part_around : (p : List ℕ) → bare p ≡ before p ++ (without (trim p) (kept_signs (trim p)) ++ behind p)
part_around p = ap (λ (q : List ℕ). without q (part_signs p)) (sym (split_part p))
    ∙ without_append (before p) (trim p ++ behind p) (none (before p)) (kept_signs (trim p) ++ none (behind p)) (length-replicate (length (before p)) false)
    ∙ rw (
      without_none (before p) (length (before p)),
      without_append (trim p) (behind p) (kept_signs (trim p)) (none (behind p)) (kept_length (trim p)),
      without_none (behind p) (length (behind p)),
    )

same_part : (p : List ℕ) → Same (trim p)
same_part p = same_trimmed (trim p) (trim_twice p) (start_of_trim p)

part_trim : (p : List ℕ) → trim (bare p) ≡ without (trim p) (kept_signs (trim p))
part_trim p =
    let by_same_part = same_part p in
    ap trim (part_around p)
    ∙ trim_around (before p) (without (trim p) (kept_signs (trim p))) (behind p) (before_white p) (end_white (trim_start p)) by_same_part.trimmed
    by_same_part.starts

part_token : (p : List ℕ) → token_of (trim (bare p)) ≡ token_of (trim p)
part_token p = ap token_of (part_trim p) ∙ (same_part p).token

-- no sign is left in it
part_bare : (p : List ℕ) → part_signs (bare p) ≡ none (bare p)
part_bare p =
    let bare_here = bare p in
    let kept_signs_is : kept_signs (trim bare_here) ≡ none (trim bare_here) = rw (part_trim p) (same_part p).bare in
    rw kept_signs_is (ap (λ (r : List Bool). none (before bare_here) ++ r) (sym (none_append (trim bare_here) (behind bare_here)))
    ∙ sym (none_append (before bare_here) (trim bare_here ++ behind bare_here)) ∙ ap none (split_part bare_here))

-- a part that is dropped has none
dropped_none : (t : List ℕ) → is_token (token_of t) ≡ false → kept_signs t ≡ none t
dropped_none t h = go (is_at t) refl (is_token (range_of t)) refl (number_of t) refl
  where
    go : (a : Bool) → is_at t ≡ a → (r : Bool) → is_token (range_of t) ≡ r → (n : Option ℕ) → number_of t ≡ n → kept_signs t ≡ none t
    go true a r s n e = absurd (true≢false (rw a at h))
    go false a true s n e = absurd (true≢false (sym s ∙ (rw (a, s) at h)))
    go false a false s (Some n) e = absurd (true≢false (rw (a, s, e) at h))
    go false a false s None e = rw (s, e)

pub dropped_stays : (p : List ℕ) → is_token (token_of (trim p)) ≡ false → bare p ≡ p
dropped_stays p h =
    let trim_here = trim p in
    let stays : without trim_here (kept_signs trim_here) ≡ trim_here = ap (without trim_here) (dropped_none trim_here h)
    ∙ without_none trim_here (length trim_here) in
    part_around p ∙ ap (λ (q : List ℕ). before p ++ (q ++ behind p)) stays ∙ split_part p

part_comma : (p : List ℕ) (ms : List Bool) → no_comma p ≡ true → no_comma (without p ms) ≡ true
unfolding no_comma without
part_comma [] ms h = refl
part_comma (x ∷ p) [] h = h
part_comma (x ∷ p) (true ∷ ms) h = part_comma p ms (both (not (eqb x 44)) (no_comma p) h).1
part_comma (x ∷ p) (false ∷ ms) h = let by_both = both (not (eqb x 44)) (no_comma p) h in rw by_both.0 (part_comma p ms by_both.1)

bares_some : (ps : List (List ℕ)) → Filled ps → Filled (bares ps)
unfolding bares Filled
bares_some [] s = absurd (s refl)
bares_some (p ∷ ps) s = no_cons _ _

bares_no_commas : (ps : List (List ℕ)) → no_commas ps ≡ true → no_commas (bares ps) ≡ true
unfolding bares no_commas
bares_no_commas [] h = refl
bares_no_commas (p ∷ ps) h = let by_both = both (no_comma p) (no_commas ps) h in rw (part_comma p (part_signs p) by_both.0) (bares_no_commas ps by_both.1)

bares_joined : (ps : List (List ℕ)) → without (joined ps) (signs_in ps) ≡ joined (bares ps)
unfolding joined bares signs_in without
bares_joined [] = refl
bares_joined (p ∷ []) = ap (λ (q : List ℕ). without q (part_signs p ++ (false ∷ []))) (sym (append-nil p))
    ∙ without_append p [] (part_signs p) (false ∷ []) (part_length p) ∙ append-nil (bare p)
bares_joined (p ∷ q ∷ ps) = without_append p (44 ∷ joined (q ∷ ps)) (part_signs p) (false ∷ signs_in (q ∷ ps)) (part_length p)
    ∙ ap (λ (r : List ℕ). bare p ++ (44 ∷ r)) (bares_joined (q ∷ ps))

pub bares_tokens : (ps : List (List ℕ)) → tokens_in (bares ps) ≡ tokens_in ps
unfolding bares tokens_in
bares_tokens [] = refl
bares_tokens (p ∷ ps) = rw (part_token p, bares_tokens ps)

pub bares_none : (ps : List (List ℕ)) → signs_in (bares ps) ≡ replicate (length (signs_in (bares ps))) false
unfolding bares signs_in
bares_none [] = refl
bares_none (p ∷ ps) =
    let bare_here = bare p in
    let n = length (signs_in (bares ps)) in
    let joined_is : part_signs bare_here ++ (false ∷ signs_in (bares ps)) ≡ replicate (length bare_here + suc n) false =
    rw (part_bare p) (ap (λ (r : List Bool). none bare_here ++ (false ∷ r)) (bares_none ps) ∙ replicate-append-replicate (length bare_here) (suc n) false) in
    joined_is ∙ ap (λ (k : ℕ). replicate k false) (sym (ap length joined_is ∙ length-replicate (length bare_here + suc n) false))

-- the parts of a converted list
pub plain_parts : (l : List ℕ) → split 44 (plain l) ≡ bares (split 44 l)
plain_parts l = ap (λ (q : List ℕ). split 44 (without q (signs l))) (sym (joined_split l)) ∙ ap (split 44) (bares_joined (split 44 l))
    ∙ split_joined (bares (split 44 l)) (bares_some (split 44 l) (split_some l)) (bares_no_commas (split 44 l) (split_no_commas l))
