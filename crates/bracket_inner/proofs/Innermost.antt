-- The answer of `inner_pair` is the innermost pair of demand 3 around the position, or that there is none: the statement of `specs/Innermost.antt`
-- holds of every text, kind and position. Assumes nothing.
use Rattle.lists.proofs.Kit.{◌≡◌, sym, ◌∙◌, subst, List, ◌⊎◌, inl, inr, ℕ, arith}
use Rattle.bracket_kinds.specs.declared.Kind.{Kind}
use Rattle.text.specs.declared.Position.{Position}
use Rattle.bracket_inner.specs.declared.Ranges.{Ranges}
use Rattle.bracket_inner.specs.declared.Inner.TheVariants.{Pair, None, Refused}
use Rattle.bracket_inner.specs.Inner.{ranges}
use Rattle.bracket_inner.specs.Encloses.{Encloses, Within, Innermost}
use Rattle.bracket_inner.specs.Innermost.{Standing, Told, inner_at, refusal_of, InnerPairs}
use Rattle.bracket_inner.proofs.Places.{before_once}
use Rattle.bracket_inner.proofs.Told.{Answer, a_pair, a_none, answered_so, at_refused, accepted?}

pub inner_pairs : (t : List ℕ) (k : Kind) (x : Position) → InnerPairs t k x
inner_pairs t k x = record {
  pair = λ r e. accepted? t k x (λ z. pair r e) (λ n. absurd (pair_refused (sym e ∙ at_refused t k x n)));
  pair_only = λ z p q i. pair_only p q i (answered_so t k x z);
  none = λ e p q c. accepted? t k x (λ z. none e p q c) (λ n. none_refused (sym e ∙ at_refused t k x n));
  none_only = λ z n. none_only n (answered_so t k x z);
  refused = λ f e. accepted? t k x (λ z. refused f e) (λ n. numbered f (sym (at_refused t k x n) ∙ e) n);
  refused_only = at_refused t k x;
}
  where
    pair_refused : {r : Ranges} {f : ℕ} → Pair r ≡ Refused f → ⊥
    pair_refused e = let never : ◌≡◌ {A = ℕ} 0 1 = cc in omega arith

    none_refused : {f : ℕ} → None ≡ Refused f → ⊥
    none_refused e = let never : ◌≡◌ {A = ℕ} 0 1 = cc in omega arith

    pair_none : {r : Ranges} → Pair r ≡ None → ⊥
    pair_none e = let never : ◌≡◌ {A = ℕ} 0 1 = cc in omega arith

    pair_once : {r s : Ranges} → Pair r ≡ Pair s → r ≡ s
    pair_once e = cc

    pair : (r : Ranges) → inner_at t k x ≡ Pair r → Answer t k x → Told t k x r
    pair r e (a_pair p q is i s) =
        let so : ranges p q ≡ r = pair_once (sym is ∙ e) in
        record { open_at = p; close_at = q; innermost = i; told = sym so; standing = subst (Standing t) so s }
    pair r e (a_none is n) = absurd (pair_none (sym e ∙ is))

    -- two innermost pairs are one
    pair_only : (p q : Position) → Innermost k t x p q → Answer t k x → inner_at t k x ≡ Pair (ranges p q)
    pair_only p q i (a_pair p' q' is i' s) = on (i.others p' q' i'.encloses) (i'.others p q i.encloses)
      where
        on : ((p ≡ p') × (q ≡ q')) ⊎ Within p q p' q' → ((p' ≡ p) × (q' ≡ q)) ⊎ Within p' q' p q → inner_at t k x ≡ Pair (ranges p q)
        on (inl e) d = rw (e.0, e.1) is
        on (inr u) (inl e) = rw (← e.0, ← e.1) is
        on (inr u) (inr v) = absurd (before_once u.0 v.0)
    pair_only p q i (a_none is n) = absurd (n p q i.encloses)

    none : inner_at t k x ≡ None → (p q : Position) → Encloses k t x p q → Answer t k x → ⊥
    none e p q c (a_pair p' q' is i s) = pair_none (sym is ∙ e)
    none e p q c (a_none is n) = n p q c

    none_only : ((p q : Position) → Encloses k t x p q → ⊥) → Answer t k x → inner_at t k x ≡ None
    none_only n (a_pair p q is i s) = absurd (n p q i.encloses)
    none_only n (a_none is m) = is

    refused : (f : ℕ) → inner_at t k x ≡ Refused f → Answer t k x → (refusal_of t x ≡ f) × (f ≡ 0 → ⊥)
    refused f e (a_pair p q is i s) = absurd (pair_refused (sym is ∙ e))
    refused f e (a_none is n) = absurd (none_refused (sym is ∙ e))

    numbered : (f : ℕ) → Refused (refusal_of t x) ≡ Refused f → (refusal_of t x ≡ 0 → ⊥) → (refusal_of t x ≡ f) × (f ≡ 0 → ⊥)
    numbered f e n = let so : refusal_of t x ≡ f = cc in (so, λ z. n (so ∙ z))
