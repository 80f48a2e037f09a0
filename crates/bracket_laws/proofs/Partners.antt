-- Partners of any kind, on offsets: that a bracket is of one kind, the way back, that a partner is a code point of the text, and the
-- partner of an open.
-- Assumes nothing.
use Rattle.lists.proofs.Kit.{◌≡◌, sym, ◌∙◌, ap, subst, List, ◌⊎◌, inl, inr, ℕ, ◌<◌, arith, length, get_or}
use Rattle.bracket_kinds.specs.declared.Kind.{Kind}
use Rattle.bracket_kinds.specs.declared.Side.TheVariants.{Open, Close}
use Rattle.bracket_kinds.specs.Kinds.{open_of, close_of, side_of}
use Rattle.bracket_laws.specs.Pairs.{Forward, IsPartner, forward, backward}
use Rattle.bracket_walks.proofs.Sides.{hands, side_open, side_close, hands_differ}
use Rattle.bracket_laws.proofs.Pairs.{forward_back, backward_forward}

-- a bracket is of one kind, and of one hand
pub kind_open : (k l : Kind) → open_of k ≡ open_of l → k ≡ l
kind_open k l e = let open_is : Open k ≡ Open l = sym (side_open k) ∙ ap side_of e ∙ side_open l in cc

kind_close : (k l : Kind) → close_of k ≡ close_of l → k ≡ l
kind_close k l e = let close_is : Close k ≡ Close l = sym (side_close k) ∙ ap side_of e ∙ side_close l in cc

pub kind_once : (k l : Kind) {x : ℕ} → (x ≡ open_of k) ⊎ (x ≡ close_of k) → (x ≡ open_of l) ⊎ (x ≡ close_of l) → k ≡ l
kind_once k l (inl e) (inl f) = kind_open k l (sym e ∙ f)
kind_once k l (inl e) (inr f) = absurd (hands_differ k l (sym e ∙ f))
kind_once k l (inr e) (inl f) = absurd (hands_differ l k (sym f ∙ e))
kind_once k l (inr e) (inr f) = kind_close k l (sym e ∙ f)

-- the partner's partner is the bracket itself
pub partner_back : {t : List ℕ} {i j : ℕ} → IsPartner t i j → IsPartner t j i
partner_back (forward k f) = backward k (forward_back f)
partner_back (backward k f) = forward k (backward_forward f)

-- a partner is a code point of the text
pub to_in : {t : List ℕ} {i j : ℕ} → IsPartner t i j → (j < length t) × (get_or t j 0 ≡ 10 → ⊥)
to_in (forward k f) = (f.balanced.inside, λ e. (hands k).close_char (sym f.balanced.closes ∙ e))
to_in (backward k f) = (omega (arith, f.balanced.after, f.balanced.inside), λ e. (hands k).open_char (sym f.balanced.opens ∙ e))

-- the partner of an open of the kind
pub of_kind : (k : Kind) {t : List ℕ} {i j : ℕ} → get_or t i 0 ≡ open_of k → IsPartner t i j → Forward k t i j
of_kind k {t} {i} {j} e (forward l f) = subst (λ (m : Kind). Forward m t i j) (sym (kind_open k l (sym e ∙ f.balanced.opens))) f
of_kind k e (backward l f) = absurd (hands_differ k l (sym e ∙ f.balanced.closes))
