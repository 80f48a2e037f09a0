-- Laws of the eight brackets: what `side_of` says, that the two of a kind differ, and that none is a separator.
-- Assumes nothing.
use Rattle.lists.proofs.Kit.{◌≡◌, refl, sym, ◌∙◌, ap, subst, List, Bool, true, false, cond, ℕ, ◌+◌, arith, get_or, eqb, eqb-true, eqb-false}
use Rattle.bracket_kinds.specs.declared.Kind.{Kind}
use Rattle.bracket_kinds.specs.declared.Kind.TheVariants.{Round, Square, Curly, Angle}
use Rattle.bracket_kinds.specs.declared.Side.{Side}
use Rattle.bracket_kinds.specs.declared.Side.TheVariants.{Open, Close, Neither}
use Rattle.bracket_walks.specs.declared.Partner.{Partner}
use Rattle.bracket_walks.specs.declared.Partner.TheVariants.{None}
use Rattle.bracket_kinds.specs.Kinds.{open_of, close_of, side_of}
use Rattle.bracket_walks.specs.Matching.{close_from, open_below, nearest_of, partner_of, placed}
use Rattle.bracket_walks.specs.Walk.{Starts, Goes, Hands}
use Rattle.text.specs.declared.Line.{Line}
use Rattle.text.proofs.Stands.{step_char}
use Rattle.bracket_walks.proofs.Deep.{forward_deep, backward_deep}

pub side_open : (k : Kind) → side_of (open_of k) ≡ Open k
unfolding side_of
side_open Round = refl
side_open Square = refl
side_open Curly = refl
side_open Angle = refl

pub side_close : (k : Kind) → side_of (close_of k) ≡ Close k
unfolding side_of
side_close Round = refl
side_close Square = refl
side_close Curly = refl
side_close Angle = refl

abbrev Not : ℕ → ℕ → Type 0
Not x n = x ≡ n → ⊥

-- a side that is told of a code point holds of it
abbrev pub SideIs : ℕ → Side → Type 0
SideIs x (Open k) = x ≡ open_of k
SideIs x (Close k) = x ≡ close_of k
SideIs x Neither = (k : Kind) → Not x (open_of k) × Not x (close_of k)

pub side_told : (x : ℕ) → SideIs x (side_of x)
unfolding side_of
side_told x = go (eqb x 40) (eqb x 41) (eqb x 91) (eqb x 93) (eqb x 123) (eqb x 125) (eqb x 60) (eqb x 62) refl refl refl refl refl refl refl refl
  where
    none : Not x 40 → Not x 41 → Not x 91 → Not x 93 → Not x 123 → Not x 125 → Not x 60 → Not x 62 → (k : Kind) → Not x (open_of k) × Not x (close_of k)
    none a b c d e f g h Round = (a, b)
    none a b c d e f g h Square = (c, d)
    none a b c d e f g h Curly = (e, f)
    none a b c d e f g h Angle = (g, h)

    go : (a b c d e f g h : Bool) → eqb x 40 ≡ a → eqb x 41 ≡ b → eqb x 91 ≡ c → eqb x 93 ≡ d → eqb x 123 ≡ e → eqb x 125 ≡ f → eqb x 60 ≡ g → eqb x 62 ≡ h
        → SideIs x (cond a (Open Round) (cond b (Close Round) (cond c (Open Square) (cond d (Close Square) (cond e (Open Curly) (cond f (Close Curly)
        (cond g (Open Angle) (cond h (Close Angle) Neither))))))))
    go true b c d e f g h p q r s t u v w = eqb-true x 40 p
    go false true c d e f g h p q r s t u v w = eqb-true x 41 q
    go false false true d e f g h p q r s t u v w = eqb-true x 91 r
    go false false false true e f g h p q r s t u v w = eqb-true x 93 s
    go false false false false true f g h p q r s t u v w = eqb-true x 123 t
    go false false false false false true g h p q r s t u v w = eqb-true x 125 u
    go false false false false false false true h p q r s t u v w = eqb-true x 60 v
    go false false false false false false false true p q r s t u v w = eqb-true x 62 w
    go false false false false false false false false p q r s t u v w =
        none (eqb-false x 40 p) (eqb-false x 41 q) (eqb-false x 91 r) (eqb-false x 93 s) (eqb-false x 123 t) (eqb-false x 125 u)
        (eqb-false x 60 v) (eqb-false x 62 w)

-- an open is no close
pub hands_differ : (k l : Kind) → open_of k ≡ close_of l → ⊥
hands_differ k l e = let never : Open k ≡ Close l = sym (side_open k) ∙ ap side_of e ∙ side_close l in let nonsense : ◌≡◌ {A = ℕ} 0 1 = cc in omega arith

-- the two brackets of a kind differ, and neither is a separator
pub differ : (k : Kind) → open_of k ≡ close_of k → ⊥
differ k = hands_differ k k

pub hands : (k : Kind) → Hands (open_of k) (close_of k)
hands Round = record { differ = differ Round; open_char = λ e. omega arith; close_char = λ e. omega arith }
hands Square = record { differ = differ Square; open_char = λ e. omega arith; close_char = λ e. omega arith }
hands Curly = record { differ = differ Curly; open_char = λ e. omega arith; close_char = λ e. omega arith }
hands Angle = record { differ = differ Angle; open_char = λ e. omega arith; close_char = λ e. omega arith }

-- what `partner` hands to the walks, and what it makes of their answers
module _ (t : List ℕ) (i : ℕ) {l : Line} (s : Starts t l i) (k : Kind) {o c : ℕ} (p : o ≡ open_of k) (q : c ≡ close_of k) where
  module _ (e : side_of (get_or t i 0) ≡ Open k) where
    opens : get_or t i 0 ≡ o
    opens = subst (SideIs (get_or t i 0)) e (side_told (get_or t i 0)) ∙ sym p

    pub open_asked : Goes t l.row l.start (i + 1) 1 × Hands o c
    open_asked =
        let hands_here : Hands o c = rw (p, q) (hands k) in (
          record {
            stands = step_char s.stands s.inside (λ n. hands_here.open_char (sym opens ∙ n));
            short = s.short;
            deep = omega arith;
            bound = omega arith;
          },
          hands_here,
        )

    pub open_answer : {r : Partner} → r ≡ placed t (close_from o c t (i + 1) 1) → r ≡ placed t (partner_of t i)
    unfolding nearest_of
    open_answer h = h ∙ ap (placed t) (sym (forward_deep o c t (rw (p, q) (hands k)) i s.inside opens)) ∙ rw (p, q, e)

  module _ (e : side_of (get_or t i 0) ≡ Close k) where
    closes : get_or t i 0 ≡ c
    closes = subst (SideIs (get_or t i 0)) e (side_told (get_or t i 0)) ∙ sym q

    pub close_asked : Goes t l.row l.start i 1 × Hands o c
    close_asked = (record { stands = s.stands; short = s.short; deep = omega arith; bound = omega arith }, rw (p, q) (hands k))

    pub close_answer : {r : Partner} → r ≡ placed t (open_below o c t i 1) → r ≡ placed t (partner_of t i)
    unfolding nearest_of
    close_answer h = h ∙ ap (placed t) (sym (backward_deep o c t (rw (p, q) (hands k)) i s.inside closes)) ∙ rw (p, q, e)

pub no_answer : (t : List ℕ) (i : ℕ) → side_of (get_or t i 0) ≡ Neither → None ≡ placed t (partner_of t i)
unfolding nearest_of placed
no_answer t i e = rw e
