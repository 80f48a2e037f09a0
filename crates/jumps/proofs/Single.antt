-- One jump is the single call of its kind: from a caret in the text, where text, folds and list are accepted, no single call is refused, and it
-- leads to where the jump on positions leads to, which is in the text again. By induction over the list a run of jumps is the single calls in turn.
-- Assumes nothing.
use Rattle.lists.proofs.Kit.{◌≡◌, refl, ap, List, [], ◌∷◌, Bool, true, false, cond, ℕ, ◌≤◌, ℕ_discrete, arith, length, eqb, ltb, ltb-false}
use Rattle.text_check.specs.Accept.{text_refusal}
use Rattle.text.specs.Text.{row_count}
use Rattle.text.specs.declared.Position.{Position}
use Rattle.folds.specs.Folds.{fold_refusal}
use Rattle.list_tokens.specs.Tokens.{in_list}
use Rattle.keywords.specs.Table.{parse_of}
use Rattle.positions.specs.Positions
use Rattle.positions.specs.Positions.{lowest}
use Rattle.positions.proofs.Checks.{inside_taken}
use Rattle.bracket_walks.specs.declared.Partner.{Partner}
use Rattle.bracket_walks.specs.declared.Partner.TheVariants.{There, None, Refused as Partner-as-Refused}
use Rattle.brackets.specs.Find.{key_from}
use Rattle.bracket_laws.proofs.Jump.{key_goes}
use Rattle.word_kinds.specs.Places.{kind_of}
use Rattle.word_loops.proofs.Within.{In}
use Rattle.word_rounds.specs.declared.Motion.{Motion}
use Rattle.word_rounds.specs.declared.Motion.TheVariants.{Fwd, Back, End}
use Rattle.word_rounds.specs.Rounds.{word_motion}
use Rattle.word_rounds.proofs.Inside.{word_motion_in}
use Rattle.motions.specs.declared.Caret.{Caret}
use Rattle.motions.specs.declared.Moved.TheVariants.{To}
use Rattle.motions.specs.Carets.{here, put, moving, caret_after}
use Rattle.motions.specs.WordMoves.{word_caret, move_word}
use Rattle.motions.specs.Finds.{partner_to, seeking, match_bracket}
use Rattle.motions.specs.Going.{landed}
use Rattle.jumps.specs.Jumps.{jumped, places_after, caret_at_end, kind_refusal}
use Rattle.jumps.specs.Leaps.{motion_of, on_partner, leapt, leap_places, leap_end}

-- a list whose kinds are in order: its first jump, and the rest
pub kinds_first : (kind count : ℕ) (jumps : List ℕ) → kind_refusal (kind ∷ count ∷ jumps) ≡ 0 → (kind ≤ 3) × (kind_refusal jumps ≡ 0)
unfolding kind_refusal
kinds_first kind count jumps z = go (ltb 3 kind) refl z
  where
    go : (b : Bool) → ltb 3 kind ≡ b → cond b 22 (kind_refusal jumps) ≡ 0 → (kind ≤ 3) × (kind_refusal jumps ≡ 0)
    go true p q = absurd (omega (arith, q))
    go false p q = (ltb-false 3 kind p, q)

pub kinds_one : (kind : ℕ) → kind_refusal (kind ∷ []) ≡ 0 → ⊥
unfolding kind_refusal
kinds_one kind z = omega (arith, z)

-- the caret that `%` leaves
partner_caret : (k : Caret) (x : Partner) → ((f : ℕ) → x ≡ Partner-as-Refused f → ⊥) → caret_after k (landed (partner_to k x)) ≡ put k (on_partner (here k) x)
unfolding partner_to
partner_caret k (There q) n = refl
partner_caret k None n = refl
partner_caret k (Partner-as-Refused f) n = absurd (n f refl)

module _ (t folds list : List ℕ) (clear : text_refusal t ≡ 0) (good : fold_refusal folds (row_count t) ≡ 0) (listed : (parse_of list).refusal ≡ 0) where
  class : ℕ → ℕ
  class = kind_of (in_list list) false

  -- the single calls, which nothing refuses
  module _ (k : Caret) (i : Positions.Inside t (here k)) where
    word_single : (m : Motion) (count : ℕ) → move_word t folds list false m false count k ≡ To (word_caret t folds (in_list list) false m false count k)
    unfolding moving lowest
    word_single m count = rw (clear, inside_taken t (here k) i, good, listed)

    key_single : caret_after k (landed (match_bracket t k)) ≡ put k (on_partner (here k) (key_from t k.row k.col))
    unfolding seeking lowest
    key_single = rw (clear, inside_taken t (here k) i) (partner_caret k (key_from t k.row k.col) ((key_goes t clear).answers k.row k.col))

    pub single : (kind count : ℕ) → kind ≤ 3 → jumped t folds list kind count k ≡ put k (leapt t folds (kind_of (in_list list) false) kind count (here k))
    unfolding leapt motion_of
    single kind count h = go (ℕ_discrete kind 0) (ℕ_discrete kind 1) (ℕ_discrete kind 2)
      where
        go : Dec (kind ≡ 0) → Dec (kind ≡ 1) → Dec (kind ≡ 2) →
            jumped t folds list kind count k ≡ put k (leapt t folds (kind_of (in_list list) false) kind count (here k))
        go (yes e) b c = rw e (ap (caret_after k) (word_single Fwd count))
        go (no n) (yes e) c = rw e (ap (caret_after k) (word_single Back count))
        go (no n) (no m) (yes e) = rw e (ap (caret_after k) (word_single End count))
        go (no n) (no m) (no l) =
            let kind_is : kind ≡ 3 = omega (arith, h, n, m, l) in
            rw kind_is key_single

  -- where a jump leads to is in the text
  partner_in : (p : Position) → Positions.Inside t p → (x : Partner) → key_from t p.row p.col ≡ x → Positions.Inside t (on_partner p x)
  partner_in p i (There q) e =
      let to = ((key_goes t clear).lands p.row p.col q e).partner.to in
      record { in_row = to.in_row; in_col = omega (arith, to.in_col) }
  partner_in p i None e = i
  partner_in p i (Partner-as-Refused f) e = i

  word_in : (m : Motion) (count : ℕ) (p : Position) → Positions.Inside t p →
      Positions.Inside t (word_motion t folds (kind_of (in_list list) false) false m false count p)
  word_in m count p i =
      let inside : In t (word_motion t folds (kind_of (in_list list) false) false m false count p) =
      word_motion_in t folds (kind_of (in_list list) false) false m false count p (record { in_row = i.in_row; in_col = i.in_col }) in
      record { in_row = inside.in_row; in_col = inside.in_col }

  leapt_in : (kind count : ℕ) (p : Position) → Positions.Inside t p → Positions.Inside t (leapt t folds (kind_of (in_list list) false) kind count p)
  unfolding leapt
  leapt_in kind count p i = go (eqb kind 3)
    where
      go : (b : Bool) → Positions.Inside t (cond b (on_partner p (key_from t p.row p.col))
          (word_motion t folds (kind_of (in_list list) false) false (motion_of kind) false count p))
      go true = partner_in p i (key_from t p.row p.col) refl
      go false = word_in (motion_of kind) count p i

  -- a run of jumps: row and column after each, and the caret after the last
  pub places_in_turn : (jumps : List ℕ) (k : Caret) → Positions.Inside t (here k) → kind_refusal jumps ≡ 0 →
      places_after t folds list jumps k ≡ leap_places t folds (kind_of (in_list list) false) jumps (here k)
  unfolding places_after leap_places
  places_in_turn [] k i z = refl
  places_in_turn (kind ∷ []) k i z = refl
  places_in_turn (kind ∷ count ∷ jumps) k i z =
      let by_kinds_first = kinds_first kind count jumps z in
      let leapt_here = leapt t folds (kind_of (in_list list) false) kind count (here k) in
      rw (single k i kind count by_kinds_first.0) (ap (λ (l : List ℕ). leapt_here.row ∷ leapt_here.col ∷ l)
      (places_in_turn jumps (put k leapt_here) (leapt_in kind count (here k) i) by_kinds_first.1))

  caret_from : (jumps : List ℕ) (k : Caret) (p : Position) → Positions.Inside t p → kind_refusal jumps ≡ 0 →
      caret_at_end t folds list jumps (put k p) ≡ put k (leap_end t folds (kind_of (in_list list) false) jumps p)
  unfolding caret_at_end leap_end
  caret_from [] k p i z = refl
  caret_from (kind ∷ []) k p i z = refl
  caret_from (kind ∷ count ∷ jumps) k p i z =
      let by_kinds_first = kinds_first kind count jumps z in
      rw (single (put k p) i kind count by_kinds_first.0)
      (caret_from jumps k (leapt t folds (kind_of (in_list list) false) kind count p) (leapt_in kind count p i) by_kinds_first.1)

  pub caret_in_turn : (jumps : List ℕ) (k : Caret) → Positions.Inside t (here k) → kind_refusal jumps ≡ 0 → (length jumps ≡ 0 → ⊥) →
      caret_at_end t folds list jumps k ≡ put k (leap_end t folds (kind_of (in_list list) false) jumps (here k))
  unfolding caret_at_end leap_end
  caret_in_turn [] k i z n = absurd (n refl)
  caret_in_turn (kind ∷ []) k i z n = absurd (kinds_one kind z)
  caret_in_turn (kind ∷ count ∷ jumps) k i z n =
      let by_kinds_first = kinds_first kind count jumps z in
      rw (single k i kind count by_kinds_first.0)
      (caret_from jumps k (leapt t folds (kind_of (in_list list) false) kind count (here k)) (leapt_in kind count (here k) i) by_kinds_first.1)
