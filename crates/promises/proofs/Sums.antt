-- Two calls against one, by their refusals and the carets that they lead to: no check looks at a count, and a caret in the text is taken as the first one was.
-- Assumes nothing.
use Rattle.lists.proofs.Kit.{◌≡◌, ap, sym, ◌∙◌, List, ◌∷◌, ℕ, ℕ_discrete, arith, eq-eqb, ne_eqb}
use Rattle.text_check.specs.Accept.{text_refusal}
use Rattle.positions.specs.Positions.{lowest}
use Rattle.positions.proofs.Lowest.{lowest_other}
use Rattle.positions.proofs.Checks.{inside_taken}
use Rattle.motions.specs.declared.Caret.{Caret}
use Rattle.motions.specs.declared.Moved.TheVariants.{To, Refused}
use Rattle.motions.specs.Carets.{here, caret_refusal, moving, Inside}
use Rattle.promises.specs.CountsAdd.{Sums}

pub to_once : {j k : Caret} → To j ≡ To k → j ≡ k
to_once e = cc

to_refused : {k : Caret} {f : ℕ} → To k ≡ Refused f → ⊥
to_refused e = let never : ◌≡◌ {A = ℕ} 0 1 = cc in omega arith

pub moving_yes : (f : ℕ) (c : Caret) → f ≡ 0 → moving f c ≡ To c
unfolding moving
moving_yes f c z = rw (eq-eqb f 0 z)

moving_no : (f : ℕ) (c : Caret) → (f ≡ 0 → ⊥) → moving f c ≡ Refused f
unfolding moving
moving_no f c n = rw (ne_eqb f 0 n)

-- a call with refusal f that leads to `first`, or to `once` by the sum of the counts; the second has its own refusal, by its caret
pub moving_sums : (f : ℕ) (first once : Caret) (refusal : Caret → ℕ) (second : Caret → Caret) →
    (f ≡ 0 → (refusal first ≡ 0) × (second first ≡ once)) → Sums (moving f first) (λ c. moving (refusal c) (second c)) (moving f once)
moving_sums f first once refusal second h = go (ℕ_discrete f 0)
  where
    go : Dec (f ≡ 0) → Sums (moving f first) (λ c. moving (refusal c) (second c)) (moving f once)
    go (yes z) = record {
      accepted = λ c e.
          let same : first ≡ c = to_once (sym (moving_yes f first z) ∙ e) in
          record {
            caret = once;
            twice_there = ap (λ (x : Caret). moving (refusal x) (second x)) (sym same) ∙ moving_yes (refusal first) (second first) (h z).0 ∙ ap To (h z).1;
            once_there = moving_yes f once z;
          };
      refused = λ g e. absurd (to_refused (sym (moving_yes f first z) ∙ e));
    }
    go (no n) = record {
      accepted = λ c e. absurd (to_refused (sym e ∙ moving_no f first n));
      refused = λ g e. moving_no f once n ∙ sym (moving_no f first n) ∙ e;
    }

-- the checks of text and caret, and others that don't look at the caret: a caret in the text is taken as the first one was
pub taken : (t : List ℕ) (k c : Caret) (rest : List ℕ) → lowest (text_refusal t ∷ caret_refusal t k ∷ rest) ≡ 0 → Inside t c →
    lowest (text_refusal t ∷ caret_refusal t c ∷ rest) ≡ 0
taken t k c rest z i = lowest_other (text_refusal t) (caret_refusal t k) (caret_refusal t c) rest z (inside_taken t (here c) i)
