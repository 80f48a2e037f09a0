-- After any run of edits, refused ones among them, the page is accepted, and its text is the list that the run leaves: every later call answers as on
-- that list. Assumes nothing.
use Rattle.lists.proofs.Kit.{◌≡◌, sym, ap, ◌∙◌, subst, List, [], ◌∷◌, ℕ, ℕ_discrete, eq-eqb, ne_eqb}
use Rattle.motions.specs.Carets.{here}
use Rattle.edits.specs.Edits.{new_text}
use Rattle.edit_laws.specs.Laws.{Accepted, Sound}
use Rattle.edit_laws.specs.Runs.{Page, Step, text_of, folds_of, refusal_at, edited, page_after, page_run, PageGood, RunsOn}
use Rattle.edit_laws.proofs.After.{edit_sound}

module _ (g : Page) (e : Step) where
  sound : refusal_at g e ≡ 0 → Sound g.buf g.fold g.sizes e.from e.to e.points g.caret
  sound z = edit_sound g.buf g.fold g.sizes e.from e.to e.points g.caret z

  done : refusal_at g e ≡ 0 → page_after g e ≡ edited g e
  unfolding page_after
  done z = rw (eq-eqb (refusal_at g e) 0 z)

  kept : (refusal_at g e ≡ 0 → ⊥) → page_after g e ≡ g
  unfolding page_after
  kept n = rw (ne_eqb (refusal_at g e) 0 n)

  good_edited : refusal_at g e ≡ 0 → PageGood (edited g e)
  good_edited z =
      let by_sound = sound z in
      subst (λ (t : List ℕ). Accepted t (folds_of (edited g e)) (here (edited g e).caret)) (sym by_sound.text_held)
      (subst (λ (f : List ℕ). Accepted (new_text g.buf g.sizes e.from e.to e.points) f (here (edited g e).caret)) (sym by_sound.folds_held)
      by_sound.accepted)

  pub good_after : PageGood g → PageGood (page_after g e)
  good_after h = go (ℕ_discrete (refusal_at g e) 0)
    where
      go : Dec (refusal_at g e ≡ 0) → PageGood (page_after g e)
      go (yes z) = subst PageGood (sym (done z)) (good_edited z)
      go (no n) = subst PageGood (sym (kept n)) h

  pub runs_on : RunsOn g e
  runs_on = record { accepted = λ z. ap text_of (done z) ∙ (sound z).text_held; refused = kept }

pub kept_run : (g : Page) (l : List Step) → PageGood g → PageGood (page_run g l)
unfolding page_run
kept_run g [] h = h
kept_run g (e ∷ l) h = kept_run (page_after g e) l (good_after g e h)
