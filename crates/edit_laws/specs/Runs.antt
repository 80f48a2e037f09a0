-- A run of edits on one page, refused ones among them. Definitions only; `kept_run` is in `proofs/Running.antt`. Assumes nothing.
use Rattle.std.specs.Prelude.{ℕ, ◌*◌, ◌≡◌, List, [], ◌∷◌, cond, eqb, take}
use Rattle.text.specs.declared.Position.{Position}
use Rattle.motions.specs.declared.Caret.{Caret}
use Rattle.motions.specs.Carets.{here}
use Rattle.edit_places.specs.Replaced.{refilled}
use Rattle.edit_checks.specs.declared.Sizes.{Sizes}
use Rattle.edits.specs.Edits.{new_text, new_folds, left_of, refusal_of}
use Rattle.edit_laws.specs.Laws.{Accepted}

-- a text and its folds in two buffers, how much of these they take, and a caret
pub record Page : Type 0 where
  pub buf : List ℕ
  pub fold : List ℕ
  pub sizes : Sizes
  pub caret : Caret

-- an edit: the stretch from `from` up to `to` gives way to `points`
pub record Step : Type 0 where
  pub from : Position
  pub to : Position
  pub points : List ℕ

-- the text and the folds of a page
abbrev pub text_of : Page → List ℕ
text_of g = take g.sizes.len g.buf

abbrev pub folds_of : Page → List ℕ
folds_of g = take (3 * g.sizes.count) g.fold

abbrev pub refusal_at : Page → Step → ℕ
refusal_at g e = refusal_of g.buf g.fold g.sizes e.from e.to e.points g.caret

-- the page that an accepted edit leaves
abbrev pub edited : Page → Step → Page
edited g e =
    let l = left_of g.buf g.fold g.sizes e.from e.to e.points g.caret in
    record {
      buf = refilled g.buf g.sizes.len (new_text g.buf g.sizes e.from e.to e.points);
      fold = refilled g.fold (3 * g.sizes.count) (new_folds g.fold g.sizes e.from e.to e.points);
      sizes = l.sizes;
      caret = l.caret;
    }

-- an edit that is refused leaves the page as it was
unfoldable pub page_after : Page → Step → Page
page_after g e = cond (eqb (refusal_at g e) 0) (edited g e) g

unfoldable pub page_run : Page → List Step → Page
page_run g [] = g
page_run g (e ∷ l) = page_run (page_after g e) l

-- a page whose text, folds and caret no call refuses with 1 to 5
abbrev pub PageGood : Page → Type 0
PageGood g = Accepted (text_of g) (folds_of g) (here g.caret)

-- what one edit makes of the text: where it is accepted, the stretch has given way in it, and what the buffer holds of it is that list
pub record RunsOn (g : Page) (e : Step) : Type 0 where
  pub accepted : refusal_at g e ≡ 0 → text_of (page_after g e) ≡ new_text g.buf g.sizes e.from e.to e.points
  pub refused : (refusal_at g e ≡ 0 → ⊥) → page_after g e ≡ g
