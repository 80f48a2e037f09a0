-- Laws over every move: what it answers is the refusal of its checks, or what its walk answers. Assumes nothing.
use Rattle.lists.proofs.Kit.{◌≡◌, refl, ap, sym, ◌∙◌, List, [], ◌∷◌, Bool, true, false, cond, ℕ, eqb}
use Rattle.text_check.specs.Accept.{text_refusal}
use Rattle.text.specs.Text.{row_count}
use Rattle.folds.specs.Folds.{fold_refusal}
use Rattle.list_tokens.specs.Tokens.{in_list}
use Rattle.keywords.specs.Table.{parse_of}
use Rattle.positions.specs.declared.Entry.{Entry}
use Rattle.positions.specs.Positions.{or_folds}
use Rattle.positions.proofs.Lowest.{lowest_then}
use Rattle.positions.proofs.Checks.{entry_number}
use Rattle.positions.proofs.Entered.{sought_number, folds_number}
use Rattle.motions.specs.declared.Caret.{Caret}
use Rattle.motions.specs.declared.Move.{Move}
use Rattle.motions.specs.declared.Move.TheVariants.{By, Word, Rows, Screen, ScreenKept, Viewport, Bracket, Find}
use Rattle.motions.specs.declared.Moved.{Moved}
use Rattle.motions.specs.declared.Moved.TheVariants.{To, Refused}
use Rattle.motions.specs.declared.Sought.{Sought}
use Rattle.motions.specs.declared.Sought.TheVariants.{Found, Refused as Sought-as-Refused}
use Rattle.motions.specs.Carets.{here, caret_refusal, entry_of, moving}
use Rattle.motions.specs.WordMoves.{folds_of, word_refusal, word_caret}
use Rattle.motions.specs.Finds.{seeking}
use Rattle.motions.specs.Checks.{checked}
use Rattle.motions.specs.Going.{found, landed, moved_by, goes, walks}
use Rattle.motions.proofs.Checked.{stop_number}

found_moving : (f : ℕ) (c : Caret) → found (moving f c) ≡ seeking f (Found c)
unfolding moving seeking
found_moving f c = go (eqb f 0)
  where
    go : (b : Bool) → found (cond b (To c) (Refused f)) ≡ cond b (Found c) (Sought-as-Refused f)
    go true = refl
    go false = refl

landed_found : (m : Moved) → landed (found m) ≡ m
landed_found (To k) = refl
landed_found (Refused f) = refl

-- one more check after a refusal f, or none
seeking_then : (f d : ℕ) (s : Sought) → seeking (cond (eqb f 0) d f) s ≡ seeking f (seeking d s)
unfolding seeking
seeking_then f d s = go (eqb f 0) refl
  where
    go : (b : Bool) → eqb f 0 ≡ b → seeking (cond b d f) s ≡ cond b (seeking d s) (Sought-as-Refused f)
    go true p = refl
    go false p = rw p

module _ (t folds list : List ℕ) (tabstop : ℕ) (n : ℕ) (k : Caret) (e : Entry) (is : e ≡ entry_of t k) where
  -- the number of the checks is the call's
  numbered : {f g : ℕ} (s : Sought) → g ≡ f → seeking f s ≡ seeking g s
  numbered s q = ap (λ (x : ℕ). seeking x s) (sym q)

  -- text, caret and folds, and then the list
  listed : (own : List ℕ) (s : Sought) → seeking (word_refusal t own list k) s ≡ seeking (or_folds e own) (seeking (parse_of list).refusal s)
  listed own s = numbered s (lowest_then (text_refusal t ∷ caret_refusal t k ∷ fold_refusal own (row_count t) ∷ []) (parse_of list).refusal)
      ∙ seeking_then _ (parse_of list).refusal s ∙ numbered (seeking (parse_of list).refusal s) (folds_number t (here k) e is own)

  pub goes_by : (m : Move) → goes t folds list tabstop m n k ≡ seeking (checked e folds tabstop m) (walks t folds list tabstop m n k)
  goes_by (By w) = found_moving _ _ ∙ numbered _ (entry_number t (here k) e is)
  goes_by (Word m big stop) = found_moving _ _ ∙ listed (folds_of m folds) (Found (word_caret t (folds_of m folds) (in_list list) big m stop n k))
  goes_by (Rows down a) = found_moving _ _ ∙ numbered _ (stop_number t folds tabstop k e is)
  goes_by (Screen mode width down a) = found_moving _ _ ∙ numbered _ (stop_number t folds tabstop k e is)
  goes_by (ScreenKept mode width down a) = found_moving _ _ ∙ numbered _ (stop_number t folds tabstop k e is)
  goes_by (Viewport edge top height offset) = found_moving _ _ ∙ numbered _ (entry_number t (here k) e is)
  goes_by Bracket = numbered _ (entry_number t (here k) e is)
  goes_by (Find x forward till skip) = numbered _ (sought_number t (here k) e is x)

module _ (t folds list : List ℕ) (tabstop : ℕ) (n : ℕ) (k : Caret) where
  pub landed_goes : (m : Move) → landed (goes t folds list tabstop m n k) ≡ moved_by t folds list tabstop m n k
  landed_goes (By w) = landed_found _
  landed_goes (Word motion big stop) = landed_found _
  landed_goes (Rows down a) = landed_found _
  landed_goes (Screen mode width down a) = landed_found _
  landed_goes (ScreenKept mode width down a) = landed_found _
  landed_goes (Viewport edge top height offset) = landed_found _
  landed_goes Bracket = refl
  landed_goes (Find x forward till skip) = refl
