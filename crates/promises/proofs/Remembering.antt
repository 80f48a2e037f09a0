-- What the screen moves that remember do with the offset, and that every other motion clears it. Assumes nothing.
use Rattle.lists.proofs.Kit.{◌≡◌, refl, ap, sym, subst, List, Bool, true, false, cond, ℕ, max, arith, eqb, Option, Some, None}
use Rattle.lists.specs.Rounds.{rounds}
use Rattle.chars.specs.White.{is_white}
use Rattle.widths.specs.declared.Ambiguous.{Ambiguous}
use Rattle.widths.specs.Widths.{width_as}
use Rattle.bracket_walks.specs.declared.Partner.{Partner}
use Rattle.bracket_walks.specs.declared.Partner.TheVariants.{There, None as Partner-as-None, Refused as Partner-as-Refused}
use Rattle.row_wrap.specs.declared.Wrap.{Wrap}
use Rattle.row_wrap.specs.Modes.{segments_of}
use Rattle.screen.specs.declared.Kept.{Kept}
use Rattle.screen.specs.Screen.{step_screen, jumped}
use Rattle.screen.specs.Keeping.{move_screen_kept}
use Rattle.screen.proofs.Keeping.{absent_target}
use Rattle.motions.specs.declared.Caret.{Caret}
use Rattle.motions.specs.declared.Move.{Move}
use Rattle.motions.specs.declared.Move.TheVariants.{By, Word, Rows, Screen, ScreenKept, Viewport, Bracket, Find}
use Rattle.motions.specs.declared.Moved.{Moved}
use Rattle.motions.specs.declared.Moved.TheVariants.{To, Refused}
use Rattle.motions.specs.declared.Sought.{Sought}
use Rattle.motions.specs.declared.Sought.TheVariants.{Refused as Sought-as-Refused}
use Rattle.motions.specs.Carets.{here, moving}
use Rattle.motions.specs.Finds.{partner_to, lands_on, seeking}
use Rattle.motions.specs.UpDown.{vertical_refusal, at_target, at_kept}
use Rattle.motions.specs.Going.{landed, moved_by}
use Rattle.motions.proofs.Landing.{moving_to}
use Rattle.promises.specs.Remembering.{Forgets, forgotten, unbroken, own_offset, Remembering}

-- an answer with no offset
abbrev Clears : Moved → Type 0
Clears m = (c : Caret) → m ≡ To c → c.offset ≡ None

moving_clears : (f : ℕ) (m : Caret) → m.offset ≡ None → Clears (moving f m)
moving_clears f m e = moving_to (λ c. c.offset ≡ None) f m (λ z. e)

to_clears : (k : Caret) → k.offset ≡ None → Clears (To k)
to_clears k e c q = let same : k ≡ c = cc in subst (λ (x : Caret). x.offset ≡ None) same e

number_clears : (f : ℕ) → Clears (Refused f)
number_clears f c q = let never : ◌≡◌ {A = ℕ} 0 1 = cc in absurd (omega arith)

seeking_clears : (f : ℕ) (s : Sought) → Clears (landed s) → Clears (landed (seeking f s))
unfolding seeking
seeking_clears f s h = go (eqb f 0)
  where
    go : (b : Bool) → Clears (landed (cond b s (Sought-as-Refused f)))
    go true = h
    go false = number_clears f

partner_clears : (k : Caret) (p : Partner) → Clears (landed (partner_to k p))
unfolding partner_to
partner_clears k (There q) = to_clears _ refl
partner_clears k Partner-as-None = to_clears _ refl
partner_clears k (Partner-as-Refused f) = number_clears f

lands_clears : (k : Caret) (f : Option ℕ) → Clears (landed (lands_on k f))
unfolding lands_on
lands_clears k (Some i) = to_clears _ refl
lands_clears k None = to_clears _ refl

forgotten_moving : (f : ℕ) (p : Kept) → forgotten (moving f (at_kept p)) ≡ moving f (at_target p.target)
unfolding moving
forgotten_moving f p = go (eqb f 0)
  where
    go : (b : Bool) → forgotten (cond b (To (at_kept p)) (Refused f)) ≡ cond b (To (at_target p.target)) (Refused f)
    go true = refl
    go false = refl

module _ (t folds list : List ℕ) (tabstop n : ℕ) (k : Caret) where
  others : (move : Move) → Forgets move → Clears (moved_by t folds list tabstop move n k)
  others (By w) a = moving_clears _ _ refl
  others (Word m big stop) a = moving_clears _ _ refl
  others (Rows down w) a = moving_clears _ _ refl
  others (Screen mode width down w) a = moving_clears _ _ refl
  others (ScreenKept mode width down w) a = absurd a
  others (Viewport edge top height offset) a = moving_clears _ _ refl
  others Bracket a = seeking_clears _ _ (partner_clears k _)
  others (Find x forward till skip) a = seeking_clears _ _ (lands_clears k _)

  module _ (a : Ambiguous) (mode : Wrap) (width : ℕ) (down : Bool) where
    abbrev to : Option ℕ → Kept
    to offset = move_screen_kept (width_as a) t folds tabstop mode width down n k.row k.col k.sticky offset

    as_before : k.offset ≡ None →
        forgotten (moved_by t folds list tabstop (ScreenKept mode width down a) n k) ≡ moved_by t folds list tabstop (Screen mode width down a) n k
    as_before e =
        let vertical_refusal_lem = vertical_refusal t folds tabstop k in
        subst (λ (o : Option ℕ). forgotten (moving vertical_refusal_lem (at_kept (to o))) ≡ moved_by t folds list tabstop (Screen mode width down a) n k) (sym e)
        (rw (forgotten_moving vertical_refusal_lem (to None))
        (ap (λ p. moving vertical_refusal_lem (at_target p)) (absent_target (width_as a) t folds tabstop mode width down n k.row k.col k.sticky)))

    -- what holds of the caret that a move by an offset leads to
    led : (P : Caret → Type 0) (o : Option ℕ) → k.offset ≡ o → P (at_kept (to o)) → (c : Caret) →
        moved_by t folds list tabstop (ScreenKept mode width down a) n k ≡ To c → P c
    led P o e h = moving_to P (vertical_refusal t folds tabstop k) (at_kept (to k.offset)) (λ z. subst (λ (x : Option ℕ). P (at_kept (to x))) (sym e) h)

    set : unbroken mode width ≡ false → k.offset ≡ None → (c : Caret) → moved_by t folds list tabstop (ScreenKept mode width down a) n k ≡ To c →
        c.offset ≡ Some (own_offset a t mode width (jumped t folds down (here k)))
    set b e = led (λ c. c.offset ≡ Some (own_offset a t mode width (jumped t folds down (here k)))) None e (rw b)

    kept : unbroken mode width ≡ false → (x : ℕ) → k.offset ≡ Some x → (c : Caret) → moved_by t folds list tabstop (ScreenKept mode width down a) n k ≡ To c →
        c.offset ≡ Some x
    kept b x e = led (λ c. c.offset ≡ Some x) (Some x) e (rw b)

    from_itself : unbroken mode width ≡ false → (x : ℕ) → k.offset ≡ Some x → (c : Caret) →
        moved_by t folds list tabstop (ScreenKept mode width down a) n k ≡ To c →
        here c ≡ rounds (step_screen t folds (segments_of (width_as a) is_white mode width) down x) (max n 1) (here k)
    from_itself b x e = led (λ c. here c ≡ rounds (step_screen t folds (segments_of (width_as a) is_white mode width) down x) (max n 1) (here k)) (Some x) e (rw b)

    as_rows : unbroken mode width ≡ true → moved_by t folds list tabstop (ScreenKept mode width down a) n k ≡ moved_by t folds list tabstop (Rows down a) n k
    as_rows b = rw b

  pub remembering : Remembering t folds list tabstop n k
  remembering =
      record {
        others = others;
        as_before = as_before;
        set = λ a mode width down c b e. set a mode width down b e c;
        kept = λ a mode width down x c b e. kept a mode width down b x e c;
        from_itself = λ a mode width down x c b e. from_itself a mode width down b x e c;
        as_rows = as_rows;
      }
