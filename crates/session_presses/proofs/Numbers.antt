-- No key that is known refuses with 0: so 0 stands for an unknown key alone. Assumes nothing.
use Rattle.lists.proofs.Kit.{◌≡◌, refl, sym, ◌∙◌, List, [], ◌∷◌, Bool, true, false, cond, ◌&&◌, ◌||◌, ℕ, ◌+◌, arith, eqb, ltb, eqb-false, Option, Some, None}
use Rattle.text_check.specs.Accept.{text_refusal}
use Rattle.text.specs.Text.{row_count, row_len, row_at}
use Rattle.text.specs.Offsets.{row_start}
use Rattle.bracket_walks.specs.declared.Partner.{Partner}
use Rattle.bracket_walks.specs.declared.Partner.TheVariants.{There, None as Partner-as-None, Refused as Partner-as-Refused}
use Rattle.bracket_walks.specs.Matching.{partner_of, placed}
use Rattle.brackets.specs.Matching.{matching_bracket_pos}
use Rattle.bracket_kinds.specs.Find.{first_bracket}
use Rattle.brackets.specs.Find.{key_to}
use Rattle.lists.specs.Codes.{codes}
use Rattle.lists.specs.Lists.{is_same}
use Rattle.motions.specs.declared.Caret.{Caret}
use Rattle.motions.specs.declared.Move.{Move}
use Rattle.motions.specs.declared.Move.TheVariants.{By, Word, Rows, Screen, ScreenKept, Viewport, Bracket, Find}
use Rattle.motions.specs.declared.Moved.{Moved}
use Rattle.motions.specs.declared.Moved.TheVariants.{To, Refused}
use Rattle.motions.specs.declared.Sought.{Sought}
use Rattle.motions.specs.declared.Sought.TheVariants.{Found as Sought-as-Found, Missing, Refused as Sought-as-Refused}
use Rattle.motions.specs.Carets.{moving, refusal_of}
use Rattle.motions.specs.Finds.{partner_to, lands_on, seeking}
use Rattle.motions.specs.Going.{landed, moved_by}
use Rattle.session_keys.specs.Keys.{Named, two_bytes, word_keys, line_keys, place_keys, table, found, key_of, is_known}
use Rattle.session_presses.specs.declared.Column.{Column}
use Rattle.session_presses.specs.Pressed.{act_of, does, held, acted, pressed}

-- it is none that is refused with 0
abbrev Numbered : Moved → Type 0
Numbered m = m ≡ Refused 0 → ⊥

moves : (f : ℕ) (c : Caret) → Numbered (moving f c)
unfolding moving
moves f c = go (eqb f 0) refl
  where
    go : (b : Bool) → eqb f 0 ≡ b → Numbered (cond b (To c) (Refused f))
    go true p q = let never : ◌≡◌ {A = ℕ} 0 1 = cc in omega arith
    go false p q = let f_is : f ≡ 0 = cc in eqb-false f 0 p f_is

-- the partner of a bracket is refused for its text alone
placed_numbered : (t : List ℕ) (f : Option ℕ) → placed t f ≡ Partner-as-Refused 0 → ⊥
unfolding placed
placed_numbered t (Some j) q = let never : ◌≡◌ {A = ℕ} 0 1 = cc in omega arith
placed_numbered t None q = let never : ◌≡◌ {A = ℕ} 0 1 = cc in omega arith

partner_numbered : (t : List ℕ) (row col : ℕ) → matching_bracket_pos t row col ≡ Partner-as-Refused 0 → ⊥
unfolding matching_bracket_pos
partner_numbered t row col = go (eqb (text_refusal t) 0) (ltb row (row_count t) && ltb col (row_len t row)) refl
  where
    here : Partner
    here = placed t (partner_of t (row_start t row + col))

    go : (b i : Bool) → eqb (text_refusal t) 0 ≡ b → cond b (cond i here Partner-as-None) (Partner-as-Refused (text_refusal t)) ≡ Partner-as-Refused 0 → ⊥
    go true true p q = placed_numbered t (partner_of t (row_start t row + col)) q
    go true false p q = let never : ◌≡◌ {A = ℕ} 0 1 = cc in omega arith
    go false i p q = let text_refusal_is : text_refusal t ≡ 0 = cc in eqb-false (text_refusal t) 0 p text_refusal_is

key_numbered : (t : List ℕ) (row : ℕ) (f : Option ℕ) → key_to t row f ≡ Partner-as-Refused 0 → ⊥
unfolding key_to
key_numbered t row (Some i) q = partner_numbered t row i q
key_numbered t row None q = let never : ◌≡◌ {A = ℕ} 0 1 = cc in omega arith

seeking_numbered : (f : ℕ) (s : Sought) → (s ≡ Sought-as-Refused 0 → ⊥) → Numbered (landed (seeking f s))
unfolding seeking
seeking_numbered f s h = go (eqb f 0) refl s h
  where
    go : (b : Bool) → eqb f 0 ≡ b → (s : Sought) → (s ≡ Sought-as-Refused 0 → ⊥) → Numbered (landed (cond b s (Sought-as-Refused f)))
    go true e (Sought-as-Found x) h q = let never : ◌≡◌ {A = ℕ} 0 1 = cc in omega arith
    go true e (Missing x) h q = let never : ◌≡◌ {A = ℕ} 0 1 = cc in omega arith
    go true e (Sought-as-Refused g) h q = let g_is : g ≡ 0 = cc in h (rw g_is)
    go false e s h q = let f_is : f ≡ 0 = cc in eqb-false f 0 e f_is

partner_to_lem : (k : Caret) (p : Partner) → (p ≡ Partner-as-Refused 0 → ⊥) → partner_to k p ≡ Sought-as-Refused 0 → ⊥
unfolding partner_to
partner_to_lem k (There x) h q = let never : ◌≡◌ {A = ℕ} 0 1 = cc in omega arith
partner_to_lem k Partner-as-None h q = let never : ◌≡◌ {A = ℕ} 0 1 = cc in omega arith
partner_to_lem k (Partner-as-Refused g) h q = let g_is : g ≡ 0 = cc in h (rw g_is)

lands_on_lem : (k : Caret) (f : Option ℕ) → lands_on k f ≡ Sought-as-Refused 0 → ⊥
unfolding lands_on
lands_on_lem k (Some i) q = let never : ◌≡◌ {A = ℕ} 0 1 = cc in omega arith
lands_on_lem k None q = let never : ◌≡◌ {A = ℕ} 0 1 = cc in omega arith

-- every move
numbered : (t folds list : List ℕ) (tabstop : ℕ) (m : Move) (n : ℕ) (k : Caret) → Numbered (moved_by t folds list tabstop m n k)
numbered t folds list tabstop (By w) n k = moves _ _
numbered t folds list tabstop (Word m big stop) n k = moves _ _
numbered t folds list tabstop (Rows down a) n k = moves _ _
numbered t folds list tabstop (Screen mode width down a) n k = moves _ _
numbered t folds list tabstop (ScreenKept mode width down a) n k = moves _ _
numbered t folds list tabstop (Viewport edge top height offset) n k = moves _ _
numbered t folds list tabstop Bracket n k =
    let first_bracket_lem = first_bracket (row_at t k.row) k.col in
    seeking_numbered (refusal_of t k) (partner_to k (key_to t k.row first_bracket_lem))
    (partner_to_lem k (key_to t k.row first_bracket_lem) (key_numbered t k.row first_bracket_lem))
numbered t folds list tabstop (Find x forward till skip) n k = seeking_numbered _ _ (lands_on_lem k _)

-- whether a key does something; all of a table do
is_act : Option (Move × Column) → Bool
is_act (Some (m, c)) = true
is_act None = false

all_acts : List Named → Bool
all_acts [] = true
all_acts (key ∷ rest) = is_act (act_of key.key) && all_acts rest

table_acts : all_acts table ≡ true
unfolding all_acts is_act act_of two_bytes word_keys line_keys place_keys
table_acts = refl

found_unknown : (ks : List Named) (name : List ℕ) → all_acts ks ≡ true → is_act (act_of (found ks name)) ≡ false → is_known ks name ≡ false
unfolding all_acts found is_known
found_unknown [] name all q = refl
found_unknown (key ∷ rest) name all q = go (is_same name key.name) (is_act (act_of key.key)) refl all q (found_unknown rest name)
  where
    go : (s a : Bool) → is_act (act_of key.key) ≡ a → (a && all_acts rest) ≡ true → is_act (act_of (cond s key.key (found rest name))) ≡ false →
        (all_acts rest ≡ true → is_act (act_of (found rest name)) ≡ false → is_known rest name ≡ false) → (s || is_known rest name) ≡ false
    go true true e all q ih = let never : ◌≡◌ {A = Bool} true false = sym e ∙ q in let nonsense : ◌≡◌ {A = ℕ} 0 1 = cc in absurd (omega arith)
    go true false e all q ih = let never : ◌≡◌ {A = ℕ} 0 1 = cc in absurd (omega arith)
    go false true e all q ih = ih all q
    go false false e all q ih = let never : ◌≡◌ {A = ℕ} 0 1 = cc in absurd (omega arith)

module _ (t : List ℕ) (n : ℕ) (k : Caret) where
  held_zero : (c : Column) (m : Moved) → held c m ≡ Refused 0 → m ≡ Refused 0
  held_zero c (To k) q = let never : ◌≡◌ {A = ℕ} 0 1 = cc in absurd (omega arith)
  held_zero c (Refused f) q = q

  acted_unknown : (a : Option (Move × Column)) → acted a t n k ≡ Refused 0 → is_act a ≡ false
  unfolding acted is_act
  acted_unknown (Some (m, c)) q = absurd (numbered t [] (codes "@,48-57,_") 8 m n k (held_zero c (does m t n k) q))
  acted_unknown None q = refl

  -- a key that is refused with 0 is in no table
  pub pressed_unknown : (name : List ℕ) → pressed name t n k ≡ Refused 0 → is_known table name ≡ false
  pressed_unknown name q = found_unknown table name table_acts (acted_unknown (act_of (key_of name)) q)
