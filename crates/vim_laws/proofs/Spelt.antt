-- What a part has been spelt so far, state by state, and what is known of its ends. Assumes nothing.
use Rattle.lists.proofs.Kit.{◌≡◌, refl, List, [], ◌∷◌, ◌++◌, Bool, true, false, ℕ, ◌≤◌, ◌<◌, arith, length, get_or}
use Rattle.vim_grammar.specs.Grammar.{Number as Numeral, Char, End, by_number, of_char}
use Rattle.vim_reader.specs.declared.State.{State}
use Rattle.vim_reader.specs.declared.State.TheVariants.{Part, Caret, Number, Sign, Dash, Second, Done}
use Rattle.vim_reader.specs.Machine.{most_of}

-- with the `^` of a part that excludes
abbrev pub front : Bool → List ℕ → List ℕ
front true p = 94 ∷ p
front false p = p

pub front_append : (out : Bool) (p q : List ℕ) → front out p ++ q ≡ front out (p ++ q)
front_append true p q = refl
front_append false p q = refl

-- a part that includes doesn't begin with `^`
abbrev pub Free : Bool → List ℕ → Type 0
Free out p = out ≡ false → get_or p 0 0 ≡ 94 → ⊥

pub data Spelt : State → List ℕ → Type 0 where
  at_part : Spelt Part []
  at_caret : Spelt Caret (94 ∷ [])
  at_number : {out : Bool} {ds : List ℕ} {v : ℕ} → Numeral ds v → Free out ds → Spelt (Number out v) (front out ds)
  at_sign : {out : Bool} {c : ℕ} → Char c → Free out (c ∷ []) → Spelt (Sign out c) (front out (c ∷ []))
  at_dash : {out char : Bool} {p : List ℕ} {lo : ℕ} → End p char lo → Free out p → Spelt (Dash out char lo) (front out (p ++ (45 ∷ [])))
  at_second : {out char : Bool} {p ds : List ℕ} {lo v : ℕ} → End p char lo → Free out p → Numeral ds v → lo ≤ most_of v →
      Spelt (Second out char lo v) (front out (p ++ (45 ∷ ds)))
  at_done : {out char : Bool} {p : List ℕ} {lo c : ℕ} → End p char lo → Free out p → Char c → lo ≤ c →
      Spelt (Done out char lo c) (front out (p ++ (45 ∷ c ∷ [])))

-- the code of an end is at most 255
pub end_most : {p : List ℕ} {char : Bool} {c : ℕ} → End p char c → c ≤ 255
end_most (by_number n) = n.most
end_most (of_char h) = omega (arith, h.ascii)

-- an end has a first code point
pub end_some : {p : List ℕ} {char : Bool} {c : ℕ} → End p char c → 0 < length p
end_some (by_number n) = n.some
end_some (of_char h) = omega arith

-- which stays first
pub first_stays : (p q : List ℕ) → 0 < length p → get_or (p ++ q) 0 0 ≡ get_or p 0 0
first_stays [] q h = absurd (omega arith)
first_stays (x ∷ p) q h = refl
