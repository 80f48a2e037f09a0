-- What the machine reads of a number, digit by digit, as the first end of an item and as the second. Assumes nothing.
use Rattle.lists.proofs.Kit.{◌≡◌, refl, ap, sym, ◌∙◌, List, [], ◌∷◌, ◌++◌, Bool, true, ℕ, ◌+◌, ◌*◌, ◌-◌, ◌≤◌, arith}
use Rattle.lists.specs.Codes.{is_digit}
use Rattle.list_parts.specs.Numbers.{all_digits, value}
use Rattle.vim_grammar.specs.declared.VimToken.{VimToken}
use Rattle.vim_grammar.specs.Grammar.{Number as Numeral}
use Rattle.vim_reader.specs.declared.State.{State}
use Rattle.vim_reader.specs.declared.State.TheVariants.{Number, Dash, Second}
use Rattle.vim_reader.specs.Machine.{step_of, phase_of}
use Rattle.vim_reader.specs.Reading.{read, later, reading}
use Rattle.vim_reader.proofs.MachineLaws as m
use Rattle.vim_laws.proofs.Numbers.{digits_first, digits_rest, value_least, most_above}

-- one step within a part
pub on : (σ τ : State) (x : ℕ) (s : List ℕ) (ts : List VimToken) → step_of σ x ≡ τ → (phase_of τ ≡ 3) → reading τ s ≡ read ts → reading σ (x ∷ s) ≡ read ts
unfolding reading later
on σ τ x s ts e p r = rw (e, p, r)

-- the digits of a first number
number_on : (ds : List ℕ) (out : Bool) (v : ℕ) (s : List ℕ) (ts : List VimToken) → all_digits ds ≡ true → value v ds ≤ 255 →
    reading (Number out (value v ds)) s ≡ read ts → reading (Number out v) (ds ++ s) ≡ read ts
unfolding value step_of phase_of
number_on [] out v s ts a h r = r
number_on (x ∷ ds) out v s ts a h r =
    let sum = v * 10 + (x - 48) in
    on (Number out v) (Number out sum) x (ds ++ s) ts (m.number_on out v x (digits_first x ds a) (omega (arith, value_least (v * 10 + (x - 48)) ds))) refl
    (number_on ds out sum s ts (digits_rest x ds a) h r)

-- those of a second one
pub second_on : (ds : List ℕ) (out char : Bool) (lo v : ℕ) (s : List ℕ) (ts : List VimToken) → all_digits ds ≡ true → lo ≤ value v ds → value v ds ≤ 255 →
    reading (Second out char lo (value v ds)) s ≡ read ts → reading (Second out char lo v) (ds ++ s) ≡ read ts
unfolding value step_of phase_of
second_on [] out char lo v s ts a k h r = r
second_on (x ∷ ds) out char lo v s ts a k h r =
    let sum = v * 10 + (x - 48) in
    let most = most_above (v * 10 + (x - 48)) ds (digits_rest x ds a) h in
    on (Second out char lo v) (Second out char lo sum) x (ds ++ s) ts (m.in_second_digit out char lo v x (digits_first x ds a)
    ∙ m.second_taken out char lo sum (omega (arith, value_least (v * 10 + (x - 48)) ds)) (omega (arith, most))) refl
    (second_on ds out char lo sum s ts (digits_rest x ds a) k h r)

-- a number from its first digit on
pub number_whole :
    (ds : List ℕ) (out : Bool) (v : ℕ) (s : List ℕ) (ts : List VimToken) (σ : State) → ((x : ℕ) → is_digit x ≡ true → step_of σ x ≡ Number out (x - 48)) →
    Numeral ds v → reading (Number out v) s ≡ read ts → reading σ (ds ++ s) ≡ read ts
unfolding value phase_of
number_whole [] out v s ts σ f n r = absurd (omega (arith, n.some))
number_whole (x ∷ ds) out v s ts σ f n r =
    let none : 0 * 10 + (x - 48) ≡ x - 48 = omega arith in
    let is : value (x - 48) ds ≡ v = ap (λ (w : ℕ). value w ds) (sym none) ∙ n.is in
    on σ (Number out (x - 48)) x (ds ++ s) ts (f x (digits_first x ds n.all)) refl
    (number_on ds out (x - 48) s ts (digits_rest x ds n.all) (omega (arith, is, n.most)) (rw is r))

pub second_whole :
    (ds : List ℕ) (out char : Bool) (lo v : ℕ) (s : List ℕ) (ts : List VimToken) → Numeral ds v → lo ≤ v → reading (Second out char lo v) s ≡ read ts →
    reading (Dash out char lo) (ds ++ s) ≡ read ts
unfolding value step_of phase_of
second_whole [] out char lo v s ts n k r = absurd (omega (arith, n.some))
second_whole (x ∷ ds) out char lo v s ts n k r =
    let none : 0 * 10 + (x - 48) ≡ x - 48 = omega arith in
    let is : value (x - 48) ds ≡ v = ap (λ (w : ℕ). value w ds) (sym none) ∙ n.is in
    let top : value (x - 48) ds ≤ 255 = omega (arith, is, n.most) in
    let most = most_above (x - 48) ds (digits_rest x ds n.all) top in
    on (Dash out char lo) (Second out char lo (x - 48)) x (ds ++ s) ts (m.dash_digit out char lo x (digits_first x ds n.all)
    ∙ m.second_taken out char lo (x - 48) (omega (arith, value_least (x - 48) ds, is, n.most)) (omega (arith, most, is))) refl
    (second_on ds out char lo (x - 48) s ts (digits_rest x ds n.all) (omega (arith, is)) top (rw is r))
