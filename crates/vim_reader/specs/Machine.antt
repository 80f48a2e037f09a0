-- The machine that reads Vim's lists: where one code point leads from a state, and the token of a part that ends in one. What the contracts of
-- `src/machine.rt` cite. That it reads exactly the lists of the grammar is in `vim_laws`. Definitions only. Long by its states: a clause or two for
-- each. Assumes nothing.
use Rattle.std.specs.Prelude.{ℕ, ◌+◌, ◌*◌, ◌-◌, Bool, true, false, cond, ◌&&◌, eqb, leb}
use Rattle.lists.specs.Codes.{is_digit}
use Rattle.vim_grammar.specs.declared.VimToken.{VimToken}
use Rattle.vim_grammar.specs.Tokens.{no_token, letters, one, range}
use Rattle.vim_reader.specs.declared.State.{State}
use Rattle.vim_reader.specs.declared.State.TheVariants.{Start, Part, Caret, Number, Sign, Dash, Second, Done, Dead}

-- the greatest number up to 255 that digits behind those of v can make; 0 may have digits behind it, since leading zeros count for nothing
unfoldable pub most_of : ℕ → ℕ
most_of v = cond (eqb v 1) 199 (cond (leb v 2) 255 (cond (leb v 24) (v * 10 + 9) (cond (eqb v 25) 255 v)))

-- the first code point of an item
unfoldable pub first_of : Bool → ℕ → State
first_of out x = cond (is_digit x) (Number out (x - 48)) (cond (leb x 127) (Sign out x) Dead)

-- and of a part
unfoldable pub start_of : ℕ → State
start_of x = cond (eqb x 94) Caret (first_of false x)

-- behind a first end: a comma ends the part, and a minus opens a second end
unfoldable pub behind : Bool → Bool → ℕ → ℕ → State
behind out char lo x = cond (eqb x 44) Part (cond (eqb x 45) (Dash out char lo) Dead)

-- in a first number
unfoldable pub number_step : Bool → ℕ → ℕ → State
number_step out v x =
    let w = v * 10 + (x - 48) in
    cond (is_digit x) (cond (leb w 255) (Number out w) Dead) (behind out false v x)

-- a second number that has come to v, if some digits lead it to lo or above
unfoldable pub second_of : Bool → Bool → ℕ → ℕ → State
second_of out char lo v = cond (leb v 255 && leb lo (most_of v)) (Second out char lo v) Dead

-- behind the minus
unfoldable pub dash_step : Bool → Bool → ℕ → ℕ → State
dash_step out char lo x = cond (is_digit x) (second_of out char lo (x - 48)) (cond (leb lo x && leb x 127) (Done out char lo x) Dead)

-- in a second number
unfoldable pub second_step : Bool → Bool → ℕ → ℕ → ℕ → State
second_step out char lo v x = cond (is_digit x) (second_of out char lo (v * 10 + (x - 48))) (cond (eqb x 44 && leb lo v) Part Dead)

-- behind a second end that is a character
unfoldable pub done_step : ℕ → State
done_step x = cond (eqb x 44) Part Dead

unfoldable pub step_of : State → ℕ → State
step_of Start x = start_of x
step_of Part x = start_of x
step_of Caret x = first_of true x
step_of (Number out v) x = number_step out v x
step_of (Sign out c) x = behind out true c x
step_of (Dash out char lo) x = dash_step out char lo x
step_of (Second out char lo v) x = second_step out char lo v x
step_of (Done out char lo c) x = done_step x
step_of Dead x = Dead

-- a character as a token: `@` is every letter
unfoldable pub sign_token : Bool → ℕ → VimToken
sign_token out c = cond (eqb c 64) (letters out) (one out true c)

-- the token of a part that ends in a state
unfoldable pub token_of : State → VimToken
token_of Start = no_token
token_of Part = no_token
token_of Caret = one false true 94
token_of (Number out v) = one out false v
token_of (Sign out c) = sign_token out c
token_of (Dash out char lo) = no_token
token_of (Second out char lo v) = range out char lo false v
token_of (Done out char lo c) = range out char lo true c
token_of Dead = no_token

-- the list may end here
unfoldable pub ends : State → Bool
ends Start = true
ends Part = false
ends Caret = true
ends (Number out v) = true
ends (Sign out c) = true
ends (Dash out char lo) = false
ends (Second out char lo v) = leb lo v
ends (Done out char lo c) = true
ends Dead = false

-- what a state says to the reader: 0 where no list goes on so, 1 behind a comma, 2 where nothing was read, 3 within a part
unfoldable pub phase_of : State → ℕ
phase_of Start = 2
phase_of Part = 1
phase_of Caret = 3
phase_of (Number out v) = 3
phase_of (Sign out c) = 3
phase_of (Dash out char lo) = 3
phase_of (Second out char lo v) = 3
phase_of (Done out char lo c) = 3
phase_of Dead = 0

abbrev pub is_dead : State → Bool
is_dead σ = eqb (phase_of σ) 0

abbrev pub is_part : State → Bool
is_part σ = eqb (phase_of σ) 1

abbrev pub is_start : State → Bool
is_start σ = eqb (phase_of σ) 2
