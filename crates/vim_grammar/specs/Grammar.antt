-- The grammar of Vim's keyword lists, one constructor for each of its lines: `options.txt`, For Vim version 9.0. Last change: 2023 Feb 17,
-- 'isfname', to which 'iskeyword' refers. Apart from any reader; that the reader accepts exactly these lists, with one reading each, is
-- `reads_exactly` in `vim_laws`. Document 02, #108. Definitions only. Assumes nothing.
use Rattle.std.specs.Prelude.{ℕ, ◌≤◌, ◌<◌, ◌≡◌, List, [], ◌∷◌, ◌++◌, Bool, true, false, length, get_or}
use Rattle.lists.specs.Codes.{is_digit}
use Rattle.list_parts.specs.Numbers.{all_digits, value}
use Rattle.vim_grammar.specs.declared.VimToken.{VimToken}
use Rattle.vim_grammar.specs.Tokens.{letters, one, range}

-- number = 1*DIGIT: "a decimal number between 0 and 255", any leading zeros
pub record Number (ds : List ℕ) (v : ℕ) : Type 0 where
  pub some : 0 < length ds
  pub all : all_digits ds ≡ true
  pub is : value 0 ds ≡ v
  pub most : v ≤ 255

-- char = U+0000..U+007F but the digits: "the ASCII character itself"; comma, `-`, `^`, `@` and space are among them
pub record Char (c : ℕ) : Type 0 where
  pub ascii : c ≤ 127
  pub no_digit : is_digit c ≡ false

-- end = number / char; whether it is a character, and its code
pub data End : List ℕ → Bool → ℕ → Type 0 where
  by_number : {ds : List ℕ} {v : ℕ} → Number ds v → End ds false v
  of_char : {c : ℕ} → Char c → End (c ∷ []) true c

-- item = "@" / end but "@" / end "-" end, where the first is not above the second
pub data Item (out : Bool) : List ℕ → VimToken → Type 0 where
  every_letter : Item out (64 ∷ []) (letters out)
  single : {p : List ℕ} {char : Bool} {c : ℕ} → End p char c → (p ≡ 64 ∷ [] → ⊥) → Item out p (one out char c)
  between :
      {p q : List ℕ} {lochar hichar : Bool} {lo hi : ℕ} → End p lochar lo → End q hichar hi → lo ≤ hi →
      Item out (p ++ (45 ∷ q)) (range out lochar lo hichar hi)

-- part = "^" item, which excludes / item that doesn't begin with "^", which includes
pub data Part : List ℕ → VimToken → Type 0 where
  exclude : {p : List ℕ} {t : VimToken} → Item true p t → Part (94 ∷ p) t
  include : {p : List ℕ} {t : VimToken} → Item false p t → (get_or p 0 0 ≡ 94 → ⊥) → Part p t

-- parts = part / "^" as the list's last, which is itself / part "," parts
pub data Parts : List ℕ → List VimToken → Type 0 where
  last : {p : List ℕ} {t : VimToken} → Part p t → Parts p (t ∷ [])
  caret : Parts (94 ∷ []) (one false true 94 ∷ [])
  more : {p l : List ℕ} {t : VimToken} {ts : List VimToken} → Part p t → Parts l ts → Parts (p ++ (44 ∷ l)) (t ∷ ts)

-- list = [ parts ]
pub data Reads : List ℕ → List VimToken → Type 0 where
  empty : Reads [] []
  parts : {l : List ℕ} {ts : List VimToken} → Parts l ts → Reads l ts

-- the lists of the grammar
abbrev pub Accepted : List ℕ → Type 0
Accepted l = (ts : List VimToken) × Reads l ts
