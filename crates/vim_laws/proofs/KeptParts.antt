-- A part that both readers read alike, and the token that the first reader keeps of it: a number, a range of numbers, a character, `@`.
-- Assumes nothing.
use Rattle.lists.proofs.Kit.{◌≡◌, refl, ap, sym, ◌∙◌, List, [], ◌∷◌, ◌++◌, Bool, true, false, cond, true≢false, ℕ, ◌+◌, ◌<◌, arith, length, eqb, ne_eqb, lt-ltb, Some, None}
use Rattle.lists.specs.Codes.{is_digit}
use Rattle.lists.specs.Lists.{up_to}
use Rattle.chars.specs.White.{whites, is_white}
use Rattle.list_parts.specs.Numbers.{all_digits, value, number_of}
use Rattle.list_parts.specs.Parts.{trim}
use Rattle.list_parts.proofs.NumberLaws.{digits_some, number_plain}
use Rattle.list_tokens.specs.declared.Token.{Token}
use Rattle.list_tokens.specs.Grammar.{no_token, alpha, codes, range_of, token_of}
use Rattle.list_signs.proofs.WhiteLaws.{no_white}
use Rattle.list_signs.proofs.TrimLaws.{trim_none}
use Rattle.list_signs.proofs.DigitLaws.{digits_no_white, digits_no_minus, digits_up_to}
use Rattle.list_signs.proofs.RangeLaws.{no_range}
use Rattle.list_signs.proofs.PartLaws.{range_token, number_token}
use Rattle.vim_grammar.specs.declared.VimToken.{VimToken}
use Rattle.vim_grammar.specs.Tokens.{letters, one, range}
use Rattle.vim_grammar.specs.Grammar.{Number, by_number, of_char, every_letter, single, between, Part, exclude, include}
use Rattle.vim_reader.proofs.MachineLaws.{digit_low}
use Rattle.vim_laws.specs.Common.{is_common}
use Rattle.vim_laws.proofs.Numbers.{digits_first}
use Rattle.vim_laws.proofs.Unbroken.{no_comma, comma_append, white_append, digits_comma}

-- the first reader's token
unfoldable pub first_token : VimToken → Token
first_token t = cond (eqb t.kind 1) alpha (codes t.lo t.hi)

-- a part that the first reader keeps as t
pub record Kept (p : List ℕ) (t : VimToken) : Type 0 where
  pub token : token_of (trim p) ≡ first_token t
  pub commas : no_comma p ≡ true

-- a number
number_is : (ds : List ℕ) (v : ℕ) → Number ds v → number_of ds ≡ Some v
number_is [] v n = absurd (omega (arith, n.some))
number_is (x ∷ ds) v n =
    let low = digit_low x (digits_first x ds n.all) in
    let small : value 0 (x ∷ ds) < 0x100000000 = omega (arith, n.is, n.most) in
    sym (number_plain (x ∷ ds) n.some (λ e. omega (arith, low, e))) ∙ digits_some (x ∷ ds) n.some
    ∙ rw (n.all, lt-ltb (value 0 (x ∷ ds)) 0x100000000 small, n.is)

kept_number : (ds : List ℕ) (v : ℕ) → Number ds v → Kept ds (one false false v)
unfolding first_token
kept_number ds v n =
    record {
      token = ap token_of (trim_none ds (digits_no_white ds n.all))
          ∙ number_token ds v (number_is ds v n) (no_range ds (length ds) (sym (digits_up_to ds n.all) ∙ zero_first (up_to 45 ds)) (omega arith));
      commas = digits_comma ds n.all;
    }
  where
    zero_first : (k : ℕ) → k ≡ 0 + k
    zero_first k = omega arith

kept_range : (a b : List ℕ) (lo hi : ℕ) → Number a lo → Number b hi → Kept (a ++ (45 ∷ b)) (range false false lo false hi)
unfolding first_token no_white no_comma is_white whites
kept_range a b lo hi n m =
    record {
      token = ap token_of (trim_none (a ++ (45 ∷ b)) (white_append a (45 ∷ b) (digits_no_white a n.all) (digits_no_white b m.all)))
          ∙ range_token a b lo hi (digits_no_minus a b n.all) (number_is a lo n) (number_is b hi m);
      commas = comma_append a (45 ∷ b) (digits_comma a n.all) (digits_comma b m.all);
    }

-- a character
char_number : (c : ℕ) → is_digit c ≡ false → number_of (c ∷ []) ≡ None
unfolding all_digits
char_number c d = go (eqb c 43) refl
  where
    go : (b : Bool) → eqb c 43 ≡ b → number_of (c ∷ []) ≡ None
    go true e = rw e
    go false e = rw (e, d)

char_range : (c : ℕ) → range_of (c ∷ []) ≡ no_token
unfolding up_to
char_range c = go (eqb c 45) refl
  where
    go : (b : Bool) → eqb c 45 ≡ b → range_of (c ∷ []) ≡ no_token
    go true e = rw e
    go false e = rw e

kept_char : (c : ℕ) → is_digit c ≡ false → (c ≡ 64 → ⊥) → is_white c ≡ false → eqb c 44 ≡ false → Kept (c ∷ []) (one false true c)
unfolding first_token no_white no_comma
kept_char c d n w k =
    record {
      token = ap token_of (trim_none (c ∷ []) (rw w)) ∙ rw (ne_eqb c 64 n, char_range c, char_number c d);
      commas = rw k;
    }

kept_at : Kept (64 ∷ []) (letters false)
unfolding first_token no_white no_comma is_white whites
kept_at = record { token = ap token_of (trim_none (64 ∷ []) refl); commas = refl }

pub kept_caret_lem : Kept (94 ∷ []) (one false true 94)
unfolding is_white whites
kept_caret_lem = kept_char 94 refl (λ e. omega arith) refl refl

pub kept_part : {p : List ℕ} {t : VimToken} → Part p t → is_common t ≡ true → Kept p t
unfolding is_common
kept_part (exclude every_letter) e = absurd (true≢false (sym e))
kept_part (exclude (single d f)) e = absurd (true≢false (sym e))
kept_part (exclude (between d g k)) e = absurd (true≢false (sym e))
kept_part (include every_letter f) e = kept_at
kept_part (include {p = p} (single {c = c} (by_number n) g) f) e = kept_number p c n
kept_part (include (single {c = c} (of_char h) g) f) e = go (is_white c) refl (eqb c 44) refl e
  where
    go : (b : Bool) → is_white c ≡ b → (k : Bool) → eqb c 44 ≡ k → cond b false (cond k false true) ≡ true → Kept (c ∷ []) (one false true c)
    go true w k q z = absurd (true≢false (sym z))
    go false w true q z = absurd (true≢false (sym z))
    go false w false q z = kept_char c h.no_digit (λ y. g (ap (λ (x : ℕ). x ∷ []) y)) w q
kept_part (include (between {p = p} {q = q} {lo = lo} {hi = hi} (by_number n) (by_number m) k) f) e = kept_range p q lo hi n m
kept_part (include (between (by_number n) (of_char h) k) f) e = absurd (true≢false (sym e))
kept_part (include (between (of_char h) g k) f) e = absurd (true≢false (sym e))
