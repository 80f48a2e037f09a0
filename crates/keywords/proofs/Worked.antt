-- P11 of document 01: the definitions compute the tokens of its lists, and two laws of ranges do the rest. Assumes nothing.
use Rattle.lists.proofs.Kit.{◌≡◌, refl, ◌∙◌, false, ◌&&◌, and-false, or-false, ℕ, ◌<◌, dec_lt, ℕ_discrete, arith, eqb, leb, le-leb, lt-leb, eq-eqb, ne_eqb}
use Rattle.lists.specs.Lists.{any, up_to, on_first, split}
use Rattle.chars.specs.White.{whites, is_white}
use Rattle.list_parts.specs.Numbers.{all_digits, value}
use Rattle.list_parts.specs.Parts.{trim_start, trim_end}
use Rattle.list_tokens.specs.Tokens.{tokens_in}
use Rattle.keywords.specs.Worked.{P11}

module _ (lo hi c : ℕ) where
  -- a range that falls holds nothing
  range_down : hi < lo → (leb lo c && leb c hi) ≡ false
  range_down h = go (dec_lt c lo)
    where
      go : Dec (c < lo) → (leb lo c && leb c hi) ≡ false
      go (yes m) = rw (lt-leb lo c m)
      go (no m) = rw (lt-leb c hi (omega arith), and-false)

-- a range from n to n holds n
range_one : (n c : ℕ) → (leb n c && leb c n) ≡ eqb c n
range_one n c = go (ℕ_discrete c n) (dec_lt c n)
  where
    go : Dec (c ≡ n) → Dec (c < n) → (leb n c && leb c n) ≡ eqb c n
    go (yes e) d = rw (eq-eqb c n e, le-leb n c (omega arith), le-leb c n (omega arith))
    go (no e) (yes m) = rw (ne_eqb c n e, lt-leb n c m)
    go (no e) (no m) = rw (ne_eqb c n e, lt-leb c n (omega arith), and-false)

pub p11 : P11
unfolding whites is_white up_to trim_start trim_end split on_first tokens_in all_digits value any
p11 =
    record {
      plus = λ c. or-false _;
      letters = λ c. refl;
      down = λ c. or-false _ ∙ range_down 57 48 c (omega arith);
      code = λ c. or-false _ ∙ range_one 5 c;
    }
