-- The first segment as `first_segment` finds it. Assumes nothing.
use Rattle.lists.proofs.Kit.{◌≡◌, sym, ap, ◌∙◌, List, Bool, true, false, ℕ, ◌<◌, arith, length}
use Rattle.row_segment.specs.Segments.{after_white, char_segment, first_segment, Begins}
use Rattle.row_segment.proofs.White.{white_last}
use Rattle.row_segment.proofs.First.{first_char, first_end, first_none, first_word}

-- n characters by a break by characters, and k after the last white space of those
module _ (w : ℕ → ℕ) (white : ℕ → Bool) (word : Bool) (width : ℕ) (row : List ℕ) {n : ℕ} (is : n ≡ char_segment w width row) where
  pub found_char : word ≡ false → n ≡ first_segment w white word width row
  found_char e = is ∙ sym (first_char w white word width row e)

  pub found_end : n ≡ length row → n ≡ first_segment w white word width row
  found_end e = is ∙ sym (first_end w white word width row (omega arith))

  module _ {k : ℕ} (last : k ≡ after_white white row n) where
    last_is : k ≡ after_white white row (char_segment w width row)
    last_is = last ∙ ap (after_white white row) is

    pub found_none : k ≡ 0 → n ≡ first_segment w white word width row
    found_none e = is ∙ sym (first_none w white word width row (sym last_is ∙ e))

    pub found_word : word ≡ true → n < length row → (k ≡ 0 → ⊥) → Begins row (first_segment w white word width row) k
    found_word e h p =
        let by_last_is = last_is in
        let by_white_last = (white_last white row n (omega arith)).within in
        record { count = by_last_is ∙ sym (first_word w white word width row e (omega arith) (omega arith)); some = omega arith; inside = omega arith }
