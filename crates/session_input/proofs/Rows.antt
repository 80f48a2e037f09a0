-- Laws of an input: its rows one after another, and where the text begins. Assumes nothing.
use Rattle.lists.proofs.Kit.{◌≡◌, ap, sym, ◌∙◌, List, ◌∷◌, true, false, ℕ, ◌+◌, ◌-◌, ◌≤◌, ◌<◌, arith, length, take, drop, length-drop, length-take-le, Some, None}
use Rattle.lists.specs.Lists.{up_to}
use Rattle.lists.proofs.Splits.{split_from, split_from_start, split_from_end, split_from_step}
use Rattle.text.specs.Text.{rows}
use Rattle.text.proofs.Rows.{rows_split}
use Rattle.session_row.specs.Commands.{Ends}
use Rattle.session_input.specs.Parts.{is_stop, has_stop, text_at, stop_of}

-- the rows of an input from an index on; the first of them is what `&l[i..e]` reads
pub rows_start : (l : List ℕ) → rows l ≡ split_from 10 l 0
rows_start l = rows_split l ∙ sym (split_from_start 10 l)

pub rows_step : (l : List ℕ) (i e : ℕ) → i ≤ length l → Ends l i 10 e → split_from 10 l i ≡ take (e - i) (drop i l) ∷ split_from 10 l (e + 1)
rows_step l i e h w =
    let up_to_is : up_to 10 (drop i l) ≡ e - i = omega (arith, w.at) in
    let sum_is : i + (e - i) + 1 ≡ e + 1 = omega (arith, w.after) in
    rw (← sum_is, ← up_to_is) (split_from_step 10 l i h)

pub row_length_lem : (l : List ℕ) (i e : ℕ) → Ends l i 10 e → length (take (e - i) (drop i l)) ≡ e - i
row_length_lem l i e w = length-take-le (e - i) (drop i l) (omega (arith, length-drop i l, w.within, w.after))

-- where a search for the full stop stands: nothing before i is one
pub record Sought (input : List ℕ) (i : ℕ) : Type 0 where
  pub near : i ≤ length input + 1
  pub stops : has_stop (rows input) ≡ has_stop (split_from 10 input i)
  pub begins : text_at (rows input) ≡ i + text_at (split_from 10 input i)

pub sought_start : (input : List ℕ) → Sought input 0
sought_start input =
    record {
      near = omega arith;
      stops = ap has_stop (rows_start input);
      begins = omega (arith, ap text_at (rows_start input));
    }

module _ {input : List ℕ} {i e : ℕ} (so_far : Sought input i) (h : i ≤ length input) (w : Ends input i 10 e) where
  stop_at : is_stop (take (e - i) (drop i input)) ≡ true → text_at (split_from 10 input i) ≡ e - i + 1
  unfolding text_at
  stop_at p = rw (rows_step input i e h w, p, row_length_lem input i e w) (omega arith)

  stop_past : is_stop (take (e - i) (drop i input)) ≡ false → text_at (split_from 10 input i) ≡ e - i + 1 + text_at (split_from 10 input (e + 1))
  unfolding text_at
  stop_past p = rw (rows_step input i e h w, p, row_length_lem input i e w)

  has_here : is_stop (take (e - i) (drop i input)) ≡ true → has_stop (split_from 10 input i) ≡ true
  unfolding has_stop
  has_here p = rw (rows_step input i e h w, p)

  has_past : is_stop (take (e - i) (drop i input)) ≡ false → has_stop (split_from 10 input i) ≡ has_stop (split_from 10 input (e + 1))
  unfolding has_stop
  has_past p = rw (rows_step input i e h w, p)

  pub sought_on : is_stop (take (e - i) (drop i input)) ≡ false → Sought input (e + 1)
  sought_on p =
      record {
        near = omega (arith, w.within);
        stops = so_far.stops ∙ has_past p;
        begins = omega (arith, so_far.begins, stop_past p, w.after);
      }

  pub sought_here : is_stop (take (e - i) (drop i input)) ≡ true → Some (e + 1) ≡ stop_of input
  unfolding stop_of
  sought_here p =
      let text_is : text_at (rows input) ≡ e + 1 = omega (arith, so_far.begins, stop_at p, w.after) in
      rw (so_far.stops ∙ has_here p, text_is)

pub sought_end : {input : List ℕ} {i : ℕ} → Sought input i → length input < i → None ≡ stop_of input
unfolding stop_of has_stop
sought_end {input} {i} s h = rw (s.stops ∙ ap has_stop (split_from_end 10 input i h))
