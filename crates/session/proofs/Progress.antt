-- Laws of the loop: the lines of command rows one after another. Assumes nothing.
use Rattle.lists.proofs.Kit.{◌≡◌, ap, sym, subst, ◌∙◌, List, [], ◌∷◌, ◌++◌, append_assoc, append-nil, true, false, ℕ, ◌+◌, ◌-◌, ◌≤◌, ◌<◌, arith, length, take}
use Rattle.lists.proofs.Kit.{drop, length-append}
use Rattle.print.specs.Print.{Wrote}
use Rattle.print.proofs.Laws.{wrote_none, wrote_then}
use Rattle.session_row.specs.Commands.{key_part, Ends}
use Rattle.motions.specs.declared.Caret.{Caret}
use Rattle.motions.specs.Carets.{caret_after}
use Rattle.session_input.specs.Parts.{is_stop, command_rows}
use Rattle.lists.proofs.Splits.{split_from, split_from_end}
use Rattle.session_input.proofs.Rows.{rows_start, rows_step}
use Rattle.session.specs.Session.{turned, shown_of, line_of, lines_of, start, output_of}
use Rattle.session.proofs.Lengths.{lines_fit}

-- where the loop stands: what was printed so far, and that the rest is still to come
pub record Progress (input t out₀ : List ℕ) (k : Caret) (at i : ℕ) (out : List ℕ) : Type 0 where
  pub so_far : List ℕ
  pub wrote : Wrote out₀ 0 so_far at out
  pub rest : output_of t input ≡ so_far ++ lines_of t k (command_rows (split_from 10 input i))
  pub near : i ≤ length input + 1

pub progress_start : (input t out : List ℕ) → Progress input t out start 0 0 out
progress_start input t out =
    record {
      so_far = [];
      wrote = wrote_none out 0;
      rest = ap (λ (rs : List (List ℕ)). lines_of t start (command_rows rs)) (rows_start input);
      near = omega arith;
    }

pub progress_end : {input t out₀ out : List ℕ} {k : Caret} {at i : ℕ} (p : Progress input t out₀ k at i out) → command_rows (split_from 10 input i) ≡ [] →
    Wrote out₀ 0 (output_of t input) at out
unfolding lines_of
progress_end {input} {t} {out₀} {out} {k} {at} p e = subst (λ (s : List ℕ). Wrote out₀ 0 s at out)
    (sym (p.rest ∙ ap (λ (rs : List (List ℕ)). p.so_far ++ lines_of t k rs) e ∙ append-nil p.so_far)) p.wrote

module _ {input t out₀ out : List ℕ} {k : Caret} {at i e : ℕ} (p : Progress input t out₀ k at i out) (h : i ≤ length input) (w : Ends input i 10 e) where
  abbrev here : List ℕ
  here = take (e - i) (drop i input)

  pub commands_stop : is_stop here ≡ true → command_rows (split_from 10 input i) ≡ []
  unfolding command_rows
  commands_stop s = rw (rows_step input i e h w, s)

  commands_on : is_stop here ≡ false → command_rows (split_from 10 input i) ≡ here ∷ command_rows (split_from 10 input (e + 1))
  unfolding command_rows
  commands_on s = rw (rows_step input i e h w, s)

  abbrev next : Caret
  next = caret_after k (turned t k here)

  abbrev shows : List ℕ
  shows = line_of (shown_of (key_part here) (turned t k here)) next

  rest_on : is_stop here ≡ false → output_of t input ≡ p.so_far ++ (shows ++ lines_of t next (command_rows (split_from 10 input (e + 1))))
  unfolding lines_of
  rest_on s = p.rest ∙ ap (λ (rs : List (List ℕ)). p.so_far ++ lines_of t k rs) (commands_on s)

  -- there is room for this line
  pub progress_room : is_stop here ≡ false → length input ≤ 16384 → at + length shows ≤ 393240
  progress_room s small =
      let rest = lines_of t next (command_rows (split_from 10 input (e + 1))) in
      omega (arith, lines_fit t input small, ap length (rest_on s), length-append p.so_far (shows ++ rest), length-append shows rest, p.wrote.next)

  pub progress_on : is_stop here ≡ false → {at' : ℕ} {out' : List ℕ} → Wrote out at shows at' out' → Progress input t out₀ next at' (e + 1) out'
  progress_on s v =
      record {
        so_far = p.so_far ++ shows;
        wrote = wrote_then p.wrote v;
        rest = rest_on s ∙ sym (append_assoc p.so_far shows (lines_of t next (command_rows (split_from 10 input (e + 1)))));
        near = omega (arith, w.within);
      }

pub commands_end : (input : List ℕ) (i : ℕ) → length input < i → command_rows (split_from 10 input i) ≡ []
unfolding command_rows
commands_end input i h = rw (split_from_end 10 input i h)
