-- Rounds of the code at the places of spots, and what they require. Assumes nothing.
use Rattle.lists.proofs.Kit.{◌≡◌, ap, sym, ◌∙◌, List, Bool, true, false, ◌&&◌, ℕ, Option, Some, None}
use Rattle.word_kinds.specs.declared.Alphabet.{Alphabet}
use Rattle.text.specs.declared.Position.{Position}
use Rattle.text.proofs.Before.{same_row, same_col}
use Rattle.text.proofs.Stands.{stands_at_lem}
use Rattle.word_kinds.specs.declared.Spot.{Spot}
use Rattle.word_ends.specs.declared.Turn as code
use Rattle.word_ends.specs.declared.Turn.TheVariants as variant
use Rattle.word_kinds.specs.Places.{Step}
use Rattle.word_rounds.specs.Rounds.{turn, end_turn}
use Rattle.word_edges.specs.Words.{next_word_end, at_word_end}
use Rattle.word_kinds.specs.declared.Setting.{Setting}
use Rattle.word_kinds.specs.Spots.{place_of, IsSpot, Lands, step_of, Where, Reaches}
use Rattle.word_rounds.specs.Turns.{turn_of, TurnIn, ComesTo, turned, Set}
use Rattle.word_edges.specs.Ready.{Ready}

-- a round from the spot that the jump reached
module _ {t : List ℕ} {from : Spot} {at : Position} (begun : Lands t from at) where
  -- the word found from there, or none
  module _ {r : code.Turn Spot} where
    turned_turn : (f : Option Spot) → r ≡ turned from f → turn_of t r ≡ turn (place_of t from) (step_of t f)
    turned_turn (Some q) e = rw e
    turned_turn None e = rw e

    turned_in : (f : Option Spot) → r ≡ turned from f → Where (IsSpot t) f → TurnIn t r
    turned_in (Some q) e i = rw e i
    turned_in None e i = rw e begun.inside

    pub round_from_lem : (word : Position → Step) (f : Option Spot) → r ≡ turned from f → Reaches t f (word (place_of t from)) → ComesTo t r (turn at (word at))
    round_from_lem word f e found =
        record {
          place = turned_turn f e ∙ ap (turn (place_of t from)) found.place ∙ ap (λ (x : Position). turn x (word x)) begun.place;
          inside = turned_in f e found.inside;
        }

  -- a round of `move_word_end`, held or not
  module _ (kind : ℕ → ℕ) (stop : Bool) where
    pub end_held : stop ≡ true → at_word_end t kind (place_of t from) ≡ true → ComesTo t (variant.On from) (end_turn t kind stop at)
    end_held s e =
        let held : turn_of t (variant.On from) ≡ end_turn t kind stop (place_of t from) = rw (s, e) in
        record { place = held ∙ ap (end_turn t kind stop) begun.place; inside = begun.inside }

    pub end_moved : {r : code.Turn Spot} (f : Option Spot) → (stop && at_word_end t kind (place_of t from)) ≡ false → r ≡ turned from f →
        Reaches t f (next_word_end t kind (place_of t from)) → ComesTo t r (end_turn t kind stop at)
    end_moved f n e found =
        let still = ap (λ (x : Position). stop && at_word_end t kind x) (sym begun.place) ∙ n in
        rw still (round_from_lem (next_word_end t kind) f e found)

-- what a round requires, for its parts
module _ {t folds : List ℕ} {k : Alphabet} {p : Spot} (w : Set t folds k p) where
  pub set_at : (q : Spot) → IsSpot t q → Set t folds k q
  set_at q i =
      let its_folded = w.folded in
      record { lent = w.lent; folded = record { good = its_folded.good; all_rows = its_folded.all_rows; content_rows = its_folded.content_rows; spot = i } }

  pub set_ready : (q : Spot) → IsSpot t q → Ready t k q
  set_ready q i = record { lent = w.lent; rows = w.folded.all_rows; content = w.folded.content_rows; spot = i }

-- one offset is one place
pub same_place : (t : List ℕ) (p q : Spot) → IsSpot t p → IsSpot t q → q.at ≡ p.at → place_of t q ≡ place_of t p
same_place t p q i j e =
    let is_spot : IsSpot t (record { row = q.row; at = p.at }) = rw e at j in
    let by_same_row = same_row (stands_at_lem is_spot) (stands_at_lem i) in
    let by_same_col = same_col (stands_at_lem is_spot) (stands_at_lem i) in
    rw (e, by_same_col, by_same_row)
