-- Every position that a call writes stands in the text, and the last is that of its answer: the laws of the motions, over all calls. Assumes nothing.
use mathlib.Core.Path.{◌≡◌, refl}
use Rattle.list_tokens.specs.Tokens.{in_list}
use Rattle.word_kinds.specs.Places.{kind_of}
use Rattle.bracket_walks.specs.declared.Partner.{Partner}
use Rattle.bracket_walks.specs.declared.Partner.TheVariants.{There, None, Refused as Partner-as-Refused}
use Rattle.brackets.specs.Matching.{matching_bracket_pos}
use Rattle.motions.specs.declared.Sought.{Sought}
use Rattle.motions.specs.declared.Sought.TheVariants.{Found, Missing, Refused as Sought-as-Refused}
use Rattle.call_rows.specs.Wraps.{mode_of}
use Rattle.call_texts.specs.Moves.{motion}
use Rattle.call_texts.specs.Seeks.{seek}
use Rattle.call_texts.specs.Viewports.{viewport}
use Rattle.call_folds.specs.Terms.{word}
use Rattle.call_folds.specs.Upright.{vertical}
use Rattle.call_folds.specs.Kept.{screen_kept}
use Rattle.vim_words.specs.ByVim.{in_vim_list}
use Rattle.promises.specs.Positions.{plain, by_word, by_vim_list, upright, edge, search, partner, standing, word_vim, in_sought, in_partner, positions}
use Rattle.promises.specs.Positions.{kept as remembers}
use Rattle.promises.specs.Writes.{by_row, plain_writes, term_writes, upright_writes, written, ends, last_of, EveryPositionInside}
use Rattle.promises.proofs.Landings.{edge_lands, kept_numbers_land}
use Rattle.promises.proofs.Searches.{seek_sits, pair_sits}
use Rattle.promises.proofs.Writing.{kept, once, by_row_lem, plain_keeps}
use Rattle.promises.proofs.WordWrites.{term_keeps, vim_keeps}
use Rattle.promises.proofs.Uprights.{vertical_keeps}

-- an answer with one position at most
last_sought : (m : Sought) → last_of (in_sought m) ≡ in_sought m
unfolding ends
last_sought (Found k) = refl
last_sought (Missing k) = refl
last_sought (Sought-as-Refused f) = refl

last_partner : (p : Partner) → last_of (in_partner p) ≡ in_partner p
unfolding ends
last_partner (There p) = refl
last_partner None = refl
last_partner (Partner-as-Refused f) = refl

pub every_inside : EveryPositionInside
unfolding written positions
every_inside (plain op n) k t =
    let by_kept = kept t (motion op n k t) (plain_writes op n k t) (plain_keeps t k n op) in
    record { inside = by_kept.0; last = by_kept.1 }
every_inside (by_word op big n folds list) k t =
    let by_kept = kept t (word op big n k t folds list) (λ c. term_writes op big n k t folds (kind_of (in_list list) big)) (term_keeps t k n list big op folds) in
    record { inside = by_kept.0; last = by_kept.1 }
every_inside (by_vim_list op big n folds list) k t =
    let by_kept = kept t (word_vim op big n k t folds list) (λ c. term_writes op big n k t folds (kind_of (in_vim_list list) big)) (vim_keeps t k n list big op folds) in
    record { inside = by_kept.0; last = by_kept.1 }
every_inside (upright op mode width n tabstop folds) k t =
    let by_kept = kept t (vertical op mode width n tabstop k t folds) (upright_writes op (mode_of mode) width n k t folds)
    (vertical_keeps t k n folds tabstop op mode width) in
    record { inside = by_kept.0; last = by_kept.1 }
every_inside (remembers op mode width n tabstop folds) k t =
    let by_kept = kept t (screen_kept op mode width n tabstop k t folds) standing
    (record { fits = λ c e. once t c (kept_numbers_land t op mode width n tabstop folds k c e) }) in
    record { inside = by_kept.0; last = by_kept.1 }
every_inside (edge op top height offset) k t =
    let by_kept = kept t (viewport op top height offset k t) by_row (record { fits = λ c e. by_row_lem t c (edge_lands t op top height offset k c e) }) in
    record { inside = by_kept.0; last = by_kept.1 }
every_inside (search op x) k t = record { inside = seek_sits t k op x; last = last_sought (seek op x k t) }
every_inside partner k t = record { inside = pair_sits t k.row k.col; last = last_partner (matching_bracket_pos t k.row k.col) }
