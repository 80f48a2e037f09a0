-- A law of keys: an empty one is unknown. Assumes nothing.
use Rattle.lists.proofs.Kit.{◌≡◌, refl, List, [], ℕ}
use Rattle.lists.specs.Codes.{codes}
use Rattle.lists.specs.Lists.{is_same}
use Rattle.motions.specs.declared.Caret.{Caret}
use Rattle.motions.specs.declared.Moved.TheVariants.{Refused}
use Rattle.session_keys.specs.Keys.{two_bytes, word_keys, line_keys, place_keys, found}
use Rattle.session_presses.specs.Pressed.{act_of, acted, pressed}

pub pressed_none : (t : List ℕ) (n : ℕ) (k : Caret) → pressed [] t n k ≡ Refused 0
unfolding acted act_of found is_same codes two_bytes word_keys line_keys place_keys
pressed_none t n k = refl
