-- A case of each call on keyword lists where plus signs are retired, by one computation over what the contracts cite. Assumes nothing.
use mathlib.Core.Path.{◌≡◌, refl}
use Rattle.lists.specs.Lists.{any, up_to, on_first, split, is_same}
use Rattle.lists.specs.Codes.{codes}
use Rattle.chars.specs.White.{whites, is_white}
use Rattle.list_parts.specs.Numbers.{all_digits, value}
use Rattle.list_parts.specs.Parts.{trim_start, trim_end}
use Rattle.list_tokens.specs.Tokens.{tokens_in}
use Rattle.list_signs.specs.Signs.{before, signs_in}
use Rattle.list_signs.specs.Plain.{first_in, without}
use Rattle.call_signs.specs.Entry.{entered_count, by_entry, entered_matches, entering}
use Rattle.call_signs.specs.Plain.{plain_told}
use Rattle.promises.specs.Cases.{judged, good}
use Rattle.promises.specs.ListCalls.{entries}

-- each gives the right reply of its case, and neither of the two wrong ones
pub entries_alone : judged entries ≡ good entries
unfolding entries
    any up_to on_first split is_same codes whites is_white all_digits value trim_start trim_end tokens_in before signs_in first_in without
    entered_count by_entry entered_matches entering plain_told
entries_alone = refl
