-- A case of each call on UTF-8, by one computation over what the contracts cite. Assumes nothing.
use mathlib.Core.Path.{◌≡◌, refl}
use Rattle.lists.specs.Lists.{any, is_same}
use Rattle.utf8.specs.Encoding.{encoding, utf8}
use Rattle.utf8.specs.Decoding.{onto, is_lead, tails_of, low_of, high_of, bits_of, ended, reading}
use Rattle.utf8.specs.Calls.{decoded, encode_refusal, encode_error, encoded}
use Rattle.call_utf8.specs.Utf8.{told_decoded, decodes, told_encoded}
use Rattle.promises.specs.Cases.{judged, good}
use Rattle.promises.specs.Codings.{codings}

-- each gives the right reply of its case, and neither of the two wrong ones
pub codings_alone : judged codings ≡ good codings
unfolding codings
    any is_same encoding utf8 onto is_lead tails_of low_of high_of bits_of ended reading decoded encode_refusal encode_error encoded told_decoded decodes told_encoded
codings_alone = refl
