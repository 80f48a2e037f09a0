-- A case of each call on UTF-8, as in `Cases`. Definitions only; `proofs/Codings.antt` computes them. Assumes nothing.
use Rattle.std.specs.Prelude.{◌+◌, ◌*◌, List, [], ◌∷◌}
use Rattle.call_bytes.specs.Reply.{refused}
use Rattle.call_utf8.specs.Utf8.{decodes, encodes}
use Rattle.promises.specs.Cases.{Case, case, value}

-- UTF-8 from and to code points: `é`, a surrogate, whose second byte can't stand there, and an arrow
unfoldable pub codings : List Case
codings =
    case "utf8_decode" (decodes (0xc3 ∷ 0xa9 ∷ []) (9 ∷ [])) (value 1) (value 2) (refused 13) ∷
    case "utf8_decode" (decodes (0xed ∷ 0xa0 ∷ 0x80 ∷ []) []) (refused (13 + 4294967296 * 1)) (refused 13) (refused 14) ∷
    case "utf8_encode" (encodes (0x2192 ∷ []) (9 ∷ 9 ∷ 9 ∷ [])) (value 3) (value 1) (refused 14) ∷
    case "utf8_encode" (encodes (0xd800 ∷ []) []) (refused 2) (value 3) (refused 14) ∷
    []
