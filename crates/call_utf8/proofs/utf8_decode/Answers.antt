-- `utf8_decode` meets its contract, by the answers of the decoder; place and count fit, for there are at most 4,294,967,295 bytes. Assumes nothing.
use Rattle.lists.proofs.Kit.{◌≡◌, ap, sym, ◌∙◌, arith}
use Rattle.std.proofs.Common.{Err}
use Rattle.utf8.specs.Numbers.{decode_number}
use Rattle.utf8.proofs.Sizes.{decoded_most, bad_most}
use Rattle.call_utf8.proofs.Told.{decode_long, decode_text, decode_bad, decode_short}
use Rattle.call_utf8.proofs.utf8_decode.Goals as goal

-- 103
pub returns-then-bytes-gt4294967295 : goal.returns-then-bytes-gt4294967295
returns-then-bytes-gt4294967295 c =
    let told =
    decode_long _ _ _ c.if-bytes-gt4294967295.true in
    record { replied = told.0; points_after = told.1 }

pub overflow_cast-out : goal.overflow_cast-out
overflow_cast-out c =
    let given = c.args in
    let decode_is = sym c.decode.ensures.answer ∙ c.in-Ok.is in
    omega (arith, decoded_most given.bytes.now _ _ decode_is, c.if-bytes-gt4294967295.false)

pub overflow_mul-result : goal.overflow_mul-result
overflow_mul-result c =
    let given = c.args in
    let decode_is = sym c.decode.ensures.answer ∙ c.in-Err.is ∙ ap Err c.in-Bad.is in
    omega (arith, bad_most given.bytes.now _ _ decode_is, c.if-bytes-gt4294967295.false)

pub overflow_add-result : goal.overflow_add-result
overflow_add-result c =
    let given = c.args in
    let decode_is = sym c.decode.ensures.answer ∙ c.in-Err.is ∙ ap Err c.in-Bad.is in
    omega (arith, bad_most given.bytes.now _ _ decode_is, c.if-bytes-gt4294967295.false)

-- how many code points
pub returns-in-Ok : goal.returns-in-Ok
returns-in-Ok c =
    let given = c.args in
    let told =
    decode_text given.bytes.now given.points.now _ c.if-bytes-gt4294967295.false _ c.decode.ensures.left _
    (sym c.decode.ensures.answer ∙ c.in-Ok.is) in
    record { replied = told.0; points_after = told.1 }

-- 13
pub returns-in-Bad : goal.returns-in-Bad
returns-in-Bad c =
    let given = c.args in
    let told =
    decode_bad given.bytes.now given.points.now _ c.if-bytes-gt4294967295.false _ c.decode.ensures.left _
    (sym c.decode.ensures.answer ∙ c.in-Err.is ∙ ap Err c.in-Bad.is) in
    let number_is : c.number-number.result ≡ 13 = c.number-number.ensures ∙ ap decode_number c.in-Bad.is in
    rw number_is (record { replied = told.0; points_after = told.1 })

-- 14
pub returns-in-NoRoom : goal.returns-in-NoRoom
returns-in-NoRoom c =
    let given = c.args in
    let told =
    decode_short given.bytes.now given.points.now _ c.if-bytes-gt4294967295.false _ c.decode.ensures.left
    (sym c.decode.ensures.answer ∙ c.in-Err.is ∙ ap Err c.in-NoRoom.is) in
    let number_is : c.number-number.result ≡ 14 = c.number-number.ensures ∙ ap decode_number c.in-NoRoom.is in
    rw number_is (record { replied = told.0; points_after = told.1 })
