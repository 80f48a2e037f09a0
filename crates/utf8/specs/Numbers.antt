-- The number of each refusal in the calls for hosts. Definitions only. Assumes nothing.
use Rattle.std.specs.Prelude.{ℕ}
use Rattle.utf8.specs.declared.DecodeError.{DecodeError}
use Rattle.utf8.specs.declared.DecodeError.TheVariants.{Bad, NoRoom}
use Rattle.utf8.specs.declared.EncodeError.{EncodeError}
use Rattle.utf8.specs.declared.EncodeError.TheVariants.{TooLong, NotScalar, NoRoom as EncodeError-as-NoRoom}

-- 13: a byte that can't stand at its place; 14: too little room
abbrev pub decode_number : DecodeError → ℕ
decode_number (Bad at) = 13
decode_number NoRoom = 14

-- 1: more than 1,048,576 code points; 2: a value that is no scalar value; 14: too little room
abbrev pub encode_number : EncodeError → ℕ
encode_number TooLong = 1
encode_number NotScalar = 2
encode_number EncodeError-as-NoRoom = 14
