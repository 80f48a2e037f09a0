-- `session_keys::key_of` meets its contract: the bytes of each arm are their key in the table, and any other bytes are none of its names.
-- Assumes nothing.
use Rattle.lists.proofs.Kit.{arith}
use Rattle.lists.specs.Codes.{codes}
use Rattle.lists.specs.Lists.{is_same}
use Rattle.session_keys.specs.Keys.{two_bytes, word_keys, line_keys, place_keys, found}
use Rattle.session_keys.proofs.Laws.{key_of_one, key_of_two, unknown_length, unknown_one, unknown_two}
use Rattle.session_keys.proofs.key_of.Goals as goal

-- a key of two bytes
pub returns-in-ge : goal.returns-in-ge
unfolding two_bytes found is_same codes
returns-in-ge c = key_of_two c.args.name.now 103 101 (omega arith) (omega arith) (omega arith)

pub returns-in-gE : goal.returns-in-gE
unfolding two_bytes found is_same codes
returns-in-gE c = key_of_two c.args.name.now 103 69 (omega arith) (omega arith) (omega arith)

pub returns-in-103 : goal.returns-in-103
unfolding two_bytes found is_same codes
returns-in-103 c = key_of_two c.args.name.now 103 95 (omega arith) (omega arith) (omega arith)

pub returns-in-91 : goal.returns-in-91
unfolding two_bytes found is_same codes
returns-in-91 c = key_of_two c.args.name.now 91 91 (omega arith) (omega arith) (omega arith)

pub returns-in-93 : goal.returns-in-93
unfolding two_bytes found is_same codes
returns-in-93 c = key_of_two c.args.name.now 93 93 (omega arith) (omega arith) (omega arith)

pub returns-in-91-2 : goal.returns-in-91-2
unfolding two_bytes found is_same codes
returns-in-91-2 c = key_of_two c.args.name.now 91 93 (omega arith) (omega arith) (omega arith)

pub returns-in-93-2 : goal.returns-in-93-2
unfolding two_bytes found is_same codes
returns-in-93-2 c = key_of_two c.args.name.now 93 91 (omega arith) (omega arith) (omega arith)

pub returns-in-gg : goal.returns-in-gg
unfolding two_bytes found is_same codes
returns-in-gg c = key_of_two c.args.name.now 103 103 (omega arith) (omega arith) (omega arith)

-- a key of one byte
pub returns-in-h : goal.returns-in-h
unfolding two_bytes word_keys line_keys place_keys found is_same codes
returns-in-h c = key_of_one c.args.name.now 104 (omega arith) (omega arith)

pub returns-in-l : goal.returns-in-l
unfolding two_bytes word_keys line_keys place_keys found is_same codes
returns-in-l c = key_of_one c.args.name.now 108 (omega arith) (omega arith)

pub returns-in-w : goal.returns-in-w
unfolding two_bytes word_keys line_keys place_keys found is_same codes
returns-in-w c = key_of_one c.args.name.now 119 (omega arith) (omega arith)

pub returns-in-b : goal.returns-in-b
unfolding two_bytes word_keys line_keys place_keys found is_same codes
returns-in-b c = key_of_one c.args.name.now 98 (omega arith) (omega arith)

pub returns-in-e : goal.returns-in-e
unfolding two_bytes word_keys line_keys place_keys found is_same codes
returns-in-e c = key_of_one c.args.name.now 101 (omega arith) (omega arith)

pub returns-in-W : goal.returns-in-W
unfolding two_bytes word_keys line_keys place_keys found is_same codes
returns-in-W c = key_of_one c.args.name.now 87 (omega arith) (omega arith)

pub returns-in-B : goal.returns-in-B
unfolding two_bytes word_keys line_keys place_keys found is_same codes
returns-in-B c = key_of_one c.args.name.now 66 (omega arith) (omega arith)

pub returns-in-E : goal.returns-in-E
unfolding two_bytes word_keys line_keys place_keys found is_same codes
returns-in-E c = key_of_one c.args.name.now 69 (omega arith) (omega arith)

pub returns-in-48 : goal.returns-in-48
unfolding two_bytes word_keys line_keys place_keys found is_same codes
returns-in-48 c = key_of_one c.args.name.now 48 (omega arith) (omega arith)

pub returns-in-94 : goal.returns-in-94
unfolding two_bytes word_keys line_keys place_keys found is_same codes
returns-in-94 c = key_of_one c.args.name.now 94 (omega arith) (omega arith)

pub returns-in-36 : goal.returns-in-36
unfolding two_bytes word_keys line_keys place_keys found is_same codes
returns-in-36 c = key_of_one c.args.name.now 36 (omega arith) (omega arith)

pub returns-in-123 : goal.returns-in-123
unfolding two_bytes word_keys line_keys place_keys found is_same codes
returns-in-123 c = key_of_one c.args.name.now 123 (omega arith) (omega arith)

pub returns-in-125 : goal.returns-in-125
unfolding two_bytes word_keys line_keys place_keys found is_same codes
returns-in-125 c = key_of_one c.args.name.now 125 (omega arith) (omega arith)

pub returns-in-43 : goal.returns-in-43
unfolding two_bytes word_keys line_keys place_keys found is_same codes
returns-in-43 c = key_of_one c.args.name.now 43 (omega arith) (omega arith)

pub returns-in-45 : goal.returns-in-45
unfolding two_bytes word_keys line_keys place_keys found is_same codes
returns-in-45 c = key_of_one c.args.name.now 45 (omega arith) (omega arith)

pub returns-in-95 : goal.returns-in-95
unfolding two_bytes word_keys line_keys place_keys found is_same codes
returns-in-95 c = key_of_one c.args.name.now 95 (omega arith) (omega arith)

pub returns-in-G : goal.returns-in-G
unfolding two_bytes word_keys line_keys place_keys found is_same codes
returns-in-G c = key_of_one c.args.name.now 71 (omega arith) (omega arith)

pub returns-in-124 : goal.returns-in-124
unfolding two_bytes word_keys line_keys place_keys found is_same codes
returns-in-124 c = key_of_one c.args.name.now 124 (omega arith) (omega arith)

pub returns-in-37 : goal.returns-in-37
unfolding two_bytes word_keys line_keys place_keys found is_same codes
returns-in-37 c = key_of_one c.args.name.now 37 (omega arith) (omega arith)

pub returns-in-j : goal.returns-in-j
unfolding two_bytes word_keys line_keys place_keys found is_same codes
returns-in-j c = key_of_one c.args.name.now 106 (omega arith) (omega arith)

pub returns-in-k : goal.returns-in-k
unfolding two_bytes word_keys line_keys place_keys found is_same codes
returns-in-k c = key_of_one c.args.name.now 107 (omega arith) (omega arith)

-- none of them
pub returns-in_default : goal.returns-in_default
returns-in_default c = unknown_length c.args.name.now (omega arith) (omega arith)

pub returns-in_default-7 : goal.returns-in_default-7
returns-in_default-7 c = unknown_length c.args.name.now (omega arith) (omega arith)

pub returns-in_default-2 : goal.returns-in_default-2
returns-in_default-2 c = unknown_one c.args.name.now (omega arith) (omega arith) (omega arith) (omega arith) (omega arith) (omega arith) (omega arith) (omega arith) (omega arith) (omega arith) (omega arith) (omega arith) (omega arith) (omega arith) (omega arith) (omega arith) (omega arith) (omega arith) (omega arith) (omega arith) (omega arith) (omega arith)

pub returns-in_default-3 : goal.returns-in_default-3
returns-in_default-3 c = unknown_two c.args.name.now (omega arith) (λ p q. omega arith) (λ p q. omega arith) (λ p q. omega arith) (λ p q. omega arith) (λ p q. omega arith) (λ p q. omega arith) (λ p q. omega arith) (λ p q. omega arith)

pub returns-in_default-4 : goal.returns-in_default-4
returns-in_default-4 c = unknown_two c.args.name.now (omega arith) (λ p q. omega arith) (λ p q. omega arith) (λ p q. omega arith) (λ p q. omega arith) (λ p q. omega arith) (λ p q. omega arith) (λ p q. omega arith) (λ p q. omega arith)

pub returns-in_default-5 : goal.returns-in_default-5
returns-in_default-5 c = unknown_two c.args.name.now (omega arith) (λ p q. omega arith) (λ p q. omega arith) (λ p q. omega arith) (λ p q. omega arith) (λ p q. omega arith) (λ p q. omega arith) (λ p q. omega arith) (λ p q. omega arith)

pub returns-in_default-6 : goal.returns-in_default-6
returns-in_default-6 c = unknown_two c.args.name.now (omega arith) (λ p q. omega arith) (λ p q. omega arith) (λ p q. omega arith) (λ p q. omega arith) (λ p q. omega arith) (λ p q. omega arith) (λ p q. omega arith) (λ p q. omega arith)
