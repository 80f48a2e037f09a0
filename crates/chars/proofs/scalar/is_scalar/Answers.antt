-- `chars::is_scalar` meets its contract: the tests of the definition, by the branches. Assumes nothing.
use Rattle.lists.proofs.Kit.{and-true, and-false, arith, le-leb, lt-ltb, le-ltb}
use Rattle.chars.proofs.scalar.is_scalar.Goals as goal

-- below the surrogates
pub returns-then-x-lt55296 : goal.returns-then-x-lt55296
returns-then-x-lt55296 c = let given_x = c.args.x in rw (le-leb given_x 0x10ffff (omega arith), lt-ltb given_x 0xd800 (omega arith))

-- a surrogate
pub returns-then-x-le57343 : goal.returns-then-x-le57343
returns-then-x-le57343 c =
    let given_x = c.args.x in
    rw (le-ltb given_x 0xd800 (omega arith), le-ltb 0xdfff given_x (omega arith), and-false)

-- above the surrogates
pub returns : goal.returns
returns c =
    let given_x = c.args.x in
    rw (le-ltb given_x 0xd800 (omega arith), lt-ltb 0xdfff given_x (omega arith), and-true)
