-- What a table of cases is made of: a call by the name that the Rust has for it, its reply, the right one, and two that its contract rules out; and
-- replies in short. Definitions only. Assumes nothing.
use Rattle.std.specs.Prelude.{ℕ, List, [], ◌∷◌, Bool, true, false, eqb}
use Prim.Native.String.{String}
use Rattle.call_bytes.specs.Reply.{Reply, answer, refused}
use Rattle.lists.specs.Lists.{is_same}
use Rattle.promises.specs.Asking.{at}

-- a call, its reply, the right one and two wrong ones
pub record Case : Type 0 where
  pub call : String
  pub gives : Reply
  pub right : Reply
  pub wrong : Reply
  pub wrong' : Reply

abbrev pub case : String → Reply → Reply → Reply → Reply → Case
case call gives right wrong wrong' = record { call = call; gives = gives; right = right; wrong = wrong; wrong' = wrong' }

-- replies, told apart
abbrev pub same : Reply → Reply → Bool
same (answer v) (answer w) = is_same v w
same (answer v) (refused f) = false
same (refused f) (answer w) = false
same (refused f) (refused g) = eqb f g

-- the right reply is given, and neither of the wrong ones
pub record Judged : Type 0 where
  pub call : String
  pub right : Bool
  pub wrong : Bool
  pub wrong' : Bool

abbrev pub judged : List Case → List Judged
judged [] = []
judged (c ∷ l) =
    record { call = c.call; right = same c.gives c.right; wrong = same c.gives c.wrong; wrong' = same c.gives c.wrong' } ∷ judged l

abbrev pub good : List Case → List Judged
good [] = []
good (c ∷ l) = record { call = c.call; right = true; wrong = false; wrong' = false } ∷ good l

-- values, a caret and a search that found nothing as replies
abbrev pub value : ℕ → Reply
value n = answer (n ∷ [])

abbrev pub caret : ℕ → ℕ → Reply
caret r c = answer (at r c)

abbrev pub missing : ℕ → ℕ → Reply
missing r c = answer (0 ∷ at r c)

-- a caret with a sticky column, and one with what the screen moves remember
abbrev pub caret_to : ℕ → ℕ → ℕ → Reply
caret_to r c sticky = answer (r ∷ c ∷ 1 ∷ sticky ∷ [])

abbrev pub caret_kept : ℕ → ℕ → ℕ → ℕ → Reply
caret_kept r c kept offset = answer (r ∷ c ∷ 1 ∷ 9 ∷ kept ∷ offset ∷ [])
