-- A case is a row of numbers: the group of calls, the operation in it, eight numbers, how many numbers follow of a text or row, of folds and
-- of a list, those, and then the stored answer. What the contracts of `replay_rows::cases` cite. Assumes nothing.
use Rattle.std.specs.Prelude.{ℕ, ◌+◌, ◌-◌, List, get_or, take, drop}
use Rattle.replay_rows.specs.declared.Head.{Head}

-- the operation and the eight numbers
unfoldable pub head_of : List ℕ → Head
head_of ns =
    record {
      op = get_or ns 1 0;
      a = get_or ns 2 0;
      b = get_or ns 3 0;
      c = get_or ns 4 0;
      d = get_or ns 5 0;
      e = get_or ns 6 0;
      f = get_or ns 7 0;
      g = get_or ns 8 0;
      h = get_or ns 9 0;
    }

-- where folds, list and answer begin
abbrev pub folds_at : List ℕ → ℕ
folds_at ns = 13 + get_or ns 10 0

abbrev pub list_at : List ℕ → ℕ
list_at ns = folds_at ns + get_or ns 11 0

abbrev pub stored_at : List ℕ → ℕ
stored_at ns = list_at ns + get_or ns 12 0

-- the numbers from one index to another
abbrev pub part : ℕ → ℕ → List ℕ → List ℕ
part from to ns = take (to - from) (drop from ns)
