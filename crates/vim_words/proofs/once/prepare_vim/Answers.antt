-- `vim_words::once::prepare_vim` meets its contract: the flags and the letters above hold what the table's tokens hold. Assumes nothing.
use Rattle.lists.proofs.Kit.{refl, sym, ◌∙◌, arith}
use Rattle.vim_reader.specs.Table.{kept}
use Rattle.words.proofs.Letters.{no_letters}
use Rattle.vim_words.proofs.Above.{kinds_flagged}
use Rattle.vim_words.proofs.once.prepare_vim.Goals as goal

pub returns : goal.returns
returns c =
    let given = c.args in
    record {
      kinds = kinds_flagged (kept given.spec) c.flags_of-told.result c.letters_of.result given.big c.requires.low
          c.flags_of-told.ensures c.letters_of.ensures;
      room = omega arith;
      is_big = refl;
      all_rows = refl;
      content_rows = refl;
      none_high = λ z. no_letters given.t.now (sym c.needs_letters-high.ensures ∙ z);
    }
