-- A case of each call on Vim's own lists, by one computation over what the contracts cite. Assumes nothing.
use mathlib.Core.Path.{◌≡◌, refl}
use Rattle.lists.specs.Lists.{any, is_same}
use Rattle.lists.specs.Codes.{codes}
use Rattle.print.specs.Print.{spell, decimal}
use Rattle.vim_grammar.specs.Tokens.{decided}
use Rattle.vim_reader.specs.Machine.{most_of, first_of, start_of, behind, number_step, second_of, dash_step, second_step, done_step, step_of, sign_token, token_of, ends}
use Rattle.vim_reader.specs.Machine.{phase_of}
use Rattle.vim_reader.specs.Reading.{onto, later, reading}
use Rattle.vim_reader.specs.Table.{answered}
use Rattle.vim_writer.specs.Written.{end_text, item_text, token_text, behind as behind_of, written, write_refusal, written_of, written_in}
use Rattle.call_vim.specs.Vim.{vim_count, tested_placed, vim_by, written_placed, vim_writing, vim_left}
use Rattle.promises.specs.Cases.{judged, good}
use Rattle.promises.specs.ListCalls.{vims}

-- each gives the right reply of its case, and neither of the two wrong ones
pub vims_alone : judged vims ≡ good vims
unfolding vims
    any is_same codes spell decimal decided most_of first_of start_of behind number_step second_of dash_step second_step done_step step_of sign_token token_of ends phase_of
    onto later reading answered end_text item_text token_text behind_of written write_refusal written_of written_in
    vim_count tested_placed vim_by written_placed vim_writing vim_left
vims_alone = refl
