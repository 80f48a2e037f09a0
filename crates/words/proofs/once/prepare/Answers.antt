-- `words::once::prepare` meets its contract: the bounds of the table hold what its tokens hold. Assumes nothing.
use Rattle.lists.proofs.Kit.{◌≡◌, refl, sym, ◌∙◌, arith, length, rules}
use Rattle.list_tokens.proofs.Lists.{places}
use Rattle.words.proofs.Classes.{kinds_by}
use Rattle.words.proofs.Letters.{no_letters}
use Rattle.words.proofs.once.prepare.Goals as goal

pub returns : goal.returns
returns c =
    let bounds_of_call = c.bounds_of-bounds in
    let letters_of_call = c.letters_of in
    let given = c.args in
    let size_is : length given.spec.tokens ≡ 128 = search (rules, places) in
    record {
      kinds = kinds_by given.spec (omega (arith, c.requires)) given.big bounds_of_call.result letters_of_call.result
          bounds_of_call.ensures letters_of_call.ensures;
      room = search rules;
      is_big = refl;
      all_rows = refl;
      content_rows = refl;
      none_high = λ z. no_letters given.t.now (sym c.needs_letters-high.ensures ∙ z);
    }
