-- `Caret::by_list` meets its contract: the list's refusal, or the motion by its table, which holds what the list does. Assumes nothing.
use Rattle.lists.proofs.Kit.{ap, ◌∙◌, List}
use Rattle.list_tokens.specs.declared.Token.{Token}
use Rattle.list_tokens.specs.Tokens.{any_token}
use Rattle.keywords.specs.declared.Parsed.{Parsed}
use Rattle.keywords.proofs.Agree.{parse_kept, parse_length}
use Rattle.motions.specs.declared.Sought.TheVariants.{Found}
use Rattle.motions.specs.WordMoves.{folds_of, word_caret}
use Rattle.motions.proofs.Finding.{seek_refused, seek_found}
use Rattle.motions.proofs.Caret.by_list.Goals as goal

pub returns-then-p-ne0 : goal.returns-then-p-ne0
returns-then-p-ne0 c =
    seek_refused (ap (λ (x : Parsed). x.refusal) c.parse-p.ensures) _ c.if-p-ne0.true

pub to_word-requires : goal.to_word-requires
to_word-requires c =
    record {
      word = c.requires;
      short = parse_length c.args.list.now c.parse-p.result c.parse-p.ensures c.if-p-ne0.false;
    }

pub returns : goal.returns
returns c =
    let given = c.args in
    seek_found (ap (λ (x : Parsed). x.refusal) c.parse-p.ensures) _ _ c.if-p-ne0.false (ap Found (c.to_word.ensures
    ∙ ap (λ (ts : List Token). word_caret given.t.now (folds_of given.m given.folds.now) (any_token ts) given.big given.m given.stop
    given.count given.self) (parse_kept given.list.now c.parse-p.result c.parse-p.ensures c.if-p-ne0.false)))
