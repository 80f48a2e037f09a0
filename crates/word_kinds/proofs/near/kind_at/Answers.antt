-- `word_kinds::near::kind_at` meets its contract: at the end of the text, on a separator, on a character. Assumes nothing.
use Rattle.lists.proofs.Kit.{◌∙◌, arith}
use Rattle.word_kinds.specs.Lent.{is_high}
use Rattle.lists.proofs.Any.{any_there}
use Rattle.word_kinds.proofs.Ahead.{end_kind, nl_kind, char_kind}
use Rattle.word_kinds.proofs.near.kind_at.Goals as goal

-- a high code point of the text
pub char_kind-requires : goal.char_kind-requires
char_kind-requires c =
    record {
      room = c.requires.0.room;
      lent = λ h. c.requires.0.lent (any_there is_high c.args.t.now c.args.p.at (omega (arith, c.if-at-t.false)) h);
    }

pub returns-then-at-t : goal.returns-then-at-t
returns-then-at-t c =
    end_kind c.args.t.now c.args.p c.requires.1 c.if-at-t.true _

pub returns-then-x-eq10 : goal.returns-then-x-eq10
returns-then-x-eq10 c =
    nl_kind c.args.t.now c.args.p c.requires.1 (omega (arith, c.if-at-t.false)) c.if-x-eq10.true _

pub returns : goal.returns
returns c =
    c.char_kind.ensures ∙ char_kind c.args.t.now c.args.p c.requires.1 (omega (arith, c.if-at-t.false)) c.if-x-eq10.false _
