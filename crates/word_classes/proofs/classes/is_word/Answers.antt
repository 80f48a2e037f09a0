-- `word_classes::classes::is_word` meets its contract: a scalar value and a table of at most 128 tokens are not refused. Assumes nothing.
use Rattle.lists.proofs.Kit.{◌≡◌, sym, ◌∙◌, ℕ, arith, le-leb}
use Rattle.list_tokens.specs.Tokens.{any_token}
use Rattle.keywords.specs.declared.KeywordSpec.{KeywordSpec}
use Rattle.keywords.specs.declared.Matched.TheVariants.{Is}
use Rattle.keywords.specs.Table.{kept, matches_of}
use Rattle.word_classes.specs.Classes.{Askable}
use Rattle.word_classes.proofs.classes.is_word.Goals as goal

answered : (spec : KeywordSpec) (x : ℕ) → Askable spec x → matches_of spec x ≡ Is (any_token (kept spec) x)
answered spec x a = rw (a.scalar, le-leb spec.len 128 a.short)

pub returns-in-Is : goal.returns-in-Is
returns-in-Is c =
    cc (sym c.in-Is.is ∙ c.matches.ensures ∙ answered c.args.spec c.args.x c.requires)

pub returns-in-Refused : goal.returns-in-Refused
returns-in-Refused c =
    let never : ◌≡◌ {A = ℕ} 0 1 =
    cc (sym c.in-Refused.is ∙ c.matches.ensures ∙ answered c.args.spec c.args.x c.requires) in
    absurd (omega arith)
