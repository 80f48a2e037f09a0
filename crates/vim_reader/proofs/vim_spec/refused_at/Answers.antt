-- `vim_spec::refused_at` meets its contract: the table is the empty one. Assumes nothing.
use Rattle.vim_reader.proofs.vim_spec.refused_at.Goals as goal

pub returns : goal.returns
returns c = λ i. record { refusal = c.args.n; place = c.args.place; spec = c.new-spec.ensures i }
