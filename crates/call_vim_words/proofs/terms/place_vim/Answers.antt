-- `terms::place_vim` meets its contract, by the cases of the answer. Assumes nothing.
use Rattle.lists.proofs.Kit.{refl}
use Rattle.call_vim_words.specs.ByTerm.{vim_moved}
use Rattle.call_vim_words.proofs.terms.place_vim.Goals as goal

pub placed_at-requires : goal.placed_at-requires
placed_at-requires c = rw c.in-Bad.is at c.requires

pub returns-in-To : goal.returns-in-To
unfolding vim_moved
returns-in-To c =
    let told = c.place.ensures in
    rw c.in-To.is (record { numbered = told.numbered; out_left = told.out_left })

pub returns-in-Bad : goal.returns-in-Bad
unfolding vim_moved
returns-in-Bad c = rw c.in-Bad.is (record { numbered = c.placed_at.ensures; out_left = refl })

pub returns-in-Refused : goal.returns-in-Refused
unfolding vim_moved
returns-in-Refused c = rw c.in-Refused.is (record { numbered = refl; out_left = refl })
