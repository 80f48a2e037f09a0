-- `vim_words::once::vim_motion` meets its contract: what was made is what the walk goes by. Assumes nothing.
use Rattle.word_kinds.specs.Spots.{place_of}
use Rattle.word_kinds.proofs.Telling.{tells_too}
use Rattle.words.proofs.Made.{made_ready, made_motion}
use Rattle.vim_words.proofs.once.vim_motion.Goals as goal

pub walk_made-requires : goal.walk_made-requires
walk_made-requires c =
    made_ready c.prepare_vim-made.ensures c.requires.folded

pub returns : goal.returns
returns c =
    let given = c.args in
    let from = place_of given.t.now given.p in
    let motion = made_motion c.prepare_vim-made.ensures given.folds.now given.m given.stop given.count from in
    tells_too c.walk_made.ensures motion
