-- Each kind of reply fills its places. Assumes nothing.
use Rattle.lists.proofs.Kit.{◌≡◌, refl, length, replicate}
use Rattle.bracket_walks.specs.declared.Partner.{Partner}
use Rattle.bracket_walks.specs.declared.Partner.TheVariants.{There, None, Refused as Partner-as-Refused}
use Rattle.motions.specs.declared.Moved.{Moved}
use Rattle.motions.specs.declared.Moved.TheVariants.{To, Refused as Moved-as-Refused}
use Rattle.motions.specs.declared.Sought.{Sought}
use Rattle.motions.specs.declared.Sought.TheVariants.{Found, Missing, Refused as Sought-as-Refused}
use Rattle.bracket_inner.specs.declared.Inner.{Inner}
use Rattle.bracket_inner.specs.declared.Inner.TheVariants.{Pair, None as Inner-as-None, Refused as Inner-as-Refused}
use Rattle.call_bytes.specs.Reply.{left}
use Rattle.call_texts.specs.Partners.{partnered}
use Rattle.call_texts.specs.Inners.{surrounded}
use Rattle.call_texts.specs.Carets.{moved, moved_six}
use Rattle.call_texts.specs.Seeks.{sought}
use Rattle.replay_verdicts.specs.Answers.{filler}

pub partnered_sized : (p : Partner) → length (left (partnered p) (replicate 3 filler)) ≡ 3
unfolding partnered
partnered_sized (There p) = refl
partnered_sized None = refl
partnered_sized (Partner-as-Refused f) = refl

pub surrounded_sized : (m : Inner) → length (left (surrounded m) (replicate 9 filler)) ≡ 9
unfolding surrounded
surrounded_sized (Pair r) = refl
surrounded_sized Inner-as-None = refl
surrounded_sized (Inner-as-Refused f) = refl

pub moved_sized : (m : Moved) → length (left (moved m) (replicate 4 filler)) ≡ 4
unfolding moved
moved_sized (To k) = refl
moved_sized (Moved-as-Refused f) = refl

pub six_sized : (m : Moved) → length (left (moved_six m) (replicate 6 filler)) ≡ 6
unfolding moved_six
six_sized (To k) = refl
six_sized (Moved-as-Refused f) = refl

pub sought_sized : (s : Sought) → length (left (sought s) (replicate 5 filler)) ≡ 5
unfolding sought
sought_sized (Found k) = refl
sought_sized (Missing k) = refl
sought_sized (Sought-as-Refused f) = refl
