-- Each kind of reply fills its places, beside a table too. Assumes nothing.
use Rattle.lists.proofs.Kit.{◌≡◌, refl, Bool, true, false, cond, ℕ, length, replicate, length-replicate, eqb}
use Rattle.motions.specs.declared.Moved.{Moved}
use Rattle.motions.specs.declared.Moved.TheVariants.{To, Refused as Moved-as-Refused}
use Rattle.motions.specs.declared.Sought.{Sought}
use Rattle.motions.specs.declared.Sought.TheVariants.{Found, Missing, Refused as Sought-as-Refused}
use Rattle.call_bytes.specs.Reply.{Reply, answer, refused, left}
use Rattle.call_texts.specs.Carets.{moved, moved_six}
use Rattle.call_texts.specs.Seeks.{sought}
use Rattle.call_motion_rows.specs.Asks.{replied_by}
use Rattle.replay_verdicts.specs.Answers.{filler}

tabled_sized : (n g : ℕ) (m : Reply) → length (left m (replicate n filler)) ≡ n → length (left (replied_by g m) (replicate n filler)) ≡ n
unfolding replied_by
tabled_sized n g (refused f) e = e
tabled_sized n g (answer v) e = go (eqb g 0)
  where
    go : (b : Bool) → length (left (cond b (answer v) (refused g)) (replicate n filler)) ≡ n
    go true = e
    go false = length-replicate n filler

pub moved_sized : (g : ℕ) (m : Moved) → length (left (replied_by g (moved m)) (replicate 4 filler)) ≡ 4
unfolding moved
moved_sized g (To k) = tabled_sized 4 g (moved (To k)) refl
moved_sized g (Moved-as-Refused f) = tabled_sized 4 g (moved (Moved-as-Refused f)) refl

pub six_sized : (g : ℕ) (m : Moved) → length (left (replied_by g (moved_six m)) (replicate 6 filler)) ≡ 6
unfolding moved_six
six_sized g (To k) = tabled_sized 6 g (moved_six (To k)) refl
six_sized g (Moved-as-Refused f) = tabled_sized 6 g (moved_six (Moved-as-Refused f)) refl

pub sought_sized : (g : ℕ) (s : Sought) → length (left (replied_by g (sought s)) (replicate 5 filler)) ≡ 5
unfolding sought
sought_sized g (Found k) = tabled_sized 5 g (sought (Found k)) refl
sought_sized g (Missing k) = tabled_sized 5 g (sought (Missing k)) refl
sought_sized g (Sought-as-Refused f) = tabled_sized 5 g (sought (Sought-as-Refused f)) refl
