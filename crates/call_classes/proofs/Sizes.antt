-- So many classes fit a u32. Assumes nothing.
use Rattle.lists.proofs.Kit.{◌≡◌, refl, ap, List, Bool, true, false, cond, ℕ, ◌+◌, ◌≤◌, arith, length, eqb, eqb-true}
use Rattle.text_check.specs.Accept.{text_refusal}
use Rattle.text_check.proofs.Accepted.{accepted_short}
use Rattle.positions.proofs.Lowest.{lowest_none}
use Rattle.word_classes.specs.declared.Written.{Written}
use Rattle.word_classes.specs.declared.Written.TheVariants.{Made, Refused}
use Rattle.word_classes.specs.Call.{write_refusal, written_by, written_of}

unfoldable size_of : Written → ℕ
size_of (Made n) = n
size_of (Refused f) = 0

pub written_size : (t list room : List ℕ) (n : ℕ) → Made n ≡ written_of t list room → n ≤ 1048577
unfolding size_of written_by
written_size t list room n e = go (eqb (write_refusal t list room) 0) refl (ap size_of e)
  where
    go : (b : Bool) → eqb (write_refusal t list room) 0 ≡ b → n ≡ size_of (cond b (Made (length t + 1)) (Refused (write_refusal t list room))) → n ≤ 1048577
    go true q s = omega (arith, s, accepted_short t (lowest_none (text_refusal t) _ (eqb-true _ 0 q)).0)
    go false q s = omega (arith, s)
