-- `read_full` meets its contract: what a turn reads stands behind what the turns before it read. Assumes nothing.
use Rattle.std.proofs.Common.{◌≡◌, ◌∙◌, ℕ, ◌+◌, ◌≤◌, List, ◌++◌, rules, ap, sym, subst, length, take}
use Rattle.std.proofs.lemmas.List.{take-append-le, length-take-le}
use Rattle.std.proofs.Math.Seq.{take-append-add}
use Rattle.std.specs.Io.KnownBytes.{Consumes}
use Rattle.std.proofs.KnownBytes.{Consumes-trans}
use borrow.Rule.Slice.PartMut.{put_mid, post_of}
use Rattle.full_reads.proofs.read_full.Goals as goal

-- the first n of ys stand behind the first i of xs, where ys is written over xs from i on
take-put_mid_more : (i k n : ℕ) (xs ys : List ℕ) → i ≤ length xs → n ≤ length ys → take (i + n) (put_mid i k xs ys) ≡ take i xs ++ take n ys
take-put_mid_more i k n xs ys within fits =
    let front = take i xs in
    ap (λ m. take (m + n) (put_mid i k xs ys)) (sym (length-take-le i xs within))
    ∙ take-append-add front (ys ++ post_of i k xs) n
    ∙ ap (λ l. front ++ l) (take-append-le n ys _ fits)

pub loop-done-preserved : goal.loop-done-preserved
loop-done-preserved g c =
    let invariant = c.loop-done.invariant in
    let told = c.in_ok-n.ensures in
    let joined = take-put_mid_more c.loop-done.done _ c.in_ok-n.n c.loop-done.input c.read.new.buf invariant.1 told.bound.0 in
    (search rules, search rules, subst (Consumes _ _) (sym joined) (Consumes-trans _ _ _ _ _ invariant.2 told.bytes.0))
