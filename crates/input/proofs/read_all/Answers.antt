-- `input::read_all` meets its contract: each read puts its bytes behind those of the reads before, and takes them from the reader.
use Rattle.std.proofs.Common.{ℕ, ◌+◌, ◌-◌, ◌≤◌, List, ◌++◌, rules, length, take, ap, ◌∙◌, drop_at, length-take-le}
use Rattle.std.specs.declared.option.Option.{Option}
use Rattle.std.specs.Io.KnownBytes.{Consumes}
use Rattle.std.proofs.KnownBytes.{Consumes-trans, Consumes-kept}
use borrow.Rule.Slice.PartMut.{put_mid, post_of, take_put}
use lib.Seq.{take-add, take-append-le}
use Rattle.input.proofs.read_all.Goals.{in-Ok, in-Err+else-ne}
use Rattle.input.proofs.read_all.Goals as goal

-- the bytes of a read, behind those of the reads before
further : (a b d : Option (List ℕ)) (n k : ℕ) (buf new : List ℕ) → n ≤ length buf → k ≤ length new → Consumes a b (take n buf) → Consumes b d (take k new)
    → Consumes a d (take (n + k) (put_mid n (length buf - n) buf new))
further a b d n k buf new within fits before more =
    let room = length buf - n in
    let after = post_of n room buf in
    let part = ap (take k) (drop_at (take n buf) (new ++ after) n (length-take-le n buf within)) ∙ take-append-le k new after fits in
    rw (take-add n k (put_mid n room buf new), take_put n room buf new within, part) (Consumes-trans a b d _ _ before more)

pub loop-preserved : goal.loop-preserved
loop-preserved g c =
    let l = c.loop in
    let new = c.read.new.buf in
    elim c.match-read.branch [
      | in-Ok w ↦ (search rules, search rules, rw w.n-is (further _ _ _ l.n w.in-Ok.got l.buf new l.invariant.0 w.in-Ok.ensures.bound.0 l.invariant.2 w.in-Ok.ensures.bytes.0))
      | in-Err+else-ne w ↦ (search rules, search rules, rw (w.n-is, take_put l.n (length l.buf - l.n) l.buf new l.invariant.0) (Consumes-kept _ _ _ _ l.invariant.2 w.in-Err.ensures.bytes))
    ]
