-- `place::finish` meets its contract: the bits, one of them set, joined with n.
use Rattle.configuration.proofs.Arms as arms
use Rattle.configuration.proofs.place.finish.Goals as goal

pub join-requires : goal.join-requires
join-requires c = arms.bits_below _ _ _ _ c.bits.ensures c.marked.ensures
