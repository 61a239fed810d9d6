-- `render::copy` meets its contract: what is copied into a part of the row is put there.
use Rattle.render.proofs.Puts.{put_copied}
use Rattle.render.proofs.copy.Goals as goal

pub returns : goal.returns
returns c = put_copied c.args.bytes.now c.args.out.now c.args.at _ c.copy_from_slice.ensures.after c.requires
