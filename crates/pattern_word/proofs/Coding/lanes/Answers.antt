-- `lanes` meets its contract: the digits, recalled.
use Rattle.pattern_word.proofs.Recalled as recalled
use Rattle.pattern_word.proofs.Coding.lanes.Goals as goal

pub returns : goal.returns
returns c = let h = c.args.self.now.width in
    let d = c.unpack.ensures in
    (recalled.lanes_recalled _ _ h _ _ d c.recall.ensures, recalled.recalled_below _ _ h _ _ d c.recall.ensures)
