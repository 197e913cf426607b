-- `judge_reading::read_cover` meets its contract: the whole lines, and then the end.
use Rattle.judge_reading.proofs.Whole.{read-within, read-verdict, read-tables}
use Rattle.judge_reading.proofs.read_cover.Goals as goal

pub slice_bounds-close-count : goal.slice_bounds-close-count
slice_bounds-close-count c =
    read-within c.args.q _ c.start.ensures c.read_piece-got.ensures.piece

pub slice_bounds-close-start : goal.slice_bounds-close-start
slice_bounds-close-start c =
    read-within c.args.q _ c.start.ensures c.read_piece-got.ensures.piece

pub returns : goal.returns
returns c =
    let a = c.args in record { verdict = read-verdict a.q a.text.now c.start.ensures c.read_piece-got.ensures.piece c.close.ensures; tables = read-tables a.q a.text.now c.start.ensures c.read_piece-got.ensures.piece (a.fires.now, a.says.now) c.read_piece-got.ensures.tables }
