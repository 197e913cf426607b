-- `fill`: a read fills the buffer further, by the bytes that its input had next.
use Rattle.std.proofs.Common.{rules, ◌-◌, length, take}
use borrow.Rule.Slice.PartMut.{post_of}
use Rattle.host_programs.proofs.Reading.{still-starts, read-behind}
use Rattle.host_programs.proofs.fill.Goals as goal

pub loop-filled-preserved : goal.loop-filled-preserved
loop-filled-preserved g c =
    let l = c.loop-filled in
    let held = take c.args.held c.args.bytes.now in
    let ok = c.in_ok-read.ensures in
    let rest = post_of l.filled (length l.bytes - l.filled) l.bytes in
    record {
      same_length = search rules;
      within = search rules;
      starts = still-starts l.bytes c.read.new.buf rest l.filled c.in_ok-read.read l.invariant.within ok.bound.0 held l.invariant.starts;
      read = read-behind l.bytes c.read.new.buf rest l.filled c.in_ok-read.read l.invariant.within ok.bound.0 held l.invariant.starts _ _ _ l.invariant.read ok.bytes.0;
    }
