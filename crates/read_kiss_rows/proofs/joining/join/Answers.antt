-- `joining::join` meets its contract.
use Rattle.read_kiss_rows.proofs.Joined.{join_by}
use mathlib.Core.Path.{refl, sym}
use borrow.Author.Tests.{lt-ltb, le-ltb, le-leb, lt-leb}
use Rattle.read_kiss_rows.proofs.joining.join.Goals as goal

pub returns-then-place-ge-MOST_ROWS : goal.returns-then-place-ge-MOST_ROWS
returns-then-place-ge-MOST_ROWS c = sym (join_by _ _ _ _ _ c.place_of-place.ensures (le-leb _ _ c.if-place-ge-MOST_ROWS.true) refl)

pub returns-then-place-rows : goal.returns-then-place-rows
returns-then-place-rows c = sym (join_by _ _ _ _ _ c.place_of-place.ensures (lt-leb _ _ c.if-place-ge-MOST_ROWS.false) (lt-ltb _ _ c.if-place-rows.true))

pub returns : goal.returns
returns c = sym (join_by _ _ _ _ _ c.place_of-place.ensures (lt-leb _ _ c.if-place-ge-MOST_ROWS.false) (le-ltb _ _ c.if-place-rows.false))
