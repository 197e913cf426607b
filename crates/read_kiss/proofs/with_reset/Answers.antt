-- `read_kiss::with_reset` meets its contract.
use Rattle.read_kiss.specs.Says.{reset_to}
use Rattle.read_kiss.proofs.with_reset.Goals as goal

pub returns : goal.returns
unfolding reset_to
returns c = rw (c.with_name-names.ensures, c.no_names.ensures, c.moved.ensures)
