-- `write_rows::kept_row` meets its contract.
use Rattle.rules.specs.Listing.{all_rows}
use Rattle.write_rows.proofs.Kept.{kept-made}
use Rattle.write_rows.proofs.kept_row.Goals as goal

pub returns : goal.returns
returns c = kept-made (all_rows c.args.t) c.args.row c.said_one.ensures
