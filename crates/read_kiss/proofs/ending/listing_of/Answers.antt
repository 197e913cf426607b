-- `ending::listing_of` meets its contract.
use Rattle.read_kiss.proofs.Endings.{made_by}
use Rattle.read_kiss.proofs.ending.listing_of.Goals as goal

pub returns : goal.returns
returns c = made_by _ _ _ _ c.blank_listing-t.ensures c.cut_table-whole.ensures
