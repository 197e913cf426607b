-- `host_check::check` meets its contract: the listing is read as one, and what is found is 02's reply.
use mathlib.Core.Path.{◌∙◌}
use Rattle.judge_check.proofs.Replies.{check-is}
use Rattle.host_check.proofs.Lines.{as_listing}
use Rattle.host_check.proofs.check.Goals as goal

pub returns : goal.returns
returns c =
    let a = c.args in
    check-is a.listing.now a.codes.now a.cover.now (c.read_as-got.ensures ∙ as_listing a.listing.now) c.check.ensures
