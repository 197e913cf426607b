-- Both machines of a listing, and a step of both as code has it.
use Rattle.std.specs.Prelude.{List, ℕ, take}
use Rattle.rules.specs.Listing.{all_rows}
use Rattle.rules.specs.Replay.{state_in}
use Rattle.rules.specs.declared.Listing.{Listing}
use Rattle.run_symbolic.specs.Told.{untold, told_by, outputs_told}
use Rattle.run_encoded.specs.Terms.{terms_for, code_by}
use Rattle.run_encoded.specs.declared.Terms.{Terms}
use Rattle.run_replay.specs.declared.Machines.{Machines}
use Rattle.run_replay.specs.declared.Moved.{Moved}

-- ---- both machines

unfoldable pub machines_of : Listing → ℕ → List ℕ → Machines
unfolding terms_for
machines_of t width bits = record { listing = t; width = width; bits = bits; terms = terms_for t (take width bits) }

-- ---- a step of both

unfoldable pub moved_by : Listing → Terms → ℕ → ℕ → ℕ → ℕ → Moved
unfolding told_by state_in outputs_told code_by all_rows
moved_by t ts w x s code = record {
  next = (told_by t.head x s untold (all_rows t)).next;
  state = state_in (told_by t.head x s untold (all_rows t)).next;
  outputs = outputs_told (told_by t.head x s untold (all_rows t));
  code = code_by t.head.inputs w x code 0 (take ts.count ts.table);
}
