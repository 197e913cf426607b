-- Bytes that are moved to the start of a buffer.
use Rattle.std.specs.Prelude.{List, ◌++◌, ℕ, ◌-◌, min, length, take, drop}

-- how many there are from one place to another
unfoldable pub moved_count : ℕ → ℕ → List ℕ → ℕ
moved_count from end l = min end (length l) - from

-- they stand at the start, and what stood behind the places that they now have stands there still
unfoldable pub moved_up : ℕ → ℕ → List ℕ → List ℕ
unfolding moved_count
moved_up from end l = take (moved_count from end l) (drop from l) ++ drop (moved_count from end l) l
