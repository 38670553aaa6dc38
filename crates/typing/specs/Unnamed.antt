-- A parameter whose name is generated once its type has been written: bytes that are moved up, and what stands before them.
use Rattle.std.specs.Prelude.{◌≡◌, List, ℕ, ◌+◌, ◌≤◌, ◌<◌, length, get_or}
use Rattle.definition.specs.Record.{Range}
use Rattle.definition.specs.Names.{gen_unique_name}
use Rattle.records.specs.Wrote.{sat, Put}
use Rattle.output.specs.declared.Output.{Output}
use Rattle.output.specs.declared.Start.{Start}
use Rattle.typing.specs.Parts.{binding_front, unique_front, longest_front}

-- `before` became `after` when what stood from `from` to `to` was moved up by `by`, as far as there is room; all below is as before
pub record Moved (before after : List ℕ) (from to by : ℕ) : Type 0 where
  pub same : length after ≡ length before
  pub keep : (i : ℕ) → i < from + by → get_or after i 0 ≡ get_or before i 0
  pub moved : (i : ℕ) → from + i < to → from + by + i < length before → get_or after (from + by + i) 0 ≡ get_or before (from + i) 0

-- the parameter was written from `start` on, around its type, which stood behind the room for the name that the counter n gives; the type went up by
-- what the name of the counter of o is longer
pub record Unnamed (o o' : Output) (start : Start) (n : ℕ) (at : Range) : Type 0 where
  pub between : List ℕ
  pub next : ℕ
  pub by : ℕ
  pub short : unique_front (o.names.id_counter + 1) ≤ longest_front
  pub size : unique_front (n + 1) + by ≡ unique_front (o.names.id_counter + 1)
  pub moved : Moved o.out.now.out.now between (sat start.at (unique_front (n + 1))) o.out.now.at by
  pub put : Put between o'.out.now.out.now start.at (binding_front at (gen_unique_name (o.names.id_counter + 1))) next
  pub same : o'.out.ghost_name ≡ o.out.ghost_name
  pub buffer : o'.out.now.out.ghost_name ≡ o.out.now.out.ghost_name
  pub position : o'.out.now.at ≡ sat o.out.now.at by
  pub diagnostics : o'.diagnostics ≡ o.diagnostics
  pub counter : o'.names.id_counter ≡ o.names.id_counter + 1
  pub fits : o'.fits ≡ o.fits
