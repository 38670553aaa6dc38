-- What the code asks of texts and of an Id.
use Rattle.std.specs.Prelude.{ℕ, ◌+◌, ◌<◌, List, Bool, ◌&&◌, eqb, get_or}
use Rattle.definition.specs.Tree.{Rec}
use Rattle.definition.specs.Record.{same_text, is, context_of, symbol_of}

-- `is_global` of a name that is given by its bytes: an Id of the unresolved context with this symbol
abbrev pub is_global_name : ℕ → List ℕ → Rec → Bool
is_global_name unresolved name r = is "Id" r && (same_text (symbol_of r) name && eqb (context_of r) unresolved)

-- the four from i on are bytes
abbrev pub FourBytes : List ℕ → ℕ → Type 0
FourBytes s i = (get_or s i 0 < 256) × (get_or s (i + 1) 0 < 256) × (get_or s (i + 2) 0 < 256) × (get_or s (i + 3) 0 < 256)
