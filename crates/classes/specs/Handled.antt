-- The return type of a function that was handled.
use Rattle.std.specs.Prelude.{Bool, cond}
use Rattle.definition.specs.Tree.{Rec}
use Rattle.definition.specs.Record.{gone}

-- of a setter, or of another
abbrev pub return_type_kept : Bool → Rec → Rec
return_type_kept setter r = cond setter (gone r) r
