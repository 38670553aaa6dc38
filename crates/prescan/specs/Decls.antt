-- What the code asks of the definition's prescan by parts.
use Rattle.std.specs.Prelude.{◌≡◌, List, Bool, ◌&&◌, ◌⊎◌, ℕ}
use Rattle.definition.specs.Tree.{Rec}
use Rattle.definition.specs.Grammar.{mark}
use Rattle.definition.specs.Record.{head_of, kids_of, has2}
use Rattle.definition.specs.Prescan.{add_declarators, Question}

-- the marks of functions and of classes, which stand behind their names
abbrev pub Fn : ℕ → Type 0
Fn m = (m ≡ mark "Fd") ⊎ (m ≡ mark "Fx")

abbrev pub Class : ℕ → Type 0
Class m = (m ≡ mark "Cd") ⊎ (m ≡ mark "Cx")

abbrev pub Named : ℕ → Type 0
Named m = Fn m ⊎ Class m

-- what the declarators of a Vd add: `add_decl` of one
abbrev pub add_var : Question → List ℕ → Rec → Bool
add_var q name r = has2 (head_of r) && add_declarators q name (kids_of r)
