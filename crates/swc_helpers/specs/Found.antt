-- The tests that the code makes.
use Rattle.std.specs.Prelude.{ℕ, Bool, true, false, ◌&&◌, ◌||◌, ◌==◌}
use Rattle.definition.specs.Tree.{Rec}
use Rattle.definition.specs.Grammar.{mark}
use Rattle.definition.specs.Record.{text, same_text, kids_of, text_of, is, kid}
use Rattle.definition.specs.Helpers.{is_global}
use Rattle.swc_helpers.specs.declared.DeclMutabilityKind.{DeclMutabilityKind}
use Rattle.swc_helpers.specs.declared.DeclMutabilityKind.TheVariants.{Const, Mutable}

-- as_const
abbrev pub is_const : DeclMutabilityKind → Bool
is_const Const = true
is_const Mutable = false

-- ---- tests

-- the callee of `Object.freeze`, with an unresolved `Object`
abbrev pub is_object_freeze : ℕ → Rec → Bool
is_object_freeze unresolved callee =
    is "Mb" callee && (
    is_global unresolved "Object" (kid 0 (kids_of callee)) && (
    is "Ki" (kid 1 (kids_of callee)) && same_text (text_of (kid 1 (kids_of callee))) (text "freeze")))

-- a child of a Te that is no expression
abbrev pub is_quasi : ℕ → Bool
is_quasi m = m == (mark "Qu") || m == (mark "Op")
