-- What the transform makes of the modules that JSR's page on slow types rules out, as far as `isolatedDeclarations` doesn't: the smallest for each rule,
-- evaluated. docs/DIFFERENCES.md has them in a table.
use Prim.Native.String.{String}
use mathlib.Core.Path.{◌≡◌, refl}
use mathlib.Core.List.{[], ◌∷◌}
use Rattle.definition.specs.Tree.{Rec, nil, cons}
use Rattle.definition.specs.Record.{absent, one}
use Rattle.definition.proofs.SmallTrees.{node, flags, two, key, op, number, keyword, module_of, exported, variable, class_of, told, becomes}

-- ---- simple inference

-- `export const a = 1 + 1;`, which the page lets pass, is any, with d2
simple_inference : becomes (exported (variable 2 "a" absent (node "Bn" (two number number)))) ≡ (exported (variable 3 "a" (keyword "any") absent), told "d2" ∷ [])
unfolding becomes
simple_inference = refl

-- ---- augmentation

-- `declare module "a" {}` and `declare global {}` stay
abbrev ambient : String → Rec
ambient s = module_of (flags 1 (node "Ns" (two (op s) (node "Nb" nil))))

ambient_module : becomes (ambient "\"a\"") ≡ (ambient "\"a\"", [])
unfolding becomes
ambient_module = refl

global_augmentation : becomes (ambient "global") ≡ (ambient "global", [])
unfolding becomes
global_augmentation = refl

-- ---- CommonJS

-- `import a = require("a");`, `export = a;` and `export as namespace A;` stay
abbrev statement : String → Rec
statement s = module_of (node "Im" (one (op s)))

common_js : (becomes (statement "import a = require(\"a\");") ≡ (statement "import a = require(\"a\");", []))
    × (becomes (statement "export = a;") ≡ (statement "export = a;", []))
    × (becomes (statement "export as namespace A;") ≡ (statement "export as namespace A;", []))
unfolding becomes
common_js = (refl, refl, refl)

-- ---- using

-- an exported `using` goes, with d5 at it and d1 at the export
exported_using : becomes (exported (node "Us" nil)) ≡ (node "Mo" nil, told "d5" ∷ told "d1" ∷ [])
unfolding becomes
exported_using = refl

-- ---- private members

-- `export class A { private a = 1; }`: a private property is typed as any other
abbrev private_a : Rec → Rec → Rec
private_a t e = node "Cp" (cons (key "a") (cons t (two e (op "private"))))

private_property : becomes (exported (class_of 0 (one (private_a absent number)))) ≡ (exported (class_of 1 (one (private_a (keyword "number") absent))), [])
unfolding becomes
private_property = refl
