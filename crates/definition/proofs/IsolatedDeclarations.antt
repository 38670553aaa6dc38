-- What the transform makes of the modules that TypeScript's `isolatedDeclarations` refuses: the smallest for each of its errors, evaluated.
-- docs/DIFFERENCES.md has them in a table.
use Prim.Native.Nat.{ℕ}
use Prim.Native.String.{String}
use mathlib.Core.Path.{◌≡◌, refl}
use mathlib.Core.List.{[], ◌∷◌}
use Rattle.definition.specs.Tree.{Rec, Recs, nil}
use Rattle.definition.specs.Record.{absent, one}
use Rattle.definition.proofs.SmallTrees.{
  node,
  flags,
  two,
  id,
  made,
  key,
  op,
  number,
  keyword,
  call_of,
  module_of,
  exported,
  name,
  variable,
  enum_of,
  function_of_lem,
  declared-fn,
  param,
  arrow_of,
  arrow-type,
  class_of,
  property,
  told,
  becomes,
}

-- ---- written short

-- `export const a`, with a type and an initial value
abbrev const-a : ℕ → Rec → Rec → Rec
const-a f t e = exported (variable f "a" t e)

-- `export function f(..): void`, with a body and parameters
abbrev fn : ℕ → Rec → Recs → Rec
fn f body ps = exported (declared-fn f (keyword "void") body ps)

-- `export class A` with one member; a method with flags, a key, a return type and a body
abbrev class : ℕ → Rec → Rec
class f m = exported (class_of f (one m))

abbrev method : ℕ → Rec → Rec → Rec → Rec
method f k t body = flags f (node "Me" (two k (function_of_lem t body nil)))

-- an object type of one readonly property with a type; a readonly tuple of one type
abbrev object_type_lem : Rec → Rec → Rec
object_type_lem k t = node "Li" (one (flags 1 (node "Ps" (two k t))))

abbrev tuple_type_lem : Rec → Rec
tuple_type_lem t = node "Ro" (one (node "Tu" (one (node "Tm" (two absent t)))))

-- an array literal of one element, under `as const`
abbrev const-array : Rec → Rec
const-array e = node "Tc" (one (node "Ar" (one e)))

-- a reference to a type, and the spread of b
abbrev reference : String → Rec
reference s = node "Rf" (two (id s) absent)

abbrev spread-b : Rec
spread-b = node "Sp" (one (id "b"))

-- ---- 9007 to 9009: what functions, methods and accessors return

-- `export function f() {}`; `export default function () {}`; `export const a = () => 1;`
function_return : (becomes (exported (declared-fn 0 absent (op "{}") nil)) ≡ (exported (declared-fn 1 absent absent nil), []))
    × (becomes (module_of (node "Xd" (one (node "Fx" (two absent (function_of_lem absent (op "{}") nil))))))
    ≡ (module_of (node "Xd" (one (node "Fx" (two absent (function_of_lem absent absent nil))))), []))
    × (becomes (const-a 2 absent (arrow_of absent nil)) ≡ (const-a 3 (arrow-type (keyword "any") nil) absent, []))
unfolding becomes
function_return = (refl, refl, refl)

-- `export class A { a() {} }`
method_return : becomes (class 0 (method 0 (key "a") absent (op "{}"))) ≡ (class 1 (method 0 (key "a") absent absent), [])
unfolding becomes
method_return = refl

-- `export class A { get a() { return 1; } }`
accessor_type : becomes (class 0 (method 2 (key "a") absent (op "{ return 1; }"))) ≡ (class 1 (method 2 (key "a") absent absent), [])
unfolding becomes
accessor_type = refl

-- ---- 9010 to 9013: variables, parameters, properties, expressions

-- `export const a = f();`; `export let a;`
variable-type : (becomes (const-a 2 absent (call_of "f")) ≡ (const-a 3 (keyword "any") absent, told "d2" ∷ []))
    × (becomes (const-a 0 absent absent) ≡ (const-a 1 (keyword "any") absent, told "d2" ∷ []))
unfolding becomes
variable-type = (refl, refl)

-- `export function f(a): void {}`; `export function f(a = g()): void {}`
parameter-type : (becomes (fn 0 (op "{}") (one (param "a" absent))) ≡ (fn 1 absent (one (param "a" (keyword "any"))), told "d2" ∷ []))
    × (becomes (fn 0 (op "{}") (one (node "Pa" (one (node "Ag" (two (name "a" absent) (call_of "g")))))))
    ≡ (fn 1 absent (one (node "Pa" (one (node "Bd" (two (flags 1 (id "a")) (keyword "any")))))), told "d2" ∷ []))
unfolding becomes
parameter-type = (refl, refl)

-- `export const a = (b): void => {};`: nothing tells of it
arrow-parameter : becomes (const-a 2 absent (arrow_of (keyword "void") (one (name "b" absent))))
    ≡ (const-a 3 (arrow-type (keyword "void") (one (name "b" absent))) absent, [])
unfolding becomes
arrow-parameter = refl

-- `export function f({ a }): void {}` and `export function f(...a): void {}`: nothing tells of it
abbrev pattern : Rec → Recs
pattern p = one (node "Pa" (one p))

pattern-parameter : (becomes (fn 0 (op "{}") (pattern (node "Po" (two absent (op "a"))))) ≡ (fn 1 absent (pattern (node "Po" (two absent (op "a")))), []))
    × (becomes (fn 0 (op "{}") (pattern (node "Rs" (one (op "a"))))) ≡ (fn 1 absent (pattern (node "Rs" (one (op "a")))), []))
unfolding becomes
pattern-parameter = (refl, refl)

-- `export class A { a = f(); }`; `export class A { a; }`
property-type : (becomes (class 0 (property absent (call_of "f"))) ≡ (class 1 (property (keyword "any") absent), []))
    × (becomes (class 0 (property absent absent)) ≡ (class 1 (property absent absent), []))
unfolding becomes
property-type = (refl, refl)

-- `export const a = { b: f() };`; `export const a = [f()] as const;`
expression-type : (becomes (const-a 2 absent (node "Ob" (one (node "Kv" (two (key "b") (call_of "f"))))))
    ≡ (const-a 3 (object_type_lem (made "b") (keyword "any")) absent, told "d2" ∷ []))
    × (becomes (const-a 2 absent (const-array (call_of "f"))) ≡ (const-a 3 (tuple_type_lem (keyword "any")) absent, told "d1" ∷ []))
unfolding becomes
expression-type = (refl, refl)

-- ---- 9014 to 9018: keys, objects, arrays

-- `export const a = { [f()]: 1 };` keeps the key
object_key : becomes (const-a 2 absent (node "Ob" (one (node "Kv" (two (node "Kc" (one (call_of "f"))) number)))))
    ≡ (const-a 3 (node "Li" (one (flags 3 (node "Ps" (two (call_of "f") (keyword "number")))))) absent, [])
unfolding becomes
object_key = refl

-- `export const a = { b };`, where nothing is known of b, and behind `function b(): void;`
abbrev fn-b : ℕ → Rec
fn-b f = flags f (node "Fd" (two (id "b") (function_of_lem (keyword "void") absent nil)))

abbrev shorthand-b : Rec
shorthand-b = node "Ob" (one (node "Sh" (one (id "b"))))

shorthand : (becomes (const-a 2 absent shorthand-b) ≡ (const-a 3 (node "Li" nil) absent, told "d3" ∷ []))
    × (becomes (node "Mo" (two (fn-b 0) (node "Ed" (one (variable 2 "a" absent shorthand-b)))))
    ≡ (node "Mo" (two (fn-b 1) (node "Ed" (one (variable 3 "a" (object_type_lem (made "b") (node "Tf" (one (id "b")))) absent)))), []))
unfolding becomes
shorthand = (refl, refl)

-- `export const a = [1];`, and with `as const`
array : (becomes (const-a 2 absent (node "Ar" (one number))) ≡ (const-a 3 (tuple_type_lem (keyword "number")) absent, []))
    × (becomes (const-a 2 absent (const-array number)) ≡ (const-a 3 (tuple_type_lem (node "Tl" (one number))) absent, []))
unfolding becomes
array = (refl, refl)

-- `export const a = [...b] as const;`, where nothing is known of b, and behind a `const b` with the type of an array
abbrev const-b : ℕ → Rec
const-b f = variable f "b" (node "Ay" nil) absent

array_spread : (becomes (const-a 2 absent (const-array spread-b)) ≡ (const-a 3 (keyword "any") absent, told "d4" ∷ told "d2" ∷ []))
    × (becomes (node "Mo" (two (const-b 2) (node "Ed" (one (variable 2 "a" absent (const-array spread-b))))))
    ≡ (node "Mo" (two (const-b 3) (node "Ed" (one (variable 3 "a" (tuple_type_lem (node "Rt" (one (node "Tf" (one (id "b")))))) absent)))), []))
unfolding becomes
array_spread = (refl, refl)

-- ---- 9019 to 9023: patterns, enums, classes, functions with properties

-- `export const { a } = b;`
abbrev destructured : ℕ → Rec → Rec
destructured f e = exported (flags f (node "Vd" (one (node "Vr" (two (node "Po" (two absent (op "a"))) e)))))

binding_elements : becomes (destructured 2 (id "b")) ≡ (destructured 3 absent, told "d1" ∷ [])
unfolding becomes
binding_elements = refl

-- `export enum E { A = b }`; `export enum E { A = f() }`
enum-member : (becomes (exported (enum_of 0 (id "b"))) ≡ (exported (enum_of 1 (id "b")), []))
    × (becomes (exported (enum_of 0 (call_of "f"))) ≡ (exported (enum_of 1 absent), []))
unfolding becomes
enum-member = (refl, refl)

-- `export class A extends f() {}`
extends_expression : becomes (class 0 (op "extends f()")) ≡ (class 1 (op "extends f()"), [])
unfolding becomes
extends_expression = refl

-- `export const a = class {};`
class-expression : becomes (const-a 2 absent (node "Cx" (two absent (node "Cl" (one absent))))) ≡ (const-a 3 (keyword "any") absent, told "d2" ∷ [])
unfolding becomes
class-expression = refl

-- `export function f(): void {} f.a = 1;`
function-properties : becomes (node "Mo" (two (node "Ed" (one (declared-fn 0 (keyword "void") (op "{}") nil))) (node "St" nil))) ≡ (fn 1 absent nil, [])
unfolding becomes
function-properties = refl

-- ---- 9025 to 9039: what is added, default exports, keys of classes, private names

-- `export function f(a: T = b, c: any): void {}`
parameter-undefined : becomes (fn 0 (op "{}") (two (node "Pa" (one (node "Ag" (two (name "a" (reference "T")) (id "b"))))) (param "c" (keyword "any"))))
    ≡ (fn 1 absent (two (node "Pa" (one (node "Bd" (two (flags 1 (id "a")) (reference "T"))))) (param "c" (keyword "any"))), [])
unfolding becomes
parameter-undefined = refl

-- `import "./b.ts";`
import_kept : becomes (module_of (node "Im" nil)) ≡ (module_of (node "Im" nil), [])
unfolding becomes
import_kept = refl

-- `export default f();`; `export default [1];`
default_export : (becomes (module_of (node "Xe" (one (call_of "f")))) ≡ (module_of (node "Xe" (one (call_of "f"))), []))
    × (becomes (module_of (node "Xe" (one (node "Ar" (one number)))))
    ≡ (
      node "Mo" (two
          (flags 3 (node "Vd" (one (node "Vr" (two (node "Bd" (two (made "_dts_1") (tuple_type_lem (keyword "number")))) absent)))))
          (node "Xe" (one (made "_dts_1")))),
      [],
    ))
unfolding becomes
default_export = (refl, refl)

-- `export class A { [f()](): void {} }`; `export class A { [a](): void {} }`
class-key : (becomes (class 0 (method 0 (node "Kc" (one (call_of "f"))) (keyword "void") (op "{}"))) ≡ (exported (class_of 1 nil), []))
    × (becomes (class 0 (method 0 (node "Kc" (one (id "a"))) (keyword "void") (op "{}"))) ≡ (class 1 (method 0 (node "Kc" (one (id "a"))) (keyword "void") absent), []))
unfolding becomes
class-key = (refl, refl)

-- `export let a: T;`, whatever T is
private_name : becomes (const-a 0 (reference "T") absent) ≡ (const-a 1 (reference "T") absent, [])
unfolding becomes
private_name = refl

-- ---- what is not exported

-- `const a = f();` is reported as well
unexported : becomes (module_of (variable 2 "a" absent (call_of "f"))) ≡ (module_of (variable 3 "a" (keyword "any") absent), told "d2" ∷ [])
unfolding becomes
unexported = refl
