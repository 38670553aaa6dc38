-- Where the transform differs from the handbook: the smallest examples, evaluated. docs/DIFFERENCES.md tells of each under its name here.
use Prim.Native.Nat.{ℕ}
use mathlib.Core.Path.{◌≡◌, refl}
use mathlib.Core.List.{[], ◌∷◌, ◌++◌}
use mathlib.Core.Bool.{Bool, true, false}
use mathlib.Core.Option.{some}
use Rattle.definition.specs.Tree.{Rec, Recs, nil, le4}
use Rattle.definition.specs.Grammar.{marks, member}
use Rattle.definition.specs.Record.{text, same_text, absent, one}
use Rattle.definition.specs.Handbook.{property_key, only_ops, plain_template, negated_number, negated_integer, negated_literal, negated_keyword, literal_kind, type_by, literal_expr, const_type, variable_type, is_array, annotated_kind, annotation_by, annotation, enum_kind, constant_by, constant_enum, entity_name}
use Rattle.definition.proofs.SmallTrees.{
  leaf,
  node,
  flags,
  two,
  three,
  id,
  made,
  key,
  op,
  number,
  number_2,
  keyword,
  call_of,
  module_of,
  name,
  variable,
  const,
  enum_of,
  declared-fn,
  function_of_lem,
  param,
  param-default,
  arrow_of,
  arrow-type,
  class_of,
  property,
  told,
  becomes,
}

-- a name under which the definitions from the handbook unfold
unfoldable handbook : Unit {0}
unfolding
    marks member same_text property_key only_ops plain_template negated_number negated_integer negated_literal negated_keyword literal_kind type_by literal_expr
    variable_type is_array annotated_kind annotation_by annotation enum_kind constant_by constant_enum entity_name
handbook = tt

-- ---- the types of initial values

-- `const a = 1;` is a number, and not 1
literal_constant : (becomes (const 2 "a" absent number) ≡ (const 3 "a" (keyword "number") absent, []))
    × (variable_type true number ≡ some (node "Tl" (one number)))
unfolding becomes handbook
literal_constant = (refl, refl)

-- `const a = [1, 2];` is a readonly tuple, and not an array; as a class property it is a tuple
abbrev tuple : Rec
tuple = node "Tu" (two (node "Tm" (two absent (keyword "number"))) (node "Tm" (two absent (keyword "number"))))

abbrev in_class : ℕ → Rec → Rec → Rec
in_class f t e = module_of (class_of f (one (property t e)))

array-literal : (becomes (const 2 "a" absent (node "Ar" (two number number_2))) ≡ (const 3 "a" (node "Ro" (one tuple)) absent, []))
    × (becomes (in_class 0 absent (node "Ar" (two number number_2))) ≡ (in_class 1 tuple absent, []))
    × (is_array (node "Ro" (one tuple)) ≡ false)
    × (is_array tuple ≡ false)
unfolding becomes handbook
array-literal = (refl, refl, refl, refl)

-- `const a = [,];` has an element of any, and nothing tells of it
array_hole : becomes (const 2 "a" absent (node "Ar" (one absent)))
    ≡ (const 3 "a" (node "Ro" (one (node "Tu" (one (node "Tm" (two absent (keyword "any"))))))) absent, [])
unfolding becomes
array_hole = refl

-- `const a = { b: 1 };` has readonly properties
object_literal : (becomes (const 2 "a" absent (node "Ob" (one (node "Kv" (two (key "b") number)))))
    ≡ (const 3 "a" (node "Li" (one (flags 1 (node "Ps" (two (made "b") (keyword "number")))))) absent, []))
    × (variable_type true (node "Ob" (one (node "Kv" (two (key "b") number)))) ≡ some (node "Li" (one (node "Ps" (two (made "b") (keyword "number"))))))
unfolding becomes handbook
object_literal = (refl, refl)

-- ``const a = `x${b}` as const;`` is a string, and no template literal type
template_with_substitutions : becomes (const 2 "a" absent (node "Tc" (one (node "Te" (three (flags 1 (leaf "Qu" (text "x"))) (flags 1 (leaf "Qu" [])) (id "b"))))))
    ≡ (const 3 "a" (keyword "string") absent, [])
unfolding becomes
template_with_substitutions = refl

-- `const a = (1) as const;` is any, with d2, where `const a = 1 as const;` is 1
parentheses : (becomes (const 2 "a" absent (node "Tc" (one (node "Pr" (one number))))) ≡ (const 3 "a" (keyword "any") absent, told "d2" ∷ []))
    × (becomes (const 2 "a" absent (node "Tc" (one number))) ≡ (const 3 "a" (node "Tl" (one number)) absent, []))
    × (const_type number ≡ some (node "Tl" (one number)))
unfolding becomes handbook
parentheses = (refl, refl, refl)

-- `const a = <number>1;` is any, with d2
angle_brackets : (becomes (const 2 "a" absent (node "Ta" (two number (keyword "number")))) ≡ (const 3 "a" (keyword "any") absent, told "d2" ∷ []))
    × (annotation (node "Ta" (two number (keyword "number"))) ≡ some (keyword "number"))
unfolding becomes handbook
angle_brackets = (refl, refl)

-- `const a = undefined;` is any, with d2; `const a = undefined as const;` is undefined
abbrev undefined : Rec
undefined = leaf "Id" (le4 1 ++ text "undefined")

undefined_constant : (becomes (const 2 "a" absent undefined) ≡ (const 3 "a" (keyword "any") absent, told "d2" ∷ []))
    × (becomes (const 2 "a" absent (node "Tc" (one undefined))) ≡ (const 3 "a" (keyword "undefined") absent, []))
unfolding becomes
undefined_constant = (refl, refl)

-- `const a = { b() {} };` and `const a = { b };` have no b, with d3
method_left_out : (becomes (const 2 "a" absent (node "Ob" (one (node "Pq" nil)))) ≡ (const 3 "a" (node "Li" nil) absent, told "d3" ∷ []))
    × (becomes (const 2 "a" absent (node "Ob" (one (node "Sh" (one (id "b")))))) ≡ (const 3 "a" (node "Li" nil) absent, told "d3" ∷ []))
unfolding becomes
method_left_out = (refl, refl)

-- `const { a } = b;` keeps its pattern, without a type and an initial value, with d1
abbrev destructured : ℕ → Rec → Rec
destructured f e = module_of (flags f (node "Vd" (one (node "Vr" (two (node "Po" (two absent (op "a"))) e)))))

destructuring : becomes (destructured 2 (id "b")) ≡ (destructured 3 absent, told "d1" ∷ [])
unfolding becomes
destructuring = refl

-- ---- default exports

-- `export default f();` stays an expression, and nothing tells of it
default-expression : becomes (module_of (node "Xe" (one (call_of "f")))) ≡ (module_of (node "Xe" (one (call_of "f"))), [])
unfolding becomes
default-expression = refl

-- `namespace A { export default 1; }` has a declared const inside the namespace
abbrev namespace : ℕ → Recs → Rec
namespace f rs = module_of (flags f (node "Ns" (two (op "A") (node "Nb" rs))))

default_in_namespace : becomes (namespace 0 (one (node "Xe" (one number))))
    ≡ (
      namespace 1 (two
          (flags 3 (node "Vd" (one (node "Vr" (two (node "Bd" (two (made "_dts_1") (keyword "number"))) absent)))))
          (node "Xe" (one (made "_dts_1")))),
      [],
    )
unfolding becomes
default_in_namespace = refl

-- ---- functions

-- `const f = (a: any = 1) => {};` has a parameter of number, which is not optional
default_of_arrow : (becomes (const 2 "f" absent (arrow_of absent (one (node "Ag" (two (name "a" (keyword "any")) number)))))
    ≡ (const 3 "f" (arrow-type (keyword "any") (one (node "Bd" (two (made "a") (keyword "number"))))) absent, []))
    × (annotation (node "Ag" (two (name "a" (keyword "any")) number)) ≡ some (keyword "any"))
    × (annotation (node "Bd" (two (made "a") (keyword "number"))) ≡ some (keyword "number"))
unfolding becomes handbook
default_of_arrow = (refl, refl, refl)

-- `const f = (a = b) => {};` has no parameter, and nothing tells of it
parameter_left_out : becomes (const 2 "f" absent (arrow_of absent (one (node "Ag" (two (name "a" absent) (id "b"))))))
    ≡ (const 3 "f" (arrow-type (keyword "any") nil) absent, [])
unfolding becomes
parameter_left_out = refl

-- `function f(a = 1, b: any) {}` has an optional parameter before a required one
default_before_required : becomes (module_of (declared-fn 0 absent (op "{}") (two param-default (param "b" (keyword "any")))))
    ≡ (module_of (declared-fn 1 absent absent (two (node "Pa" (one (node "Bd" (two (flags 1 (id "a")) (keyword "number"))))) (param "b" (keyword "any")))), [])
unfolding becomes
default_before_required = refl

-- `export default function (a = 1) {}` keeps the default
abbrev default-fn : Rec → Rec
default-fn body = module_of (node "Xd" (one (node "Fx" (two absent (function_of_lem absent body (one param-default))))))

default-function : becomes (default-fn (op "{}")) ≡ (default-fn absent, [])
unfolding becomes
default-function = refl

-- `function f() { return 1; }` has no return type
return_type_lem : becomes (module_of (declared-fn 0 absent (op "{ return 1; }") nil)) ≡ (module_of (declared-fn 1 absent absent nil), [])
unfolding becomes
return_type_lem = refl

-- `async function f() {}` stays async, `function* f() {}` a generator
abbrev flagged-fn : ℕ → ℕ → Rec → Rec
flagged-fn f g body = module_of (flags f (node "Fd" (two (id "f") (flags g (function_of_lem absent body nil)))))

async_function : (becomes (flagged-fn 0 1 (op "{}")) ≡ (flagged-fn 1 1 absent, [])) × (becomes (flagged-fn 0 2 (op "{}")) ≡ (flagged-fn 1 2 absent, []))
unfolding becomes
async_function = (refl, refl)

-- `using a = b;` stays as it is
using_kept : becomes (module_of (node "Us" nil)) ≡ (module_of (node "Us" nil), [])
unfolding becomes
using_kept = refl

-- ---- classes

-- `class A { constructor(public a: any) {} }` keeps the parameter property
parameter-property : becomes (module_of (class_of 0 (one (node "Co" (two (op "{}") (node "Pp" (one (name "a" (keyword "any")))))))))
    ≡ (module_of (class_of 1 (one (node "Co" (two absent (node "Pp" (one (name "a" (keyword "any")))))))), [])
unfolding becomes
parameter-property = refl

-- `class A { accessor a = 1; }` has no a, and nothing tells of it
auto_accessor : becomes (module_of (class_of 0 (one (node "Dm" nil)))) ≡ (module_of (class_of 1 nil), [])
unfolding becomes
auto_accessor = refl

-- `class A { #a; static {} }` has nothing in their place, and nothing tells of it
private_members : becomes (module_of (class_of 0 (two (node "Dm" nil) (node "Dm" nil)))) ≡ (module_of (class_of 1 nil), [])
unfolding becomes
private_members = refl

-- `class A { [a.b]() {} }` and `class A { [a.b]; }` have no such member, and nothing tells of it
abbrev dotted-key : Rec
dotted-key = node "Kc" (one (node "Mb" (two (id "a") (key "b"))))

invalid_key : (becomes (module_of (class_of 0 (one (node "Me" (two dotted-key (function_of_lem absent (op "{}") nil)))))) ≡ (module_of (class_of 1 nil), []))
    × (becomes (module_of (class_of 0 (one (node "Cp" (three dotted-key absent absent))))) ≡ (module_of (class_of 1 nil), []))
unfolding becomes
invalid_key = (refl, refl)

-- `class A { a = f(); }` has an a of any, and nothing tells of it
untyped-property : becomes (in_class 0 absent (call_of "f")) ≡ (in_class 1 (keyword "any") absent, [])
unfolding becomes
untyped-property = refl

-- `@d class A {}` keeps its decorator
decorator : becomes (module_of (class_of 0 (one (op "@d")))) ≡ (module_of (class_of 1 (one (op "@d"))), [])
unfolding becomes
decorator = refl

-- ---- enums

-- a module of an enum; no name is that of a constant member, and every name is
abbrev enum : ℕ → Rec → Rec
enum f e = module_of (enum_of f e)

abbrev no_name : Rec → Bool
no_name r = false

abbrev every-name : Rec → Bool
every-name r = entity_name r

-- `enum E { A = -1 }` loses the value
minus_in_enum : (becomes (enum 0 (node "Mi" (one number))) ≡ (enum 1 absent, [])) × (constant_enum no_name (node "Mi" (one number)) ≡ true)
unfolding becomes handbook
minus_in_enum = (refl, refl)

-- `enum E { A = "123".length }`, the handbook's own example of a computed member, keeps the value
abbrev length_of : Rec
length_of = node "Mb" (two (leaf "Ss" (text "123")) (key "length"))

length_in_enum : (becomes (enum 0 length_of) ≡ (enum 1 length_of, [])) × (constant_enum every-name length_of ≡ false)
unfolding becomes handbook
length_in_enum = (refl, refl)

-- `enum E { A = b }`, whatever b is, keeps the value
variable_in_enum : (becomes (enum 0 (id "b")) ≡ (enum 1 (id "b"), [])) × (constant_enum no_name (id "b") ≡ false)
unfolding becomes handbook
variable_in_enum = (refl, refl)

-- `enum E { A = a?.b }`, ``enum E { A = `${b}` }`` and `enum E { A = f() as 1 }` keep the value
abbrev chain : Rec
chain = node "Oc" (one (node "Mb" (two (id "a") (key "b"))))

abbrev template : Rec
template = node "Te" (three (flags 1 (leaf "Qu" [])) (flags 1 (leaf "Qu" [])) (id "b"))

abbrev asserted : Rec
asserted = node "As" (two (call_of "f") (node "Tl" (one number)))

computed_in_enum : (becomes (enum 0 chain) ≡ (enum 1 chain, []))
    × (becomes (enum 0 template) ≡ (enum 1 template, []))
    × (becomes (enum 0 asserted) ≡ (enum 1 asserted, []))
    × (constant_enum every-name chain ≡ false)
    × (constant_enum every-name template ≡ false)
    × (constant_enum every-name asserted ≡ false)
unfolding becomes handbook
computed_in_enum = (refl, refl, refl, refl, refl, refl)

-- `enum E { A }` gets no value
member_without_value : becomes (enum 0 absent) ≡ (enum 1 absent, [])
unfolding becomes
member_without_value = refl

-- ---- namespaces

-- `namespace A { const a: any; }` keeps what it does not export
abbrev block : ℕ → Rec
block f = namespace f (one (variable 2 "a" (keyword "any") absent))

unexported_in_namespace : becomes (block 0) ≡ (block 1, [])
unfolding becomes
unexported_in_namespace = refl
