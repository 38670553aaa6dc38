-- "The signature of the implementation is not visible from the outside": with a list that names the implementations, the transform of some items, or
-- of the members of a class, is that of those which the handbook calls visible.
use mathlib.Core.Path.{◌≡◌, refl}
use mathlib.Core.List.{List, []}
use mathlib.Core.Bool.{Bool, true, false, not, ◌&&◌, ◌||◌}
use mathlib.Core.Option.{some}
use Prim.Native.Nat.{ℕ}
use native.Mathlib.Omega.{arith}
use lib.Dec.{eqb}
use borrow.Author.Tests.{eqb-true}
use Rattle.definition.specs.Tree.{Head, Rec, Recs, rec, nil, cons, count}
use Rattle.definition.specs.Grammar.{mark, marks, member as one_of}
use Rattle.definition.specs.Record.{head_of, kids_of, mark_of, is, among, is_no, with_flags, has1, kid, set_kid, one, gone, listed, Typing, each, flat}
use Rattle.definition.specs.Classes.{handle_function, constructor_part, constructor, method, prop_type, prop_flags, class_prop, member_kind, member_by, member}
use Rattle.definition.specs.Names.{valid_prop_name}
use Rattle.definition.specs.Items.{
  decl_to_type_decl,
  transform_module_stmt,
  export_decl,
  export_default_decl,
  item_by,
  transform_module_items,
  transform_module_item,
}
use Rattle.definition.proofs.Tests.{and-true}
use Rattle.definition.proofs.HandbookDeclarations.{default_fx}
use Rattle.definition.proofs.ItemKinds.{kind_export, kind-default, kind-fn, fn-item}
use Rattle.definition.proofs.SilenceModule.{member_co, member_me}
use Rattle.definition.specs.Handbook.{function_in, body_of, same_name, implements, implements_method, implements_constructor, implements_member, visible, Names}

-- ---- tests

or_true : {A : Type 0} (a b : Bool) → (a ≡ true → A) → (b ≡ true → A) → (a || b) ≡ true → A
or_true true b f g e = f refl
or_true false b f g e = g e

not-true : (a : Bool) → not a ≡ true → a ≡ false
not-true true e = absurd (let z : ◌≡◌ {A = ℕ} 0 1 = cc in omega arith)
not-true false e = refl

-- ---- items

-- an item that declares a function
data Declares : Rec → Type 0 where
  bare : {h : Head} {ks : Recs} → h.mark ≡ mark "Fd" → Declares (rec h ks)
  exported : {h dh : Head} {ks ops : Recs} → h.mark ≡ mark "Ed" → dh.mark ≡ mark "Fd" → Declares (rec h (cons (rec dh ks) ops))
  default : {h : Head} {ks : Recs} → h.mark ≡ mark "Xd" → mark_of (kid 0 ks) ≡ mark "Fx" → Declares (rec h ks)

declares : (r : Rec) → is_no (function_in r) ≡ false → Declares r
unfolding function_in
declares (rec h ks) e = go (eqb h.mark (mark "Fd")) (eqb h.mark (mark "Ed")) (is "Fd" (kid 0 ks)) (eqb h.mark (mark "Xd")) (is "Fx" (kid 0 ks)) refl refl refl refl refl
  where
    held : (ks : Recs) → h.mark ≡ mark "Ed" → is "Fd" (kid 0 ks) ≡ true → Declares (rec h ks)
    held nil m p = absurd (let z : false ≡ true = p in let y : ◌≡◌ {A = ℕ} 0 1 = cc in omega arith)
    held (cons (rec dh ds) ops) m p = exported m (eqb-true _ _ p)

    never : {A : Type 0} → ◌≡◌ {A = Bool} true false → A
    never z = absurd (let y : ◌≡◌ {A = ℕ} 0 1 = cc in omega arith)

    go : (a b c d f : Bool) → eqb h.mark (mark "Fd") ≡ a → eqb h.mark (mark "Ed") ≡ b → is "Fd" (kid 0 ks) ≡ c → eqb h.mark (mark "Xd") ≡ d →
        is "Fx" (kid 0 ks) ≡ f → Declares (rec h ks)
    go true b c d f p q s t u = bare (eqb-true _ _ p)
    go false true true d f p q s t u = held ks (eqb-true _ _ q) s
    go false true false true true p q s t u = default (eqb-true _ _ t) (eqb-true _ _ u)
    go false true false true false p q s t u = never (rw (p, q, s, t, u) at e)
    go false true false false f p q s t u = never (rw (p, q, s, t) at e)
    go false false c true true p q s t u = default (eqb-true _ _ t) (eqb-true _ _ u)
    go false false c true false p q s t u = never (rw (p, q, t, u) at e)
    go false false c false f p q s t u = never (rw (p, q, t) at e)

-- an implementation declares a function
implements-declares : (before r : Rec) → implements before r ≡ true → Declares r
unfolding implements
implements-declares before r e =
    let f : Rec = function_in before in
    let g : Rec = function_in r in
    let a = and-true (same_name f g) (is_no (body_of f) && not (is_no (body_of g))) e in
    let b = and-true (not (is_no f)) _ a.0 in
    let c = and-true (not (is_no g)) _ b.1 in
    declares r (not-true (is_no g) c.0)

-- an implementation of a method is a method, one of a constructor a constructor
method-is : (before r : Rec) → implements_method before r ≡ true → mark_of r ≡ mark "Me"
unfolding implements_method
method-is before r e = eqb-true _ _ (and-true (is "Me" r) _ e).0

constructor-is : (before r : Rec) → implements_constructor before r ≡ true → mark_of r ≡ mark "Co"
unfolding implements_constructor
constructor-is before r e = eqb-true _ _ (and-true (is "Co" r) _ e).0

module _ (list : List ℕ) (ctx : ℕ) (ty : Typing) where
  -- of an item that declares a function nothing is left if its range is listed, and one item if it is not
  listed_hidden : {r : Rec} → Declares r → (top : Bool) (n : ℕ) → listed list (head_of r) ≡ true → transform_module_item list ctx ty r top n ≡ (nil, [], n)
  unfolding transform_module_item item_by transform_module_stmt export_decl export_default_decl
  listed_hidden (bare {h} m) top n l = rw (fn-item h.mark m, kind-fn h.mark m, l)
  listed_hidden (exported {h} {dh} m d) top n l = rw (kind_export h.mark m, kind-fn dh.mark d, l)
  listed_hidden (default {h} {ks} m d) top n l = rw (kind-default h.mark m, default_fx (mark_of (kid 0 ks)) d, l)

  unlisted_declared : {r : Rec} → Declares r → (top : Bool) (n : ℕ) → listed list (head_of r) ≡ false → count (transform_module_item list ctx ty r top n).0 ≡ 1
  unfolding transform_module_item item_by transform_module_stmt export_decl export_default_decl decl_to_type_decl
  unlisted_declared (bare {h} m) top n l = rw (fn-item h.mark m, kind-fn h.mark m, l)
  unlisted_declared (exported {h} {dh} m d) top n l = rw (kind_export h.mark m, kind-fn dh.mark d, l)
  unlisted_declared (default {h} {ks} m d) top n l = rw (kind-default h.mark m, default_fx (mark_of (kid 0 ks)) d, l)

  pub function_hidden : (r : Rec) (top : Bool) (n : ℕ) → is_no (function_in r) ≡ false → listed list (head_of r) ≡ true → transform_module_item list ctx ty r top n ≡ (nil, [], n)
  function_hidden r top n f l = listed_hidden (declares r f) top n l

  pub function-declared : (r : Rec) (top : Bool) (n : ℕ) → is_no (function_in r) ≡ false → listed list (head_of r) ≡ false → count (transform_module_item list ctx ty r top n).0 ≡ 1
  function-declared r top n f l = unlisted_declared (declares r f) top n l

  -- the items of a module, or of a namespace
  pub overloads_agree : (before : Rec) (rs : Recs) (top : Bool) (n : ℕ) → Names implements list before rs →
      transform_module_items list ctx ty rs top n ≡ transform_module_items list ctx ty (visible implements before rs) top n
  unfolding transform_module_items visible Names
  overloads_agree before nil top n names = refl
  overloads_agree before (cons r rs) top n names = go (implements before r) refl (λ n. overloads_agree r rs top n names.1)
    where
      go : (b : Bool) → implements before r ≡ b →
          ((n : ℕ) → transform_module_items list ctx ty rs top n ≡ transform_module_items list ctx ty (visible implements r rs) top n) →
          transform_module_items list ctx ty (cons r rs) top n ≡ transform_module_items list ctx ty (visible implements before (cons r rs)) top n
      go true e f = rw (e, listed_hidden (implements-declares before r e) top n (names.0 e)) (f n)
      go false e f = rw (e, f (transform_module_item list ctx ty r top n).2)

  -- ---- the members of a class

  hidden_member : (before r : Rec) (n : ℕ) → implements_member before r ≡ true → listed list (head_of r) ≡ true → member list ctx ty r n ≡ (nil, [], n)
  unfolding implements_member member_by
  hidden_member before r n e l =
      or_true (implements_method before r) (implements_constructor before r)
      (λ m. rw (member_me (mark_of r) (method-is before r m), l))
      (λ m. rw (member_co (mark_of r) (constructor-is before r m), l))
      e

  -- a member that is not listed stays one of its mark: a constructor, an index signature, and a method or a property whose key is valid
  pub member-declared : (r : Rec) (n : ℕ) → among "Co Me Cp Ix" (mark_of r) ≡ true →
      (among "Me Cp" (mark_of r) ≡ true → (key : Rec) × (valid_prop_name ctx (kid 0 (kids_of r)) ≡ some key)) → listed list (head_of r) ≡ false →
      (q : Rec) × ((member list ctx ty r n).0 ≡ one q) × (mark_of q ≡ mark_of r)
  unfolding member_by member_kind constructor method class_prop marks one_of
  member-declared (rec h ks) n k v l =
      go (eqb h.mark (mark "Co")) (eqb h.mark (mark "Me")) (eqb h.mark (mark "Cp")) (eqb h.mark (mark "Ix")) refl refl refl refl
    where
      Stays : Type 0
      Stays = (q : Rec) × ((member list ctx ty (rec h ks) n).0 ≡ one q) × (mark_of q ≡ h.mark)

      method_stays : (key : Rec) → valid_prop_name ctx (kid 0 ks) ≡ some key → eqb h.mark (mark "Co") ≡ false → eqb h.mark (mark "Me") ≡ true → Stays
      method_stays key w p q = (rec h (set_kid 0 key (set_kid 1 (handle_function ty (has1 h) (kid 1 ks) n).0 ks)), rw (p, q, l, w), refl)

      property_stays : (key : Rec) → valid_prop_name ctx (kid 0 ks) ≡ some key → eqb h.mark (mark "Co") ≡ false → eqb h.mark (mark "Me") ≡ false →
          eqb h.mark (mark "Cp") ≡ true → Stays
      property_stays key w p q s =
          let ps : Recs = set_kid 2 (gone (kid 2 ks)) (set_kid 1 (prop_type ty (kid 2 ks) (kid 1 ks) n).0 ks) in
          (rec (with_flags h (prop_flags h.flags)) (set_kid 0 key ps), rw (p, q, s, w), refl)

      go : (a b c d : Bool) → eqb h.mark (mark "Co") ≡ a → eqb h.mark (mark "Me") ≡ b → eqb h.mark (mark "Cp") ≡ c → eqb h.mark (mark "Ix") ≡ d → Stays
      go true b c d p q s t = (rec h (each (constructor_part ty) 0 ks n).0, rw (p, l), refl)
      go false true c d p q s t = let key = v (rw q) in method_stays key.0 key.1 p q
      go false false true d p q s t = let key = v (rw (q, s)) in property_stays key.0 key.1 p q s
      go false false false true p q s t = (rec h ks, rw (p, q, s, eqb-true h.mark (mark "Ix") t), refl)
      go false false false false p q s t = absurd (let z : false ≡ true = rw (p, q, s, t) at k in let y : ◌≡◌ {A = ℕ} 0 1 = cc in omega arith)

  pub member_overloads_agree : (before : Rec) (ms : Recs) (n : ℕ) → Names implements_member list before ms →
      flat (member list ctx ty) ms n ≡ flat (member list ctx ty) (visible implements_member before ms) n
  unfolding flat visible Names
  member_overloads_agree before nil n names = refl
  member_overloads_agree before (cons r rs) n names = go (implements_member before r) refl (λ n. member_overloads_agree r rs n names.1)
    where
      go : (b : Bool) → implements_member before r ≡ b →
          ((n : ℕ) → flat (member list ctx ty) rs n ≡ flat (member list ctx ty) (visible implements_member r rs) n) →
          flat (member list ctx ty) (cons r rs) n ≡ flat (member list ctx ty) (visible implements_member before (cons r rs)) n
      go true e f = rw (e, hidden_member before r n e (names.0 e)) (f n)
      go false e f = rw (e, f (member list ctx ty r n).2)
