-- Keys, the types of properties, class members and the body of a class, as records on their way into an Output.
use mathlib.Core.Path.{◌≡◌, refl, sym, ap, ◌∙◌, subst}
use mathlib.Core.List.{List, []}
use mathlib.Core.Bool.{Bool, true, false}
use mathlib.Core.Option.{Option, none, some}
use Prim.Native.Nat.{ℕ, suc, ◌+◌, ◌≤◌, ◌<◌}
use native.Mathlib.Omega.{arith}
use lib.Dec.{eqb}
use lib.ListN.{length}
use Rattle.std.specs.Prelude.{Option as Answer, Some, None}
use Rattle.definition.specs.Tree.{Head, Rec, Recs, rec, nil, cons, count, head_size, head_bytes}
use Rattle.definition.specs.Grammar.{mark, marks, grammar, known, slots, place}
use Rattle.definition.specs.Record.{head_of, kids_of, mark_of, text_of, is_no, dummy_sp, made, ranged, with_flags, has1, kid, set_kid, one, gone, listed, Out, Typing, pure, if_m, on_value, wrap, single, each, flat, at_kid}
use Rattle.definition.specs.Helpers.{any_type_ann}
use Rattle.definition.specs.Names.{computed, valid_prop_name}
use Rattle.definition.specs.Typing.{or_any}
use Rattle.definition.specs.Transform.{texts_fit, all_texts_fit}
use Rattle.definition.specs.Classes.{handle_func_param, handle_function, constructor_part, constructor, method, prop_type, prop_flags, class_prop, Member, m_constructor, m_method, m_prop, m_dropped, m_kept, member_kind, member_by, member, class_body_to_type, class}
use Rattle.definition.proofs.Counting.{within-own, expr_to_ts_type-within}
use Rattle.definition.proofs.CountingItems.{member_by-within}
use Rattle.definition.proofs.Kids.{member-one, fixed}
use Rattle.records.specs.declared.Range.{Range}
use Rattle.records.specs.declared.tree.Record.{Record}
use Rattle.records.specs.declared.tree.Records.{Records}
use Rattle.records.specs.Fields.{span, range_of}
use Rattle.records.specs.Writers.{Writes}
use Rattle.records.specs.Views.{rec_of, recs_of, ChildrenOf, RestOf, ChildIs}
use Rattle.records.proofs.Puts.{encode_one}
use Rattle.records.proofs.Records.{enough, kid_marks, recs_step}
use Rattle.records.proofs.Writers.{writes_as}
use Rattle.names.specs.declared.prop_name.Key.{Key}
use Rattle.names.specs.declared.prop_name.Key.TheVariants.{Computed}
use Rattle.names.specs.Keys.{key_of, KeyFound}
use Rattle.prescan.specs.declared.module_names.Scope.{Scope}
use Rattle.output.specs.declared.Output.{Output}
use Rattle.output.specs.Outputs.{front_bytes, start_of, Keeps, KeepsAll, Skipped, Fronted, Makes, MakesAll, MakesCounted, MakesMaybe}
use Rattle.output.specs.Kids.{Begun, Kept}
use Rattle.output.proofs.Steps.{and-true, puts_then, puts-as, step-as, step_then, step-puts, is_some, is_none}
use Rattle.output.proofs.Kept.{puts}
use Rattle.output.proofs.Framing.{makes-as, keeps-counter, all_none, all_one, all_before, makes_front_last, done_framed}
use Rattle.output.proofs.Each.{each-behind, Numbering, numbering_start, numbering_turn, numbering_count, making_done}
use Rattle.typing.specs.Values.{Ready, ReadyAll, ids_in, typing_in}
use Rattle.typing.proofs.ReadyFor.{ready_kids, ready_rest}
use Rattle.classes.proofs.Framed.{Split, two_kids, framed_two, three_kids, framed_three}
use Rattle.classes.proofs.Handling.{params_done, done_kept_next}

-- ---- how many children there are

module _ (r : Record) where
  pub cl_one : mark_of (rec_of r) ≡ mark "Cl" → 1 ≤ count (kids_of (rec_of r))
  cl_one e = enough r e

  pub co_one : mark_of (rec_of r) ≡ mark "Co" → 1 ≤ count (kids_of (rec_of r))
  co_one e = enough r e

  pub me_two : mark_of (rec_of r) ≡ mark "Me" → 2 ≤ count (kids_of (rec_of r))
  me_two e = enough r e

  pub cp_three : mark_of (rec_of r) ≡ mark "Cp" → 3 ≤ count (kids_of (rec_of r))
  cp_three e = enough r e

  -- a method's second child is its function
  pub me_function_is : mark_of (rec_of r) ≡ mark "Me" → {x : Record} → ChildIs r 1 x → mark_of (rec_of x) ≡ mark "Fu"
  unfolding grammar known slots place fixed marks
  me_function_is e x = ap mark_of x.is ∙ member-one (mark_of (kid 1 (kids_of (rec_of r)))) (mark "Fu") (kid_marks r e refl 1 "Fu" refl)

-- ---- keys

computed_fits : (t : Rec) → texts_fit t ≡ texts_fit (computed t)
unfolding texts_fit all_texts_fit
computed_fits t = sym (and-true (texts_fit t))

-- a fresh Kc over the record
pub key_computed : {a b c : Output} {key : Key} {x : Record} {range : Range} → key ≡ Computed x → range ≡ range_of (head_of (rec_of x)) → Writes a.out.now b.out.now (head_bytes (made "Kc" 0 (span range) []) 1)
    → b.out.ghost_name ≡ a.out.ghost_name → b.diagnostics ≡ a.diagnostics → b.names ≡ a.names → b.fits ≡ a.fits → Keeps b c (rec_of x) → Keeps a c (key_of key)
key_computed {x = x} e g v m d n f w =
    rw (e)
    (puts-as (puts_then (puts (writes_as v (ap (λ (r : Range). head_bytes (made "Kc" 0 (span r) []) 1) g)) m d n f) w) (encode_one (ranged "Kc" (head_of (rec_of x)) []) (rec_of x) refl)
    (computed_fits (rec_of x)))

-- ---- the type of a property

module _ (ty : Typing) (value t : Rec) (n : ℕ) where
  pub prop_bare : is_no value ≡ true → pure t n ≡ prop_type ty value t n
  prop_bare e = rw e

  pub prop_typed : is_no value ≡ false → is_no t ≡ false → pure t n ≡ prop_type ty value t n
  prop_typed e f = rw (e, f)

  pub prop_inferred : is_no value ≡ false → is_no t ≡ true → or_any (ty value false false n) [] ≡ prop_type ty value t n
  prop_inferred e f = rw (e, f)

-- "else any with no diagnostic of its own"
pub made_typed : {a b : Output} {t : Answer (Unit {0})} {x : Out (Option Rec)} → MakesMaybe a b t x → t ≡ Some tt → Makes a b (or_any x [])
made_typed {a} {b} {x = x} w e =
    let u = is_some w e in
    makes-as (record { step = u.step }) (ap (λ (v : Option Rec). or_any (v, x.1, x.2) []) (sym u.same))

pub made_any : {a b c : Output} {t : Answer (Unit {0})} {x : Out (Option Rec)} → MakesMaybe a b t x → t ≡ None → Keeps b c (any_type_ann dummy_sp) → Makes a c (or_any x [])
made_any {x = x} w e v =
    let u = is_none w e in
    makes-as (record { step = step-as (step_then u.step (step-puts v)) refl refl u.step.counter refl })
    (ap (λ (y : Option Rec). or_any (y, x.1, x.2) []) (sym u.same))

-- ---- members that were made, and that go

pub counted_as : {a b : Output} {n : ℕ} {x y : Out Recs} → MakesCounted a b n x → x ≡ y → MakesCounted a b n y
counted_as {a} {b} {n} w e = subst (λ (z : Out Recs). MakesCounted a b n z) e w

pub counted_one : {a b : Output} {x : Out Rec} → Makes a b x → MakesCounted a b 1 (single x)
counted_one w = record { many = refl; made = all_one w }

pub counted_none : (o : Output) {x : Out Recs} → pure nil o.names.id_counter ≡ x → MakesCounted o o 0 x
counted_none o e = counted_as (record { many = refl; made = all_none o }) e

-- ---- a constructor

constructor_behind : (ty : Typing) (ks : Recs) (n : ℕ) → each (constructor_part ty) 1 ks n ≡ each (λ _. handle_func_param ty) 0 ks n
unfolding constructor_part
constructor_behind ty ks n = each-behind (handle_func_param ty) (constructor_part ty) suc (λ i. refl) (λ i r m. refl) 0 0 ks n

pub constructor_made : (ty : Typing) {a b c d : Output} {r : Record} {k l : Records} → Begun a b r (head_of (rec_of r)) k → 1 ≤ k.count → Kept b c k l gone → MakesAll c d (each (λ _. handle_func_param ty) 0 (recs_of l) c.names.id_counter)
    → MakesCounted a d 1 (constructor ty (rec_of r) a.names.id_counter)
unfolding constructor each constructor_part
constructor_made ty {a} {r = r} {k} {l} g h u m =
    let F : Out Recs → Out Rec = λ (y : Out Recs). wrap (head_of (rec_of r)) (on_value (cons (gone (rec_of u.first))) y) in
    let kids : kids_of (rec_of r) ≡ cons (rec_of u.first) (recs_of l) = sym g.kids.are ∙ recs_step h u.is u.rest in
    let left : count (recs_of l) ≡ l.count = omega (arith, u.rest.many, h, g.kids.many, ap count kids) in
    counted_one
    (makes-as (done_framed g (done_kept_next h u (params_done ty l left m)))
    (ap (λ (n : ℕ). F (each (λ _. handle_func_param ty) 0 (recs_of l) n)) (keeps-counter u.put ∙ keeps-counter g.front)
    ∙ (ap F (sym (constructor_behind ty (recs_of l) a.names.id_counter))
    ∙ ap (λ (ks : Recs). wrap (head_of (rec_of r)) (each (constructor_part ty) 0 ks a.names.id_counter)) (sym kids))))

-- ---- a method and a property

module _ (ty : Typing) (ctx : ℕ) {r x : Record} (c : ChildIs r 0 x) where
  -- without a key
  module _ (e : valid_prop_name ctx (rec_of x) ≡ none) (n : ℕ) where
    keyless : none ≡ valid_prop_name ctx (kid 0 (kids_of (rec_of r)))
    keyless = sym e ∙ ap (valid_prop_name ctx) c.is

    pub method_gone : pure nil n ≡ method ty (rec_of r) (valid_prop_name ctx (kid 0 (kids_of (rec_of r)))) n
    unfolding method
    method_gone = ap (λ (k : Option Rec). method ty (rec_of r) k n) keyless

    pub prop_gone : pure nil n ≡ class_prop ty (rec_of r) (valid_prop_name ctx (kid 0 (kids_of (rec_of r)))) n
    unfolding class_prop
    prop_gone = ap (λ (k : Option Rec). class_prop ty (rec_of r) k n) keyless

  module _ {key : Key} (q : KeyFound x (valid_prop_name ctx (rec_of x)) key) {a b : Output} {h : Head} {k : Records} (g : Begun a b r h k) {f : Record} {l : Records} (p : Split k f l) {f1 : Record} {l1 : Records} (p1 : Split l f1 l1) where
    named : some (key_of key) ≡ valid_prop_name ctx (kid 0 (kids_of (rec_of r)))
    named = sym q.is ∙ ap (valid_prop_name ctx) c.is

    pub method_made : h ≡ head_of (rec_of r) → {setter : Bool} → setter ≡ has1 (head_of (rec_of r)) → {d e z : Output} → Keeps b d (key_of key) → Makes d e (handle_function ty setter (rec_of f1) d.names.id_counter) → KeepsAll e z (recs_of l1)
        → MakesCounted a z 1 (method ty (rec_of r) (valid_prop_name ctx (kid 0 (kids_of (rec_of r)))) a.names.id_counter)
    unfolding method
    method_made hq {setter} sq u v w =
        counted_as
        (counted_one (framed_two g p p1 (key_of key) (λ n. handle_function ty setter (rec_of f1) n) u v w))
        (ap (λ (h : Head). single (wrap h (on_value (λ v. cons (key_of key) (cons v (recs_of l1))) (handle_function ty setter (rec_of f1) a.names.id_counter)))) hq
        ∙ (ap (λ (s : Bool). single (wrap (head_of (rec_of r)) (on_value (λ v. cons (key_of key) (cons v (recs_of l1))) (handle_function ty s (rec_of f1) a.names.id_counter)))) sq
        ∙ (ap (λ (ks : Recs). on_value (λ (ks : Recs). one (rec (head_of (rec_of r)) (set_kid 0 (key_of key) ks))) (at_kid 1 (handle_function ty (has1 (head_of (rec_of r)))) ks a.names.id_counter)) (sym (two_kids g p p1))
        ∙ ap (λ (k : Option Rec). method ty (rec_of r) k a.names.id_counter) named)))

    pub prop_made : {flags : ℕ} → h ≡ with_flags (head_of (rec_of r)) flags → flags ≡ prop_flags (head_of (rec_of r)).flags → {f2 : Record} {l2 : Records} → Split l1 f2 l2 → {d e y z : Output} → Keeps b d (key_of key)
        → Makes d e (prop_type ty (rec_of f2) (rec_of f1) d.names.id_counter) → Keeps e y (gone (rec_of f2)) → KeepsAll y z (recs_of l2)
        → MakesCounted a z 1 (class_prop ty (rec_of r) (valid_prop_name ctx (kid 0 (kids_of (rec_of r)))) a.names.id_counter)
    unfolding class_prop
    prop_made hq fq {f2} {l2} p2 u v w s =
        let t : Rec = key_of key in
        let H : Head = with_flags (head_of (rec_of r)) (prop_flags (head_of (rec_of r)).flags) in
        counted_as
        (counted_one (framed_three g p p1 p2 t (λ n. prop_type ty (rec_of f2) (rec_of f1) n) (gone (rec_of f2)) u v w s))
        (ap (λ (h : Head). single (wrap h (on_value (λ v. cons t (cons v (cons (gone (rec_of f2)) (recs_of l2)))) (prop_type ty (rec_of f2) (rec_of f1) a.names.id_counter)))) (hq ∙ ap (λ (j : ℕ). with_flags (head_of (rec_of r)) j) fq)
        ∙ (ap (λ (ks : Recs). on_value (λ (ks' : Recs). one (rec H (set_kid 0 t (set_kid 2 (gone (kid 2 ks)) ks')))) (at_kid 1 (prop_type ty (kid 2 ks)) ks a.names.id_counter)) (sym (three_kids g p p1 p2))
        ∙ ap (λ (k : Option Rec). class_prop ty (rec_of r) k a.names.id_counter) named))

-- ---- one of the members

module _ (list : List ℕ) (ctx : ℕ) (ty : Typing) (r : Rec) (n : ℕ) where
  by_kind : (k : Member) → member_kind (mark_of r) ≡ k → member_by list ctx ty k r n ≡ member list ctx ty r n
  by_kind k e = sym (ap (λ (j : Member). member_by list ctx ty j r n) e)

  -- one whose range is listed, and one whose range is not
  pub constructor_listed : mark_of r ≡ mark "Co" → listed list (head_of r) ≡ true → pure nil n ≡ member list ctx ty r n
  unfolding member_kind member_by
  constructor_listed e f = sym (ap (λ (b : Bool). if_m b (pure nil) (constructor ty r) n) f) ∙ by_kind m_constructor (rw e)

  pub constructor_stands : mark_of r ≡ mark "Co" → listed list (head_of r) ≡ false → constructor ty r n ≡ member list ctx ty r n
  unfolding member_kind member_by
  constructor_stands e f = sym (ap (λ (b : Bool). if_m b (pure nil) (constructor ty r) n) f) ∙ by_kind m_constructor (rw e)

  pub method_listed : mark_of r ≡ mark "Me" → listed list (head_of r) ≡ true → pure nil n ≡ member list ctx ty r n
  unfolding member_kind member_by
  method_listed e f = sym (ap (λ (b : Bool). if_m b (pure nil) (method ty r (valid_prop_name ctx (kid 0 (kids_of r)))) n) f) ∙ by_kind m_method (rw e)

  pub method_stands : mark_of r ≡ mark "Me" → listed list (head_of r) ≡ false → method ty r (valid_prop_name ctx (kid 0 (kids_of r))) n ≡ member list ctx ty r n
  unfolding member_kind member_by
  method_stands e f = sym (ap (λ (b : Bool). if_m b (pure nil) (method ty r (valid_prop_name ctx (kid 0 (kids_of r)))) n) f) ∙ by_kind m_method (rw e)

  pub prop_stands : mark_of r ≡ mark "Cp" → class_prop ty r (valid_prop_name ctx (kid 0 (kids_of r))) n ≡ member list ctx ty r n
  unfolding member_kind member_by
  prop_stands e = by_kind m_prop (rw e)

  pub dropped_goes : mark_of r ≡ mark "Dm" → pure nil n ≡ member list ctx ty r n
  unfolding member_kind member_by
  dropped_goes e = by_kind m_dropped (rw e)

  pub other_stands : eqb (mark_of r) (mark "Co") ≡ false → eqb (mark_of r) (mark "Me") ≡ false → eqb (mark_of r) (mark "Cp") ≡ false → eqb (mark_of r) (mark "Dm") ≡ false → pure (one r) n ≡ member list ctx ty r n
  unfolding member_kind member_by
  other_stands a b c d = by_kind m_kept (rw (a, b, c, d))

-- a member gives one record at most
if_few : (b : Bool) (f g : ℕ → Out Recs) (n : ℕ) → count (f n).0 ≤ 1 → count (g n).0 ≤ 1 → count (if_m b f g n).0 ≤ 1
if_few true f g n v w = v
if_few false f g n v w = w

method_few : (ty : Typing) (r : Rec) (k : Option Rec) (n : ℕ) → count (method ty r k n).0 ≤ 1
unfolding method
method_few ty r none n = omega arith
method_few ty r (some key) n = omega arith

prop_few : (ty : Typing) (r : Rec) (k : Option Rec) (n : ℕ) → count (class_prop ty r k n).0 ≤ 1
unfolding class_prop
prop_few ty r none n = omega arith
prop_few ty r (some key) n = omega arith

module _ (list : List ℕ) (ctx : ℕ) (ty : Typing) where
  kind_few : (k : Member) (r : Rec) (n : ℕ) → count (member_by list ctx ty k r n).0 ≤ 1
  unfolding member_by constructor
  kind_few m_constructor r n = if_few (listed list (head_of r)) (pure nil) (constructor ty r) n (omega arith) (omega arith)
  kind_few m_method r n = if_few (listed list (head_of r)) (pure nil) (method ty r (valid_prop_name ctx (kid 0 (kids_of r)))) n (omega arith) (method_few ty r (valid_prop_name ctx (kid 0 (kids_of r))) n)
  kind_few m_prop r n = prop_few ty r (valid_prop_name ctx (kid 0 (kids_of r))) n
  kind_few m_dropped r n = omega arith
  kind_few m_kept r n = omega arith

  member_few : (r : Rec) (n : ℕ) → count (member list ctx ty r n).0 ≤ 1
  member_few r n = kind_few (member_kind (mark_of r)) r n

-- ---- the members of a class

-- the member of a record, as a class of a scope has it
abbrev pub member_in : List ℕ → Scope → Rec → ℕ → Out Recs
member_in list scope = member list scope.unresolved (typing_in scope)

-- all are made of the members m0, of which m are left; the records that were made are k with the type parameters, and never more than their number
abbrev pub Body : List ℕ → Scope → Output → Output → Records → Records → ℕ → Type 0
Body list scope a b m0 m k = Numbering 1 1 (1 + m0.count) (member_in list scope) (flat (member_in list scope) (recs_of m0) a.names.id_counter) a b m k × (m.tree ≡ m0.tree)

module _ (list : List ℕ) (scope : Scope) where
  pub body_start : (o : Output) (m : Records) → o.names.id_counter ≤ m.at → Body list scope o o m m 1
  body_start o m l = (numbering_start (member_in list scope) 1 1 (1 + m.count) o m l (omega arith), refl)

  module _ {a b : Output} (m0 : Records) {m : Records} {k : ℕ} (i : Body list scope a b m0 m k) where
    module _ {x : Record} {l : Records} (s : Split m x l) {c : Output} {n : ℕ} (w : MakesCounted b c n (member_in list scope (rec_of x) b.names.id_counter)) where
      few : count (member_in list scope (rec_of x) b.names.id_counter).0 ≤ 1
      few = member_few list scope.unresolved (typing_in scope) (rec_of x) b.names.id_counter

      pub body_turn : Body list scope a c m0 l (k + n)
      body_turn = (
        numbering_turn (member_in list scope) i.0 s
            (within-own (rec_of x) (member_by-within (typing_in scope) (expr_to_ts_type-within (ids_in scope) scope.unresolved) list scope.unresolved (member_kind (mark_of (rec_of x))) (rec_of x) b.names.id_counter)).high
            few w.made w.many,
        s.2.tree ∙ i.1,
      )

      -- one turn gives few
      pub body_more : k + n ≤ 1 + m0.count
      body_more = omega (arith, i.0.few, w.many, few, s.0)

-- what its members are asked
pub members_ready : {o : Output} {r : Record} {scope : Scope} → Ready o r scope → {k l : Records} → ChildrenOf r k → RestOf k l → ReadyAll o l scope
members_ready {o} {scope = scope} y {k} c t = let z : ReadyAll o k scope = ready_kids y c refl in ready_rest z t refl

-- its front is written last
pub class_made : (list : List ℕ) (scope : Scope) {a b c d e : Output} {r : Record} {k0 m0 m1 m : Records} {k : ℕ} → ChildrenOf r k0 → 1 ≤ k0.count → Skipped a b (head_size + length (text_of (rec_of r))) → (p : Kept b c k0 m0 (λ t. t))
    → m1 ≡ m0 → Body list scope c d m1 m k → m.count ≡ 0 → Fronted d e (start_of a) (front_bytes (head_of (rec_of r)) k) → length (text_of (rec_of r)) < 65536
    → Makes a e (class list scope.unresolved (typing_in scope) (rec_of r) a.names.id_counter)
unfolding class class_body_to_type
class_made list scope {a} {b} {c} {d} {r = r} {k0} {m0} {m1} {m} {k} q h s p e j z w t =
    let i : Body list scope c d m0 m k = subst (λ (x : Records). Body list scope c d x m k) e j in
    let F : Rec → ℕ → Out Recs = member_in list scope in
    let y : ℕ → Out Recs = λ n. on_value (cons (rec_of p.first)) (flat F (recs_of m0) n) in
    let kids : kids_of (rec_of r) ≡ cons (rec_of p.first) (recs_of m0) = sym q.are ∙ recs_step h p.is p.rest in
    let counter : c.names.id_counter ≡ a.names.id_counter = keeps-counter p.put ∙ ap (λ x. x.id_counter) s.names in
    makes-as
    (makes_front_last (head_of (rec_of r)) {n = k} {y = y c.names.id_counter} s (all_before (rec_of p.first) p.put (making_done F i.0.making z)) w (omega (arith, numbering_count F i.0 z)) t)
    (ap (λ (n : ℕ). wrap (head_of (rec_of r)) (y n)) counter
    ∙ ap (λ (ks : Recs). wrap (head_of (rec_of r)) (class_body_to_type list scope.unresolved (typing_in scope) ks a.names.id_counter)) (sym kids))
