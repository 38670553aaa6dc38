-- Objects: the definition's step by the kind of a property, what the code does for each, and the loop over the children of an object.
use mathlib.Core.Path.{◌≡◌, refl, sym, ap, ◌∙◌, subst}
use mathlib.Core.List.{List, [], ◌∷◌, ◌++◌, append_assoc}
use mathlib.Core.Bool.{Bool, true, false, cond, ◌&&◌, ◌||◌}
use mathlib.Core.Option.{Option, none, some}
use Prim.Native.Nat.{ℕ, ◌+◌, ◌≤◌, ◌<◌}
use native.Mathlib.Omega.{arith}
use lib.Dec.{eqb}
use Rattle.std.specs.Prelude.{Option as Answer}
use Rattle.definition.specs.Tree.{Head, Rec, Recs, rec, nil, cons, count, head_size, head_bytes, encode, encodes}
use Rattle.definition.specs.Grammar.{mark}
use Rattle.definition.specs.Record.{head_of, kids_of, mark_of, symbol_of, ranged, fresh, ident_at, kid, one, join, given, Diag, diag, Out, on_value, flat}
use Rattle.definition.specs.Counting.{records}
use Rattle.definition.specs.Prescan.{PrescannedModuleIds}
use Rattle.definition.specs.Typing.{
  Key,
  k_ident,
  k_str,
  k_num,
  k_computed,
  key_kind,
  key_flag,
  key_expr,
  property_signature,
  or_any,
  shorthand,
  key_value,
  Prop,
  p_key_value,
  p_shorthand,
  p_spread,
  p_other,
  p_op,
  prop_kind,
  prop_by,
  ident_to_ts_type,
  expr_to_ts_type,
  type_second,
  props,
  prop,
  readonly_members,
}
use Rattle.definition.specs.Transform.{texts_fit, all_texts_fit}
use Rattle.definition.proofs.Counting.{prop-within}
use Rattle.records.specs.declared.Head.{Head as Fields}
use Rattle.records.specs.declared.Range.{Range as Span}
use Rattle.records.specs.declared.tree.Record.{Record}
use Rattle.records.specs.declared.tree.Records.{Records}
use Rattle.records.specs.Fields.{field_bytes, range_of, made_fields}
use Rattle.records.specs.Views.{rec_of, FirstOf, RestOf, ChildrenOf}
use Rattle.records.specs.Writers.{Skips, Fronts}
use Rattle.records.proofs.Puts.{encode-two}
use Rattle.output.specs.declared.Output.{Output}
use Rattle.output.specs.declared.Start.{Start}
use Rattle.output.specs.Outputs.{start_of, Puts, Marks, Returned, Makes, MakesCounted, MakesMaybe, Filled}
use Rattle.output.proofs.Steps.{and-true, step_then, step-as, step-marks, filled, IsSome, IsNone}
use Rattle.output.proofs.Framing.{makes-as, keeps-counter, all_one, all_none}
use Rattle.output.proofs.Each.{Numbering, numbering_start, numbering_turn, numbering_count, making_done}
use Rattle.typing.specs.declared.exprs.Mode.{Mode}
use Rattle.typing.specs.Values.{ids_in, type_of}
use Rattle.typing.specs.Parts.{signature_front, members_if}
use Rattle.typing.specs.Steps.{object_type, member_type}
use Rattle.typing.proofs.ReadonlyLaws.{readonly_join, count_readonly, no_members}
use Rattle.typing.proofs.ExprSteps.{second_is}
use Rattle.output.proofs.Kept.{Lends}
use Rattle.typing.proofs.Options.{Front, makes_wrapped, step_gone, made_around}

-- ---- a member

-- readonly where it is wanted
member_flag : (b r : Bool) (k : Key) (key t : Rec) → members_if b (one (property_signature key r (key_flag k) t)) ≡ one (property_signature key (r || b) (key_flag k) t)
unfolding readonly_members
member_flag false true k key t = refl
member_flag false false k key t = refl
member_flag true true k_ident key t = refl
member_flag true true k_str key t = refl
member_flag true true k_num key t = refl
member_flag true true k_computed key t = refl
member_flag true false k_ident key t = refl
member_flag true false k_str key t = refl
member_flag true false k_num key t = refl
member_flag true false k_computed key t = refl

-- what stands before its type
signature : (key : Rec) (r : Bool) (f : ℕ) → Front (signature_front key r f) (texts_fit key) (property_signature key r f)
unfolding texts_fit all_texts_fit
signature key r f = record {
  bytes = λ t. append_assoc (head_bytes (fresh "Ps" (cond r 1 0 + f) []) 2) (encode key) (encode t) ∙ encode-two (fresh "Ps" (cond r 1 0 + f) []) key t refl;
  fits = λ t. sym (ap (λ (b : Bool). texts_fit key && b) (and-true (texts_fit t)));
}

-- ---- the kinds of properties

module _ (m : Mode) (t : Rec) (n : ℕ) where
  abbrev ids : PrescannedModuleIds
  ids = ids_in m.scope

  abbrev ctx : ℕ
  ctx = m.scope.unresolved

  prop_eta : (t : Rec) → prop ids ctx t m.as_const m.as_readonly n
      ≡ prop_by ids ctx (prop_kind (mark_of t)) (head_of t) (kids_of t) m.as_const m.as_readonly (λ n. type_second ids ctx (kids_of t) m.as_const m.as_readonly n) n
  unfolding prop
  prop_eta (rec h ks) = refl

  member-by : (k : Prop) → prop_kind (mark_of t) ≡ k
      → on_value (members_if m.frozen) (prop_by ids ctx k (head_of t) (kids_of t) m.as_const m.as_readonly (λ n. type_second ids ctx (kids_of t) m.as_const m.as_readonly n) n) ≡ member_type m t n
  unfolding member_type
  member-by k e =
      sym (ap (on_value (members_if m.frozen)) (prop_eta t
      ∙ ap (λ (x : Prop). prop_by ids ctx x (head_of t) (kids_of t) m.as_const m.as_readonly (λ n. type_second ids ctx (kids_of t) m.as_const m.as_readonly n) n) e))

  no_member : (ds : List Diag) → (nil, ds, n) ≡ on_value (members_if m.frozen) (nil, ds, n)
  no_member ds = λ i. (sym (no_members m.frozen) i, ds, n)

  member_spread : mark_of t ≡ mark "Sp" → (nil, diag "d4" (head_of t) ∷ [], n) ≡ member_type m t n
  unfolding prop_kind prop_by
  member_spread e = no_member (diag "d4" (head_of t) ∷ []) ∙ member-by p_spread (rw e)

  member_op : mark_of t ≡ mark "Op" → (nil, [], n) ≡ member_type m t n
  unfolding prop_kind prop_by
  member_op e = no_member [] ∙ member-by p_op (rw e)

  member_other : eqb (mark_of t) (mark "Kv") ≡ false → eqb (mark_of t) (mark "Sh") ≡ false → eqb (mark_of t) (mark "Sp") ≡ false → eqb (mark_of t) (mark "Op") ≡ false
      → (nil, diag "d3" (head_of t) ∷ [], n) ≡ member_type m t n
  unfolding prop_kind prop_by
  member_other a b c d = no_member (diag "d3" (head_of t) ∷ []) ∙ member-by p_other (rw (a, b, c, d))

  -- `Prop::Shorthand`
  abbrev short_of : Rec → Option Rec → Out Recs
  short_of i v = given v (nil, diag "d3" (head_of t) ∷ [], n) (λ ty. (one (property_signature (ident_at (head_of i) (symbol_of i)) (m.as_readonly || m.frozen) 0 ty), [], n))

  short-by : (v : Option Rec) (i : Rec) → short_of i v ≡ on_value (members_if m.frozen) (shorthand (head_of t) i m.as_readonly v n)
  short-by none i = no_member (diag "d3" (head_of t) ∷ [])
  short-by (some ty) i = λ j. (sym (member_flag m.frozen m.as_readonly k_ident (ident_at (head_of i) (symbol_of i)) ty) j, [], n)

  member_shorthand : mark_of t ≡ mark "Sh" → {i : Rec} → i ≡ kid 0 (kids_of t) → short_of i (ident_to_ts_type ids ctx i m.as_const) ≡ member_type m t n
  unfolding prop_kind prop_by
  member_shorthand e {i} k =
      short-by (ident_to_ts_type ids ctx i m.as_const) i
      ∙ (ap (λ (i : Rec). on_value (members_if m.frozen) (shorthand (head_of t) i m.as_readonly (ident_to_ts_type ids ctx i m.as_const) n)) k ∙ member-by p_shorthand (rw e))

  -- `Prop::KeyValue`
  value-by : (k : Rec) (o : Out Rec) (kind : Key)
      → on_value (λ ty. one (property_signature (key_expr kind k) (m.as_readonly || m.frozen) (key_flag kind) ty)) o
      ≡ on_value (members_if m.frozen) (on_value (λ ty. one (property_signature (key_expr kind k) m.as_readonly (key_flag kind) ty)) o)
  value-by k o kind = λ i. (sym (member_flag m.frozen m.as_readonly kind (key_expr kind k) o.0) i, o.1, o.2)

  member_key_value : mark_of t ≡ mark "Kv" → 1 < count (kids_of t) → {k v : Rec} → k ≡ kid 0 (kids_of t) → v ≡ kid 1 (kids_of t)
      → on_value (λ ty. one (property_signature (key_expr (key_kind (mark_of k)) k) (m.as_readonly || m.frozen) (key_flag (key_kind (mark_of k))) ty))
      (or_any (expr_to_ts_type ids ctx v m.as_const m.as_readonly n) (diag "d2" (head_of v) ∷ []))
      ≡ member_type m t n
  unfolding prop_kind prop_by
  member_key_value e l {k} {v} f g =
      let ks : Recs = kids_of t in
      rw (f, g) (value-by (kid 0 ks) (or_any (expr_to_ts_type ids ctx (kid 1 ks) m.as_const m.as_readonly n) (diag "d2" (head_of (kid 1 ks)) ∷ [])) (key_kind (mark_of (kid 0 ks)))
      ∙ (ap (λ (o : Out (Option Rec)). on_value (members_if m.frozen) (key_value ks m.as_readonly o)) (sym (second_is ids ctx ks m.as_const m.as_readonly n l)) ∙ member-by p_key_value (rw e)))

-- ---- what the code does for each

pub counted_as : {a b : Output} {k : ℕ} {x y : Out Recs} → MakesCounted a b k x → x ≡ y → MakesCounted a b k y
counted_as {a} {b} {k} w e = subst (λ (z : Out Recs). MakesCounted a b k z) e w

pub counted_one : {a b : Output} {x : Out Rec} → Makes a b x → MakesCounted a b 1 (on_value one x)
counted_one w = record { many = refl; made = all_one w }

pub counted_none : (o : Output) → MakesCounted o o 0 (nil, [], o.names.id_counter)
counted_none o = record { many = refl; made = all_none o }

pub counted_mark : {a b : Output} {d : Diag} → Marks a b d → MakesCounted a b 0 (nil, d ∷ [], a.names.id_counter)
unfolding encodes all_texts_fit
counted_mark w = record { many = refl; made = record { step = step-marks w } }

module _ (m : Mode) (t : Rec) where
  pub spread_skipped : {a b : Output} → Marks a b (diag "d4" (head_of t)) → mark_of t ≡ mark "Sp" → MakesCounted a b 0 (member_type m t a.names.id_counter)
  spread_skipped {a} w e = counted_as (counted_mark w) (member_spread m t a.names.id_counter e)

  pub op_skipped : (o : Output) → mark_of t ≡ mark "Op" → MakesCounted o o 0 (member_type m t o.names.id_counter)
  op_skipped o e = counted_as (counted_none o) (member_op m t o.names.id_counter e)

  pub other_skipped : {a b : Output} → Marks a b (diag "d3" (head_of t)) → eqb (mark_of t) (mark "Kv") ≡ false → eqb (mark_of t) (mark "Sh") ≡ false → eqb (mark_of t) (mark "Sp") ≡ false → eqb (mark_of t) (mark "Op") ≡ false
      → MakesCounted a b 0 (member_type m t a.names.id_counter)
  other_skipped {a} w e f g h = counted_as (counted_mark w) (member_other m t a.names.id_counter e f g h)

  -- the value of a property, behind its key
  pub value_made : {a b c d : Output} {k v : Rec} {x : Answer (Unit {0})} → mark_of t ≡ mark "Kv" → 1 < count (kids_of t) → k ≡ kid 0 (kids_of t) → v ≡ kid 1 (kids_of t)
      → Puts a b (signature_front (key_expr (key_kind (mark_of k)) k) (m.as_readonly || m.frozen) (key_flag (key_kind (mark_of k)))) (texts_fit (key_expr (key_kind (mark_of k)) k))
      → MakesMaybe b c x (type_of (record { scope = m.scope; as_const = m.as_const; as_readonly = m.as_readonly; frozen = false }) v b.names.id_counter) → Filled c d x (diag "d2" (head_of v))
      → MakesCounted a d 1 (member_type m t a.names.id_counter)
  unfolding type_of
  value_made {a} {b} {k = k} {v = v} e l f g front w z =
      let key : Rec = key_expr (key_kind (mark_of k)) k in
      counted_as (counted_one (makes_wrapped front (signature key (m.as_readonly || m.frozen) (key_flag (key_kind (mark_of k)))) (filled w z)))
      (ap (λ (n : ℕ). on_value (λ ty. one (property_signature key (m.as_readonly || m.frozen) (key_flag (key_kind (mark_of k))) ty)) (or_any (expr_to_ts_type (ids_in m.scope) m.scope.unresolved v m.as_const m.as_readonly n) (diag "d2" (head_of v) ∷ []))) (keeps-counter front)
      ∙ member_key_value m t a.names.id_counter e l f g)

  -- the type of a shorthand, behind its name
  module _ {a b : Output} {i : Rec} (e : mark_of t ≡ mark "Sh") (k : i ≡ kid 0 (kids_of t)) (front : Puts a b (signature_front (ident_at (head_of i) (symbol_of i)) (m.as_readonly || m.frozen) 0) true) where
    pub short_made : {c : Output} → texts_fit (ident_at (head_of i) (symbol_of i)) ≡ true → IsSome b c (ident_to_ts_type (ids_in m.scope) m.scope.unresolved i m.as_const, [], b.names.id_counter)
        → MakesCounted a c 1 (member_type m t a.names.id_counter)
    short_made {c} f w =
        let name : Rec = ident_at (head_of i) (symbol_of i) in
        let front' : Puts a b (signature_front name (m.as_readonly || m.frozen) 0) (texts_fit name) = rw f front in
        let z : Makes b c (w.type, [], b.names.id_counter) = record { step = w.step } in
        counted_as (counted_one (makes_wrapped front' (signature name (m.as_readonly || m.frozen) 0) z))
        ((λ j. (one (property_signature name (m.as_readonly || m.frozen) 0 w.type), [], keeps-counter front j))
        ∙ (ap (short_of m t a.names.id_counter i) (sym w.same) ∙ member_shorthand m t a.names.id_counter e k))

    pub short_skipped : {c d d' : Output} {s : Start} → IsNone b c (ident_to_ts_type (ids_in m.scope) m.scope.unresolved i m.as_const, [], b.names.id_counter) → s ≡ start_of a → Returned c d s
        → Marks d d' (diag "d3" (head_of t)) → MakesCounted a d' 0 (member_type m t a.names.id_counter)
    unfolding encodes all_texts_fit
    short_skipped w q r u =
        let z = step_gone front w q r in
        counted_as (record { many = refl; made = record { step = step-as (step_then z (step-marks u)) refl refl (z.counter ∙ keeps-counter front) refl } })
        (ap (short_of m t a.names.id_counter i) (sym w.same) ∙ member_shorthand m t a.names.id_counter e k)

-- ---- the loop over the children of an object

members-join : (b : Bool) (x y : Recs) → members_if b (join x y) ≡ join (members_if b x) (members_if b y)
members-join true x y = readonly_join x y
members-join false x y = refl

members-count : (b : Bool) (ms : Recs) → count (members_if b ms) ≡ count ms
members-count false ms = refl
members-count true ms = count_readonly ms

module _ (m : Mode) where
  members-flat : (ks : Recs) (n : ℕ) → on_value (members_if m.frozen) (props (ids_in m.scope) m.scope.unresolved ks m.as_const m.as_readonly n) ≡ flat (member_type m) ks n
  unfolding props flat member_type
  members-flat nil n = λ i. (no_members m.frozen i, [], n)
  members-flat (cons p ps) n =
      let a : Out Recs = prop (ids_in m.scope) m.scope.unresolved p m.as_const m.as_readonly n in
      let z : Out Recs = props (ids_in m.scope) m.scope.unresolved ps m.as_const m.as_readonly a.2 in
      (λ i. (members-join m.frozen a.0 z.0 i, a.1 ++ z.1, z.2)) ∙ ap (λ (y : Out Recs). (join (members_if m.frozen a.0) y.0, a.1 ++ y.1, y.2)) (members-flat ps a.2)

  few-shorthand : (v : Option Rec) (h : Head) (i : Rec) (n : ℕ) → count (shorthand h i m.as_readonly v n).0 ≤ 1
  few-shorthand none h i n = omega arith
  few-shorthand (some t) h i n = omega arith

  few-prop : (k : Prop) (h : Head) (ks : Recs) (value : ℕ → Out (Option Rec)) (n : ℕ) → count (prop_by (ids_in m.scope) m.scope.unresolved k h ks m.as_const m.as_readonly value n).0 ≤ 1
  unfolding prop_by
  few-prop p_key_value h ks value n = omega arith
  few-prop p_shorthand h ks value n = few-shorthand (ident_to_ts_type (ids_in m.scope) m.scope.unresolved (kid 0 ks) m.as_const) h (kid 0 ks) n
  few-prop p_spread h ks value n = omega arith
  few-prop p_other h ks value n = omega arith
  few-prop p_op h ks value n = omega arith

  one-prop : (p : Rec) (n : ℕ) → count (prop (ids_in m.scope) m.scope.unresolved p m.as_const m.as_readonly n).0 ≤ 1
  unfolding prop
  one-prop (rec h ks) n = few-prop (prop_kind h.mark) h ks (λ n. type_second (ids_in m.scope) m.scope.unresolved ks m.as_const m.as_readonly n) n

  -- a property gives one member at most, and makes at most as many names as it has records
  one-member : (p : Rec) (n : ℕ) → count (member_type m p n).0 ≤ 1
  unfolding member_type
  one-member p n = omega (arith, members-count m.frozen (prop (ids_in m.scope) m.scope.unresolved p m.as_const m.as_readonly n).0, one-prop p n)

  high-member : (p : Rec) (n : ℕ) → (member_type m p n).2 ≤ n + records p
  unfolding member_type
  high-member p n = (prop-within (ids_in m.scope) m.scope.unresolved p m.as_const m.as_readonly n).high

  -- k is left of the children of an object, and those before it gave n members
  abbrev pub MemberLoop : Rec → Output → Output → Records → ℕ → Type 0
  MemberLoop t a b k n = Numbering 0 1 (count (kids_of t)) (member_type m) (flat (member_type m) (kids_of t) a.names.id_counter) a b k n

  pub members_start : (o : Output) {r : Record} {j k : Records} → ChildrenOf r k → j ≡ k → o.names.id_counter ≤ r.at → MemberLoop (rec_of r) o o j 0 × (j.levels < r.levels) × (j.tree ≡ r.tree)
  members_start o {r} {j} {k} c e l =
      let i : MemberLoop (rec_of r) o o k 0 =
      subst (λ (ks : Recs). Numbering 0 1 (count (kids_of (rec_of r))) (member_type m) (flat (member_type m) ks o.names.id_counter) o o k 0) c.are
      (numbering_start (member_type m) 0 1 (count (kids_of (rec_of r))) o k (omega (arith, l, c.behind)) (omega (arith, c.many))) in
      subst (λ (x : Records). MemberLoop (rec_of r) o o x 0 × (x.levels < r.levels) × (x.tree ≡ r.tree)) (sym e) (i, omega (arith, c.levels, c.left), c.tree)

  pub members_turn : (t : Rec) {a b c : Output} {k l : Records} {n j : ℕ} {x : Record} → MemberLoop t a b k n → (0 < k.count) × FirstOf k x × RestOf k l
      → MakesCounted b c j (member_type m (rec_of x) b.names.id_counter) → MemberLoop t a c l (n + j)
  members_turn t {b = b} {x = x} i s w = numbering_turn (member_type m) i s (high-member (rec_of x) b.names.id_counter) (one-member (rec_of x) b.names.id_counter) w.made w.many

  pub object_made : (r : Record) {o a b d : Output} {k : Records} {n : ℕ} {h : Fields} {range : Span} {s : Start} → Skips o.out.now a.out.now head_size → Lends a o → a.diagnostics ≡ o.diagnostics → a.names ≡ o.names → a.fits ≡ o.fits
      → MemberLoop (rec_of r) a b k n → k.count ≡ 0 → s ≡ start_of o → range ≡ range_of (head_of (rec_of r)) → h ≡ made_fields (mark "Li") 0 range 0 n
      → Fronts b.out.now d.out.now s.at (field_bytes h ++ []) → Lends d b → d.diagnostics ≡ b.diagnostics → d.names ≡ b.names → d.fits ≡ b.fits → Makes o d (object_type m (rec_of r) o.names.id_counter)
  unfolding object_type
  object_made r {o} {a} {b} {d} {n = n} sk os ad an af i z e g q v ds dd dn df =
      let t : Rec = rec_of r in
      let all : Out Recs = flat (member_type m) (kids_of t) a.names.id_counter in
      let many : n ≡ count all.0 = (let y = numbering_count (member_type m) i z in omega (arith, y)) in
      makes-as (made_around r (mark "Li") sk os ad an af (making_done (member_type m) i.making z) e g q v ds dd dn df many)
      (ap (on_value (λ (ms : Recs). rec (ranged "Li" (head_of t) []) ms)) (sym (members-flat (kids_of t) a.names.id_counter))
      ∙ ap (λ x. on_value (λ (ms : Recs). rec (ranged "Li" (head_of t) []) (members_if m.frozen ms)) (props (ids_in m.scope) m.scope.unresolved (kids_of t) m.as_const m.as_readonly x.id_counter)) an)
