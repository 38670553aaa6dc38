-- What is exported as default, as records: a class, a function without its body, and an expression as a declared const and its name.
use mathlib.Core.Path.{◌≡◌, refl, sym, ap, ◌∙◌}
use mathlib.Core.List.{List, [], ◌++◌, append-nil, append_assoc}
use mathlib.Core.Bool.{Bool, true, false, ◌&&◌}
use mathlib.Core.Option.{Option, none, some}
use Prim.Native.Nat.{ℕ, zero, suc, ◌+◌, ◌≤◌, ◌<◌, ◌^◌}
use native.Mathlib.Numerals.{add-one}
use native.Mathlib.Omega.{arith}
use lib.Dec.{eqb}
use lib.ListN.{length}
use borrow.Author.Tests.{lt-ltb}
use Rattle.std.specs.Prelude.{Option as Answer, Some, None}
use Rattle.definition.specs.Tree.{Rec, Recs, rec, nil, cons, count, head_bytes, encode, encodes}
use Rattle.definition.specs.Grammar.{mark}
use Rattle.definition.specs.Record.{head_of, kids_of, mark_of, is, dummy_sp, listed, fresh, absent, ident, kid, set_kid, one, Out, pure, if_m, on_value, single, second}
use Rattle.definition.specs.Names.{gen_unique_name}
use Rattle.definition.specs.Classes.{class}
use Rattle.definition.specs.Items.{Default, x_class, x_fn, x_other, default_kind, body_part, without_body, const_of, default_typed, export_default_decl, export_default_expr}
use Rattle.definition.specs.Transform.{texts_fit, all_texts_fit}
use Rattle.records.specs.declared.tree.Record.{Record}
use Rattle.records.specs.declared.tree.Records.{Records}
use Rattle.records.specs.Views.{rec_of, recs_of, FirstOf, RestOf, ChildIs}
use Rattle.records.specs.Writers.{Writes}
use Rattle.records.proofs.Puts.{encode_one, encode-two}
use Rattle.records.proofs.Records.{enough}
use Rattle.names.proofs.Decimals.{length_unique, at_most_twenty}
use Rattle.prescan.specs.declared.module_names.Scope.{Scope}
use Rattle.output.specs.declared.Output.{Output}
use Rattle.output.specs.declared.Start.{Start}
use Rattle.output.specs.Outputs.{start_of, Keeps, KeepsAll, Step, Makes, MakesMaybe, MakesCounted, Returned}
use Rattle.output.specs.Kids.{Begun}
use Rattle.output.proofs.Steps.{step_then, step-as, step-puts, step_back, IsSome, IsNone, is_some, is_none, keeps-as}
use Rattle.output.proofs.Recs.{encodes_one, fits_one}
use Rattle.output.proofs.Kept.{Lends, puts, keeps_made, keeps_more, keeps_front}
use Rattle.output.proofs.Framing.{makes-as, makes_first, keeps_first, keeps-counter}
use Rattle.typing.specs.declared.exprs.Mode.{Mode}
use Rattle.typing.specs.Values.{typing_in, type_of}
use Rattle.items.specs.InScope.{const_before, readonly_in, class_in, default_class_in, default_fn_of, default_decl_in, default_expr_in}
use Rattle.items.proofs.Framed.{split_rest, counted-as, counted_one, counted_kept, counted_none}
use Rattle.items.proofs.Mapped.{each_silent}

pub whole : (r : Rec) → rec (head_of r) (kids_of r) ≡ r
whole (rec h ks) = refl

-- an Xd and an Xe have a child
module _ (r : Record) where
  pub xd_one : mark_of (rec_of r) ≡ mark "Xd" → 1 ≤ count (kids_of (rec_of r))
  xd_one e = enough r e

  pub xe_one : mark_of (rec_of r) ≡ mark "Xe" → 1 ≤ count (kids_of (rec_of r))
  xe_one e = enough r e

-- ---- an Xd

default-kind : (m : ℕ) → eqb m (mark "Cx") ≡ false → eqb m (mark "Fx") ≡ false → default_kind m ≡ x_other
unfolding default_kind
default-kind m a b = rw (a, b)

-- a function without its body leaves no diagnostic, and the counter as it is
part_silent : (i : ℕ) (r : Rec) (n : ℕ) → body_part i r n ≡ pure (body_part i r n).0 n
part_silent zero r n = refl
part_silent (suc zero) r n = refl
part_silent (suc (suc zero)) r n = refl
part_silent (suc (suc (suc i))) r n = refl

fn-silent : (r : Rec) (n : ℕ) → default_fn_of r n ≡ pure (default_fn_of r n).0 n
unfolding second without_body
fn-silent r n =
    let z = each_silent body_part part_silent 0 (kids_of (kid 1 (kids_of (kid 0 (kids_of r))))) n in
    λ j. ((default_fn_of r n).0, ap (λ (o : Out Recs). o.1) z j, ap (λ (o : Out Recs). o.2) z j)

-- a class, with the flags that were read of it
pub class_made : (list : List ℕ) (scope : Scope) {a b c d : Output} {r x : Record} {k l : Records} {flags : ℕ} → Begun a b r (head_of (rec_of r)) k → 0 < k.count → FirstOf k x → RestOf k l → flags ≡ (head_of (rec_of x)).flags
    → Makes b c (class_in list scope flags (rec_of x) b.names.id_counter) → KeepsAll c d (recs_of l) → Makes a d (default_class_in list scope (rec_of r) a.names.id_counter)
unfolding second
class_made list scope {b = b} {x = x} g m e q f v w =
    makes_first g (second (class list scope.unresolved (typing_in scope))) m e q (makes-as v (ap (λ (f : ℕ). class_in list scope f (rec_of x) b.names.id_counter) f)) w

-- a function
pub fn_kept : {a b c d : Output} {r x : Record} {k l : Records} → Begun a b r (head_of (rec_of r)) k → 0 < k.count → FirstOf k x → RestOf k l → Keeps b c (second without_body (rec_of x) b.names.id_counter).0 → KeepsAll c d (recs_of l)
    → Keeps a d (default_fn_of (rec_of r) a.names.id_counter).0
fn_kept {x = x} g m e q v w =
    keeps_first g (second without_body) m e q (keeps-as v (ap (λ (n : ℕ). (second without_body (rec_of x) n).0) (keeps-counter g.front))) w

module _ (list : List ℕ) (scope : Scope) (r : Record) {p : Record} (x : ChildIs r 0 p) where
  default-by : (n : ℕ) (k : Default) → default_kind (mark_of (rec_of p)) ≡ k → export_default_decl list scope.unresolved (typing_in scope) k (head_of (rec_of r)) (kids_of (rec_of r)) n ≡ default_decl_in list scope (rec_of r) n
  default-by n k e =
      ap (λ (k : Default). export_default_decl list scope.unresolved (typing_in scope) k (head_of (rec_of r)) (kids_of (rec_of r)) n) (sym e ∙ ap (λ (y : Rec). default_kind (mark_of y)) x.is)

  pub default_class : mark_of (rec_of p) ≡ mark "Cx" → {a b : Output} → Makes a b (default_class_in list scope (rec_of r) a.names.id_counter) → MakesCounted a b 1 (default_decl_in list scope (rec_of r) a.names.id_counter)
  unfolding default_kind export_default_decl
  default_class m {a} w = let kind : default_kind (mark_of (rec_of p)) ≡ x_class = rw m in counted_one w (default-by a.names.id_counter x_class kind)

  -- "goes if the range .. is in the overload list"
  fn-is : (n : ℕ) → mark_of (rec_of p) ≡ mark "Fx" → if_m (listed list (head_of (rec_of r))) (pure nil) (λ n. single (default_fn_of (rec_of r) n)) n ≡ default_decl_in list scope (rec_of r) n
  unfolding default_kind export_default_decl
  fn-is n m = let kind : default_kind (mark_of (rec_of p)) ≡ x_fn = rw m in default-by n x_fn kind

  pub default_gone : mark_of (rec_of p) ≡ mark "Fx" → listed list (head_of (rec_of r)) ≡ true → (o : Output) → MakesCounted o o 0 (default_decl_in list scope (rec_of r) o.names.id_counter)
  default_gone m e o = counted_none o (ap (λ (b : Bool). if_m b (pure nil) (λ n. single (default_fn_of (rec_of r) n)) o.names.id_counter) (sym e) ∙ fn-is o.names.id_counter m)

  pub default_bare : mark_of (rec_of p) ≡ mark "Fx" → listed list (head_of (rec_of r)) ≡ false → {a b : Output} → Keeps a b (default_fn_of (rec_of r) a.names.id_counter).0
      → MakesCounted a b 1 (default_decl_in list scope (rec_of r) a.names.id_counter)
  default_bare m e {a} w =
      counted_kept _ w
      (ap single (sym (fn-silent (rec_of r) a.names.id_counter)) ∙ (ap (λ (b : Bool). if_m b (pure nil) (λ n. single (default_fn_of (rec_of r) n)) a.names.id_counter) (sym e) ∙ fn-is a.names.id_counter m))

  -- an In
  pub default_other : eqb (mark_of (rec_of p)) (mark "Cx") ≡ false → eqb (mark_of (rec_of p)) (mark "Fx") ≡ false → {a b : Output} → Keeps a b (rec_of r) → MakesCounted a b 1 (default_decl_in list scope (rec_of r) a.names.id_counter)
  unfolding export_default_decl
  default_other m k {a} w =
      counted_kept (rec_of r) w (ap (λ (r : Rec). pure (one r) a.names.id_counter) (sym (whole (rec_of r))) ∙ default-by a.names.id_counter x_other (default-kind (mark_of (rec_of p)) m k))

-- ---- a generated name

unique_fits : (i : ℕ) → i < 2 ^ 64 → texts_fit (ident dummy_sp (gen_unique_name i)) ≡ true
unfolding texts_fit all_texts_fit
unique_fits i h = rw (lt-ltb (suc (suc (suc (suc (length (gen_unique_name i)))))) 65536 (omega (arith, length_unique i, at_most_twenty i h)))

-- an Xe with the name
pub name_kept : {a b c d : Output} {r : Record} {k l : Records} (i : ℕ) → i < 2 ^ 64 → Begun a b r (head_of (rec_of r)) k → 0 < k.count → RestOf k l → Writes b.out.now c.out.now (encode (ident dummy_sp (gen_unique_name i)))
    → Lends c b → c.diagnostics ≡ b.diagnostics → c.names ≡ b.names → c.fits ≡ b.fits → KeepsAll c d (recs_of l) → Keeps a d (rec (head_of (rec_of r)) (set_kid 0 (ident dummy_sp (gen_unique_name i)) (kids_of (rec_of r))))
name_kept {r = r} {l = l} i h g m q v n e f z w =
    let name : Rec = ident dummy_sp (gen_unique_name i) in
    let ks = sym g.kids.are ∙ split_rest m q in
    keeps-as (keeps_front g (cons name (recs_of l)) (ap count (sym ks) ∙ sym g.kids.many) (keeps_more _ _ (keeps_made name (unique_fits i h) v (ap (λ x. x.ghost_name) n) e f z) w)) (ap (λ (ks : Recs). rec (head_of (rec_of r)) (set_kid 0 name ks)) (sym ks))

-- ---- the const as a record

const-bytes : (i : ℕ) (t : Rec) → const_before i ++ (encode t ++ encode absent) ≡ encode (const_of i t)
const-bytes i t =
    let name : Rec = ident dummy_sp (gen_unique_name i) in
    let bd : Rec = rec (fresh "Bd" 0 []) (cons name (one t)) in
    let vr : Rec = rec (fresh "Vr" 0 []) (cons bd (one absent)) in
    let A : List ℕ = head_bytes (fresh "Vd" 3 []) 1 in
    let B : List ℕ = head_bytes (fresh "Vr" 0 []) 2 in
    let C : List ℕ = head_bytes (fresh "Bd" 0 []) 2 in
    let z : const_before i ++ (encode t ++ encode absent) ≡ A ++ (B ++ ((C ++ (encode name ++ encode t)) ++ encode absent)) = simp append_assoc in
    z
    ∙ (ap (λ (E : List ℕ). A ++ (B ++ (E ++ encode absent))) (encode-two (fresh "Bd" 0 []) name t refl)
    ∙ (ap (λ (E : List ℕ). A ++ E) (encode-two (fresh "Vr" 0 []) bd absent refl) ∙ encode_one (fresh "Vd" 3 []) vr refl))

pair_bytes : (i : ℕ) (t r : Rec) → const_before i ++ (encode t ++ (encode absent ++ encode r)) ≡ encodes (cons (const_of i t) (one r))
unfolding encodes
pair_bytes i t r =
    let z : const_before i ++ (encode t ++ (encode absent ++ encode r)) ≡ (const_before i ++ (encode t ++ encode absent)) ++ encode r = simp append_assoc in
    z ∙ (ap (λ (E : List ℕ). E ++ encode r) (const-bytes i t) ∙ ap (λ (E : List ℕ). encode (const_of i t) ++ E) (sym (append-nil (encode r))))

pair_fits : (i : ℕ) → i < 2 ^ 64 → (t r : Rec) → (true && (texts_fit t && (texts_fit absent && texts_fit r))) ≡ all_texts_fit (cons (const_of i t) (one r))
unfolding texts_fit all_texts_fit
pair_fits i h t r = rw (unique_fits i h) (go (texts_fit t) (texts_fit r))
  where
    go : (a b : Bool) → (true && (a && (true && b))) ≡ ((((a && true) && true) && true) && (b && true))
    go true true = refl
    go true false = refl
    go false true = refl
    go false false = refl

-- ---- an Xe

-- a write with a name that is made
step-named : {a b : Output} {E : List ℕ} {n : ℕ} → Writes a.out.now b.out.now E → Lends b a → b.diagnostics ≡ a.diagnostics → b.fits ≡ a.fits → b.names.id_counter ≡ n → Step a b E [] n true
step-named {a} {b} {E} w s d f c =
    let o : Output = record { out = b.out; diagnostics = b.diagnostics; names = a.names; fits = b.fits } in
    let z : Step a o E [] a.names.id_counter true = step-puts (puts w (ap (λ x. x.ghost_name) s) d refl f) in
    record { out = z.out; diagnostics = z.diagnostics; writers = record { out = z.writers.out; diagnostics = z.writers.diagnostics }; counter = c; fits = z.fits }

-- the type of an expression, after what was made so far
abbrev type_now : Mode → Rec → Output → Out (Option Rec)
type_now m e o = type_of m e o.names.id_counter

module _ (scope : Scope) (r : Record) {p : Record} (x : ChildIs r 0 p) where
  -- "Xe of Id passes"
  pub expr_name : is "Id" (rec_of p) ≡ true → {a b : Output} → Keeps a b (rec_of r) → MakesCounted a b 1 (default_expr_in scope (rec_of r) a.names.id_counter)
  unfolding export_default_expr
  expr_name e {a} w =
      let i : is "Id" (kid 0 (kids_of (rec_of r))) ≡ true = ap (is "Id") (sym x.is) ∙ e in
      let z : pure (one (rec (head_of (rec_of r)) (kids_of (rec_of r)))) a.names.id_counter ≡ default_expr_in scope (rec_of r) a.names.id_counter = rw i in
      counted_kept (rec_of r) w (ap (λ (r : Rec). pure (one r) a.names.id_counter) (sym (whole (rec_of r))) ∙ z)

  -- what it gives otherwise, by the type of its expression
  typed-is : (n : ℕ) → is "Id" (rec_of p) ≡ false → on_value (default_typed (head_of (rec_of r)) (kids_of (rec_of r)) (suc n)) (typing_in scope (rec_of p) false true (suc n)) ≡ default_expr_in scope (rec_of r) n
  unfolding export_default_expr
  typed-is n e =
      let i : is "Id" (kid 0 (kids_of (rec_of r))) ≡ false = ap (is "Id") (sym x.is) ∙ e in
      let z : on_value (default_typed (head_of (rec_of r)) (kids_of (rec_of r)) (suc n)) (typing_in scope (kid 0 (kids_of (rec_of r))) false true (suc n)) ≡ default_expr_in scope (rec_of r) n = rw i in
      ap (λ (y : Rec). on_value (default_typed (head_of (rec_of r)) (kids_of (rec_of r)) (suc n)) (typing_in scope y false true (suc n))) x.is ∙ z

  type-is : (m : Mode) (n : ℕ) → m ≡ readonly_in scope → type_of m (rec_of p) (n + 1) ≡ typing_in scope (rec_of p) false true (suc n)
  unfolding type_of
  type-is m n e = rw (e, add-one n)

  there-is : (m : Mode) (b : Output) (k : ℕ) → m ≡ readonly_in scope → b.names.id_counter ≡ k + 1 → (g : Option Rec → Recs) → on_value g (type_now m (rec_of p) b) ≡ on_value g (typing_in scope (rec_of p) false true (suc k))
  there-is m b k e n g = ap (λ (j : ℕ). on_value g (type_of m (rec_of p) j)) n ∙ ap (on_value g) (type-is m k e)

  pair_is : (n : ℕ) (type : Rec) (v : Option Rec) → v ≡ some type
      → cons (const_of (n + 1) type) (one (rec (head_of (rec_of r)) (set_kid 0 (ident dummy_sp (gen_unique_name (n + 1))) (kids_of (rec_of r))))) ≡ default_typed (head_of (rec_of r)) (kids_of (rec_of r)) (suc n) v
  unfolding default_typed
  pair_is n type v e =
      ap (λ (k : ℕ). cons (const_of k type) (one (rec (head_of (rec_of r)) (set_kid 0 (ident dummy_sp (gen_unique_name k)) (kids_of (rec_of r)))))) (add-one n)
      ∙ ap (λ (v : Option Rec). default_typed (head_of (rec_of r)) (kids_of (rec_of r)) (suc n) v) (sym e)

  whole_is : (n : ℕ) (v : Option Rec) → v ≡ none → one (rec_of r) ≡ default_typed (head_of (rec_of r)) (kids_of (rec_of r)) n v
  unfolding default_typed
  whole_is n v e = ap one (sym (whole (rec_of r))) ∙ ap (λ (v : Option Rec). default_typed (head_of (rec_of r)) (kids_of (rec_of r)) n v) (sym e)

  module _ {a b c : Output} {t : Answer (Unit {0})} {m : Mode} (e : is "Id" (rec_of p) ≡ false) (q : m ≡ readonly_in scope) (v : Writes a.out.now b.out.now (const_before (a.names.id_counter + 1))) (o : Lends b a) (d : b.diagnostics ≡ a.diagnostics) (f : b.fits ≡ a.fits)
      (n : b.names.id_counter ≡ a.names.id_counter + 1) (w : MakesMaybe b c t (type_of m (rec_of p) b.names.id_counter)) where
    -- typed: a const with that type, and the Xe of its name
    pub expr_typed : {s u : Output} → a.names.id_counter + 1 < 2 ^ 64 → t ≡ Some tt → Keeps c s absent
        → Keeps s u (rec (head_of (rec_of r)) (set_kid 0 (ident dummy_sp (gen_unique_name b.names.id_counter)) (kids_of (rec_of r)))) → MakesCounted a u 2 (default_expr_in scope (rec_of r) a.names.id_counter)
    expr_typed {s} {u} small z k l =
        let i : IsSome b c (type_now m (rec_of p) b) = is_some w z in
        let xe : Rec = rec (head_of (rec_of r)) (set_kid 0 (ident dummy_sp (gen_unique_name (a.names.id_counter + 1))) (kids_of (rec_of r))) in
        let named : Keeps s u xe = keeps-as l (ap (λ (i : ℕ). rec (head_of (rec_of r)) (set_kid 0 (ident dummy_sp (gen_unique_name i)) (kids_of (rec_of r)))) n) in
        let all = step_then (step-named v o d f n) (step_then i.step (step_then (step-puts k) (step-puts named))) in
        let counter : s.names.id_counter ≡ (type_now m (rec_of p) b).2 = keeps-counter k ∙ i.step.counter in
        let made : MakesCounted a u 2 (cons (const_of (a.names.id_counter + 1) i.type) (one xe), (type_now m (rec_of p) b).1, (type_now m (rec_of p) b).2) =
        record {
          many = refl;
          made = record { step = step-as all (pair_bytes (a.names.id_counter + 1) i.type xe) (append-nil (type_now m (rec_of p) b).1) counter (pair_fits (a.names.id_counter + 1) small i.type xe) };
        } in
        counted-as made ((λ j. (pair_is a.names.id_counter i.type (type_now m (rec_of p) b).0 i.same j, (type_now m (rec_of p) b).1, (type_now m (rec_of p) b).2)) ∙ (there-is m b a.names.id_counter q n (default_typed (head_of (rec_of r)) (kids_of (rec_of r)) (suc a.names.id_counter)) ∙ typed-is a.names.id_counter e))

    -- "Untyped: kept whole, no diagnostic of its own"
    pub expr_untyped : {s u : Output} {start : Start} → t ≡ None → start ≡ start_of a → Returned c s start → Keeps s u (rec_of r) → MakesCounted a u 1 (default_expr_in scope (rec_of r) a.names.id_counter)
    expr_untyped {s} {u} z y j l =
        let k : Returned c s (start_of a) = rw y at j in
        let i : IsNone b c (type_now m (rec_of p) b) = is_none w z in
        let all = step_then (step_back (step_then (step-named v o d f n) i.step) k) (step-puts l) in
        let counter : s.names.id_counter ≡ (type_now m (rec_of p) b).2 = ap (λ x. x.id_counter) k.names ∙ i.step.counter in
        let made : MakesCounted a u 1 (one (rec_of r), (type_now m (rec_of p) b).1, (type_now m (rec_of p) b).2) =
        record { many = refl; made = record { step = step-as all (sym (encodes_one (rec_of r))) (append-nil (type_now m (rec_of p) b).1) counter (sym (fits_one (rec_of r))) } } in
        counted-as made
        ((λ j. (whole_is (suc a.names.id_counter) (type_now m (rec_of p) b).0 i.same j, (type_now m (rec_of p) b).1, (type_now m (rec_of p) b).2)) ∙ (there-is m b a.names.id_counter q n (default_typed (head_of (rec_of r)) (kids_of (rec_of r)) (suc a.names.id_counter)) ∙ typed-is a.names.id_counter e))
