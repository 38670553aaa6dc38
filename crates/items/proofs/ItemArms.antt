-- The arms of `transform_module_items`, `transform_module_stmt` and `decl_to_type_decl`, as records; an Ed; a statement.
use mathlib.Core.Path.{◌≡◌, refl, sym, ap, ◌∙◌}
use mathlib.Core.List.{List, [], ◌∷◌, ◌++◌}
use mathlib.Core.Bool.{Bool, true, false, cond, ◌&&◌}
use mathlib.Core.Logic.{◌⊎◌, inl, inr}
use mathlib.Core.Option.{Option, none, some}
use Prim.Native.Nat.{ℕ, ◌≤◌, ◌<◌}
use native.Mathlib.Omega.{arith}
use lib.Dec.{eqb}
use borrow.Author.Tests.{eqb-true}
use Rattle.std.specs.Prelude.{Option as Answer, Some, None}
use Rattle.definition.specs.Tree.{Head, Rec, Recs, rec, nil, cons, count, encodes}
use Rattle.definition.specs.Grammar.{mark}
use Rattle.definition.specs.Record.{head_of, kids_of, mark_of, kid, flag1, one, given, diag, listed, Out, pure, if_m, on_value}
use Rattle.definition.specs.Enums.{enum_member}
use Rattle.definition.specs.Items.{Item, i_kept, i_dropped, i_export, i_default, i_default_expr, i_decl, item_kind, Decl, d_class, d_fn, d_var, d_enum, d_module, d_using, d_type, decl_kind, export_of as export_with, stmt_of as stmt_with, decl_to_type_decl, transform_module_stmt, export_decl, export_default_expr, item_by, transform_module_item, exported, ns_parts}
use Rattle.definition.specs.Transform.{all_texts_fit}
use Rattle.definition.proofs.ItemKinds.{kind-class, kind-default, kind_dropped, kind-enum, kind_export, kind_expr, kind-fn, kind-kept, kind_module, kind_using, kind-var}
use Rattle.records.specs.declared.marks.Mark.{Mark}
use Rattle.records.specs.declared.marks.Mark.TheVariants.{Im, Op, Cd, Fd, Vd, En, Ns}
use Rattle.records.specs.declared.tree.Record.{Record}
use Rattle.records.specs.declared.tree.Records.{Records}
use Rattle.records.specs.Marks.{number_of}
use Rattle.records.specs.Views.{rec_of, recs_of, behind, RestOf, ChildIs}
use Rattle.records.proofs.Records.{from_children, from_rest, enough}
use Rattle.records.proofs.SameMarks.{marked}
use Rattle.prescan.specs.declared.module_names.Scope.{Scope}
use Rattle.output.specs.declared.Output.{Output}
use Rattle.output.specs.declared.Start.{Start}
use Rattle.output.specs.Outputs.{start_of, Keeps, KeepsAll, Marks, Returned, Makes, MakesMaybe, MakesCounted}
use Rattle.output.specs.Kids.{Begun}
use Rattle.output.proofs.Steps.{step-puts, step-marks, step_then, step-as, step_back, maybe-some, maybe-none, maybe-as, IsSome, IsNone, is_some, is_none}
use Rattle.output.proofs.Framing.{makes-keeps, makes_front, all_rest, keeps-counter}
use Rattle.typing.specs.Values.{typing_in}
use Rattle.items.specs.InScope.{class_in, function_in, declarators_in, members_of, parts_in, decl_in, stmt_in, export_in, default_decl_in, default_expr_in, item_in}
use Rattle.items.proofs.Framed.{split_rest, counted-as, counted_one, counted_none}
use Rattle.items.proofs.Mapped.{each_silent}
use Rattle.items.proofs.Inits.{member-silent}
use Rattle.items.proofs.DefaultParts.{whole}

-- an Ed has a declaration, an Ns and an Nd a name and a body
module _ (r : Record) where
  pub ed_one : mark_of (rec_of r) ≡ mark "Ed" → 1 ≤ count (kids_of (rec_of r))
  ed_one e = enough r e

  pub ns_two : mark_of (rec_of r) ≡ mark "Ns" → 2 ≤ count (kids_of (rec_of r))
  ns_two e = enough r e

  pub nd_two : mark_of (rec_of r) ≡ mark "Nd" → 2 ≤ count (kids_of (rec_of r))
  nd_two e = enough r e

-- whether a declaration is an Fd that goes
pub fd_not : (list : List ℕ) (h : Head) (m : ℕ) → eqb m (mark "Fd") ≡ false → false ≡ (eqb m (mark "Fd") && listed list h)
fd_not list h m e = rw e

pub fd_if : (list : List ℕ) (h : Head) (m : ℕ) → eqb m (mark "Fd") ≡ true → {b : Bool} → b ≡ listed list h → b ≡ (eqb m (mark "Fd") && listed list h)
fd_if list h m e f = f ∙ ap (λ (x : Bool). x && listed list h) (sym e)

-- whether a declaration is a function
abbrev is_fn : Decl → Bool
is_fn d_class = false
is_fn d_fn = true
is_fn d_var = false
is_fn d_enum = false
is_fn d_module = false
is_fn d_using = false
is_fn d_type = false

is-fn : (m : ℕ) → eqb m (mark "Fd") ≡ is_fn (decl_kind m)
unfolding decl_kind
is-fn m = go (eqb m (mark "Cd")) refl
  where
    others : (b c d e f : Bool) → b ≡ is_fn (cond b d_fn (cond c d_var (cond d d_enum (cond e d_module (cond f d_using d_type)))))
    others true c d e f = refl
    others false true d e f = refl
    others false false true e f = refl
    others false false false true f = refl
    others false false false false true = refl
    others false false false false false = refl

    go : (a : Bool) → eqb m (mark "Cd") ≡ a
        → eqb m (mark "Fd")
        ≡ is_fn (cond a d_class (cond (eqb m (mark "Fd")) d_fn (cond (eqb m (mark "Vd")) d_var (cond (eqb m (mark "En")) d_enum (cond (eqb m (mark "Ns")) d_module (cond (eqb m (mark "Us")) d_using d_type))))))
    go true q = ap (λ (k : ℕ). eqb k (mark "Fd")) (eqb-true m (mark "Cd") q)
    go false q = others (eqb m (mark "Fd")) (eqb m (mark "Vd")) (eqb m (mark "En")) (eqb m (mark "Ns")) (eqb m (mark "Us"))

-- ---- the arms of `transform_module_items`

-- an item by its kind
abbrev item_as : List ℕ → Scope → Bool → Rec → ℕ → Item → Out Recs
item_as list scope top r n k =
    item_by list scope.unresolved (typing_in scope) k (head_of r) (kids_of r) top (λ n. ns_parts list scope.unresolved (typing_in scope) (kids_of r) n)
    (λ n. exported list scope.unresolved (typing_in scope) (kids_of r) (head_of r) top n) n

item-rec : (list : List ℕ) (scope : Scope) (top : Bool) (r : Rec) (n : ℕ) → item_as list scope top r n (item_kind (mark_of r)) ≡ item_in list scope top r n
unfolding transform_module_item
item-rec list scope top (rec h ks) n = refl

-- what stays
abbrev pub Kept : Mark → Type 0
Kept m = (m ≡ Im) ⊎ (m ≡ Op)

module _ (list : List ℕ) (scope : Scope) (top : Bool) (r : Rec) (n : ℕ) where
  item-by : (k : Item) → item_kind (mark_of r) ≡ k → item_as list scope top r n k ≡ item_in list scope top r n
  item-by k e = ap (item_as list scope top r n) (sym e) ∙ item-rec list scope top r n

  pub item_kept : {m : Mark} → number_of m ≡ mark_of r → Kept m → pure (one r) n ≡ item_in list scope top r n
  unfolding item_by
  item_kept {m} e k = ap (λ (r : Rec). pure (one r) n) (sym (whole r)) ∙ item-by i_kept (kind-kept (mark_of r) (go k))
    where
      go : Kept m → (mark_of r ≡ mark "Im") ⊎ (mark_of r ≡ mark "Op")
      go (inl q) = inl (marked m e q)
      go (inr q) = inr (marked m e q)

  pub item_dropped : mark_of r ≡ mark "St" → pure nil n ≡ item_in list scope top r n
  unfolding item_by
  item_dropped m = item-by i_dropped (kind_dropped (mark_of r) m)

  pub item_export : mark_of r ≡ mark "Ed" → export_in list scope top r n ≡ item_in list scope top r n
  unfolding item_by
  item_export m = item-by i_export (kind_export (mark_of r) m)

  pub item_default : mark_of r ≡ mark "Xd" → default_decl_in list scope r n ≡ item_in list scope top r n
  unfolding item_by
  item_default m = item-by i_default (kind-default (mark_of r) m)

  pub item_expr : mark_of r ≡ mark "Xe" → default_expr_in scope r n ≡ item_in list scope top r n
  unfolding item_by export_default_expr
  item_expr m = item-by i_default_expr (kind_expr (mark_of r) m)

  pub item_stmt : item_kind (mark_of r) ≡ i_decl → stmt_in list scope top r n ≡ item_in list scope top r n
  unfolding item_by
  item_stmt e = item-by i_decl e

-- ---- the arms of `transform_module_stmt`

-- a declaration, and a statement, by their kind
abbrev decl_as : List ℕ → Scope → Bool → Rec → ℕ → Decl → Out (Option Rec)
decl_as list scope top r n k =
    decl_to_type_decl list scope.unresolved (typing_in scope) k (head_of r) (kids_of r) top (λ n. ns_parts list scope.unresolved (typing_in scope) (kids_of r) n) n

abbrev stmt_as : List ℕ → Scope → Bool → Rec → ℕ → Decl → Out Recs
stmt_as list scope top r n k =
    transform_module_stmt list scope.unresolved (typing_in scope) k (head_of r) (kids_of r) top (λ n. ns_parts list scope.unresolved (typing_in scope) (kids_of r) n) n

-- whether it becomes another
abbrev pub is_made : Decl → Bool
is_made d_class = true
is_made d_fn = true
is_made d_var = true
is_made d_enum = true
is_made d_module = true
is_made d_using = false
is_made d_type = false

-- which become another
abbrev pub Made : Mark → Type 0
Made m = (m ≡ Cd) ⊎ ((m ≡ Fd) ⊎ ((m ≡ Vd) ⊎ ((m ≡ En) ⊎ (m ≡ Ns))))

pub made_is : (r : Rec) {m : Mark} → number_of m ≡ mark_of r → Made m → is_made (decl_kind (mark_of r)) ≡ true
made_is r {m} e (inl q) = ap is_made (kind-class (mark_of r) (marked m e q))
made_is r {m} e (inr (inl q)) = ap is_made (kind-fn (mark_of r) (marked m e q))
made_is r {m} e (inr (inr (inl q))) = ap is_made (kind-var (mark_of r) (marked m e q))
made_is r {m} e (inr (inr (inr (inl q)))) = ap is_made (kind-enum (mark_of r) (marked m e q))
made_is r {m} e (inr (inr (inr (inr q)))) = ap is_made (kind_module (mark_of r) (marked m e q))

pub made_not : (m : ℕ) → eqb m (mark "Cd") ≡ false → eqb m (mark "Fd") ≡ false → eqb m (mark "Vd") ≡ false → eqb m (mark "En") ≡ false → eqb m (mark "Ns") ≡ false → is_made (decl_kind m) ≡ false
unfolding decl_kind
made_not m a b c d e = rw (a, b, c, d, e) (go (eqb m (mark "Us")))
  where
    go : (b : Bool) → is_made (cond b d_using d_type) ≡ false
    go true = refl
    go false = refl

module _ (list : List ℕ) (scope : Scope) (top : Bool) (r : Rec) (n : ℕ) where
  stmt-fn : (k : Decl) → (is_fn k && listed list (head_of r)) ≡ true → pure nil n ≡ stmt_as list scope top r n k
  unfolding transform_module_stmt
  stmt-fn d_fn e = rw e
  stmt-fn d_class e = absurd (let z : ◌≡◌ {A = ℕ} 0 1 = cc in omega arith)
  stmt-fn d_var e = absurd (let z : ◌≡◌ {A = ℕ} 0 1 = cc in omega arith)
  stmt-fn d_enum e = absurd (let z : ◌≡◌ {A = ℕ} 0 1 = cc in omega arith)
  stmt-fn d_module e = absurd (let z : ◌≡◌ {A = ℕ} 0 1 = cc in omega arith)
  stmt-fn d_using e = absurd (let z : ◌≡◌ {A = ℕ} 0 1 = cc in omega arith)
  stmt-fn d_type e = absurd (let z : ◌≡◌ {A = ℕ} 0 1 = cc in omega arith)

  stmt-by : (k : Decl) → (is_fn k && listed list (head_of r)) ≡ false → is_made k ≡ true → stmt_with (head_of r) (decl_as list scope top r n k) ≡ stmt_as list scope top r n k
  unfolding transform_module_stmt
  stmt-by d_fn e q = rw e
  stmt-by d_class e q = refl
  stmt-by d_var e q = refl
  stmt-by d_enum e q = refl
  stmt-by d_module e q = refl
  stmt-by d_using e q = absurd (let z : ◌≡◌ {A = ℕ} 0 1 = cc in omega arith)
  stmt-by d_type e q = absurd (let z : ◌≡◌ {A = ℕ} 0 1 = cc in omega arith)

  fn-told : {b : Bool} → b ≡ (eqb (mark_of r) (mark "Fd") && listed list (head_of r)) → (is_fn (decl_kind (mark_of r)) && listed list (head_of r)) ≡ b
  fn-told e = ap (λ (x : Bool). x && listed list (head_of r)) (sym (is-fn (mark_of r))) ∙ sym e

  pub stmt_gone : {b : Bool} → b ≡ (eqb (mark_of r) (mark "Fd") && listed list (head_of r)) → b ≡ true → pure nil n ≡ stmt_in list scope top r n
  stmt_gone e q = stmt-fn (decl_kind (mark_of r)) (fn-told e ∙ q)

  pub stmt_kept : is_made (decl_kind (mark_of r)) ≡ false → pure (one r) n ≡ stmt_in list scope top r n
  unfolding transform_module_stmt
  stmt_kept q = ap (λ (r : Rec). pure (one r) n) (sym (whole r)) ∙ go (decl_kind (mark_of r)) q
    where
      go : (k : Decl) → is_made k ≡ false → pure (one (rec (head_of r) (kids_of r))) n ≡ stmt_as list scope top r n k
      go d_fn e = absurd (let z : ◌≡◌ {A = ℕ} 0 1 = cc in omega arith)
      go d_class e = absurd (let z : ◌≡◌ {A = ℕ} 0 1 = cc in omega arith)
      go d_var e = absurd (let z : ◌≡◌ {A = ℕ} 0 1 = cc in omega arith)
      go d_enum e = absurd (let z : ◌≡◌ {A = ℕ} 0 1 = cc in omega arith)
      go d_module e = absurd (let z : ◌≡◌ {A = ℕ} 0 1 = cc in omega arith)
      go d_using e = refl
      go d_type e = refl

  pub stmt_made : {b : Bool} → b ≡ (eqb (mark_of r) (mark "Fd") && listed list (head_of r)) → b ≡ false → is_made (decl_kind (mark_of r)) ≡ true
      → stmt_with (head_of r) (decl_in list scope top r n) ≡ stmt_in list scope top r n
  stmt_made e q m = stmt-by (decl_kind (mark_of r)) (fn-told e ∙ q) m

-- ---- a statement, once its declaration has become another, or none

module _ (list : List ℕ) (scope : Scope) (top : Bool) (r : Rec) {a b : Output} {t : Answer (Unit {0})} (w : MakesMaybe a b t (decl_in list scope top r a.names.id_counter))
    (e : stmt_with (head_of r) (decl_in list scope top r a.names.id_counter) ≡ stmt_in list scope top r a.names.id_counter) where
  pub stmt_some : t ≡ Some tt → MakesCounted a b 1 (stmt_in list scope top r a.names.id_counter)
  stmt_some z =
      let x : Out (Option Rec) = decl_in list scope top r a.names.id_counter in
      let i : IsSome a b x = is_some w z in
      let made : Makes a b (i.type, x.1, x.2) = record { step = i.step } in
      counted_one made (ap (λ (y : Option Rec). given y (nil, x.1 ++ (diag "d1" (head_of r) ∷ []), x.2) (λ d. (one d, x.1, x.2))) (sym i.same) ∙ e)

  pub stmt_none : {c : Output} → t ≡ None → Marks b c (diag "d1" (head_of r)) → MakesCounted a c 0 (stmt_in list scope top r a.names.id_counter)
  unfolding encodes all_texts_fit
  stmt_none {c} z m =
      let x : Out (Option Rec) = decl_in list scope top r a.names.id_counter in
      let i : IsNone a b x = is_none w z in
      let made : MakesCounted a c 0 (nil, x.1 ++ (diag "d1" (head_of r) ∷ []), x.2) = record { many = refl; made = record { step = step-as (step_then i.step (step-marks m)) refl refl i.step.counter refl } } in
      counted-as made (ap (λ (y : Option Rec). given y (nil, x.1 ++ (diag "d1" (head_of r) ∷ []), x.2) (λ d. (one d, x.1, x.2))) (sym i.same) ∙ e)

-- ---- the arms of `decl_to_type_decl`

-- a declaration that was made, kept, or left out
pub maybe_made : {a b : Output} {x : Out Rec} {y : Out (Option Rec)} → Makes a b x → on_value some x ≡ y → MakesMaybe a b (Some tt) y
maybe_made w e = maybe-as (maybe-some w.step) e

pub maybe_kept : {a b : Output} (r : Rec) {y : Out (Option Rec)} → Keeps a b r → pure (some r) a.names.id_counter ≡ y → MakesMaybe a b (Some tt) y
maybe_kept r w e = maybe_made (makes-keeps r w) e

pub maybe_marked : {a b : Output} (h : Head) {y : Out (Option Rec)} → Marks a b (diag "d5" h) → (none, diag "d5" h ∷ [], a.names.id_counter) ≡ y → MakesMaybe a b None y
maybe_marked h w e = maybe-as (maybe-none (step-marks w)) e

-- the members of an En, as a step
pub members_silent : (flags : ℕ) (r : Rec) (n : ℕ) → pure (some (members_of flags r n).0) n ≡ on_value some (members_of flags r n)
members_silent flags r n =
    let z = each_silent (λ i. enum_member) (λ i. member-silent) 0 (kids_of r) n in
    λ j. (some (members_of flags r n).0, sym (ap (λ (o : Out Recs). o.1) z) j, sym (ap (λ (o : Out Recs). o.2) z) j)

module _ (list : List ℕ) (scope : Scope) (top : Bool) (r : Rec) (n : ℕ) where
  decl-by : (k : Decl) → decl_kind (mark_of r) ≡ k → decl_as list scope top r n k ≡ decl_in list scope top r n
  decl-by k e = ap (decl_as list scope top r n) (sym e)

  pub decl_using : mark_of r ≡ mark "Us" → (none, diag "d5" (head_of r) ∷ [], n) ≡ decl_in list scope top r n
  unfolding decl_to_type_decl
  decl_using m = decl-by d_using (kind_using (mark_of r) m)

  pub decl_type : decl_kind (mark_of r) ≡ d_type → pure (some r) n ≡ decl_in list scope top r n
  unfolding decl_to_type_decl
  decl_type e = ap (λ (r : Rec). pure (some r) n) (sym (whole r)) ∙ decl-by d_type e

  -- the others, with the flags that the code has made
  module _ {own flags : ℕ} (o : own ≡ (head_of r).flags) (f : flags ≡ flag1 top own) where
    made-flags : flags ≡ flag1 top (head_of r).flags
    made-flags = f ∙ ap (flag1 top) o

    pub decl_class : mark_of r ≡ mark "Cd" → on_value some (class_in list scope flags r n) ≡ decl_in list scope top r n
    unfolding decl_to_type_decl
    decl_class m = ap (λ (x : ℕ). on_value some (class_in list scope x r n)) made-flags ∙ decl-by d_class (kind-class (mark_of r) m)

    pub decl_fn : mark_of r ≡ mark "Fd" → on_value some (function_in scope flags r n) ≡ decl_in list scope top r n
    unfolding decl_to_type_decl
    decl_fn m = ap (λ (x : ℕ). on_value some (function_in scope x r n)) made-flags ∙ decl-by d_fn (kind-fn (mark_of r) m)

    pub decl_var : mark_of r ≡ mark "Vd" → on_value some (declarators_in scope flags r n) ≡ decl_in list scope top r n
    unfolding decl_to_type_decl
    decl_var m = ap (λ (x : ℕ). on_value some (declarators_in scope x r n)) made-flags ∙ decl-by d_var (kind-var (mark_of r) m)

    pub decl_enum : mark_of r ≡ mark "En" → pure (some (members_of flags r n).0) n ≡ decl_in list scope top r n
    unfolding decl_to_type_decl
    decl_enum m = members_silent flags r n ∙ (ap (λ (x : ℕ). on_value some (members_of x r n)) made-flags ∙ decl-by d_enum (kind-enum (mark_of r) m))

    pub decl_module : mark_of r ≡ mark "Ns" → on_value some (parts_in list scope flags r n) ≡ decl_in list scope top r n
    unfolding decl_to_type_decl
    decl_module m = ap (λ (x : ℕ). on_value some (parts_in list scope x r n)) made-flags ∙ decl-by d_module (kind_module (mark_of r) m)

-- ---- an Ed

module _ (list : List ℕ) (scope : Scope) (top : Bool) (h : Head) (ops : Recs) where
  abbrev export_as : Rec → ℕ → Decl → Out Recs
  export_as r n k =
      export_decl list scope.unresolved (typing_in scope) k h (head_of r) (kids_of r) ops top (λ n. ns_parts list scope.unresolved (typing_in scope) (kids_of r) n) n

  exported-rec : (r : Rec) (n : ℕ) → export_as r n (decl_kind (mark_of r)) ≡ exported list scope.unresolved (typing_in scope) (cons r ops) h top n
  unfolding exported
  exported-rec (rec dh ks) n = refl

  export-by : (r : Rec) (n : ℕ) (k : Decl) → if_m (is_fn k && listed list h) (pure nil) (λ n. export_with h ops (decl_as list scope top r n k)) n ≡ export_as r n k
  unfolding export_decl
  export-by r n d_fn = refl
  export-by r n d_class = refl
  export-by r n d_var = refl
  export-by r n d_enum = refl
  export-by r n d_module = refl
  export-by r n d_using = refl
  export-by r n d_type = refl

  exported-is : (r : Rec) (n : ℕ) → if_m (eqb (mark_of r) (mark "Fd") && listed list h) (pure nil) (λ n. export_with h ops (decl_in list scope top r n)) n
      ≡ exported list scope.unresolved (typing_in scope) (cons r ops) h top n
  exported-is r n =
      ap (λ (b : Bool). if_m (b && listed list h) (pure nil) (λ n. export_with h ops (decl_in list scope top r n)) n) (is-fn (mark_of r)) ∙ (export-by r n (decl_kind (mark_of r)) ∙ exported-rec r n)

-- of its children
exported-kids : (list : List ℕ) (scope : Scope) (top : Bool) (h : Head) (ks : Recs) (n : ℕ) → 0 < count ks
    → if_m (eqb (mark_of (kid 0 ks)) (mark "Fd") && listed list h) (pure nil) (λ n. export_with h (behind 1 ks) (decl_in list scope top (kid 0 ks) n)) n ≡ exported list scope.unresolved (typing_in scope) ks h top n
unfolding behind
exported-kids list scope top h nil n l = absurd (omega (arith, l))
exported-kids list scope top h (cons d ops) n l = exported-is list scope top h ops d n

module _ (list : List ℕ) (scope : Scope) (top : Bool) (r : Record) {p : Record} (x : ChildIs r 0 p) {b : Bool} (e : b ≡ (eqb (mark_of (rec_of p)) (mark "Fd") && listed list (head_of (rec_of r)))) where
  export-is : (n : ℕ) → if_m b (pure nil) (λ n. export_with (head_of (rec_of r)) (behind 1 (kids_of (rec_of r))) (decl_in list scope top (rec_of p) n)) n ≡ export_in list scope top (rec_of r) n
  export-is n =
      ap (λ (b : Bool). if_m b (pure nil) (λ n. export_with (head_of (rec_of r)) (behind 1 (kids_of (rec_of r))) (decl_in list scope top (rec_of p) n)) n) e
      ∙ (ap (λ (q : Rec). if_m (eqb (mark_of q) (mark "Fd") && listed list (head_of (rec_of r))) (pure nil) (λ n. export_with (head_of (rec_of r)) (behind 1 (kids_of (rec_of r))) (decl_in list scope top q n)) n) x.is
      ∙ exported-kids list scope top (head_of (rec_of r)) (kids_of (rec_of r)) n x.there)

  pub export_gone : b ≡ true → (o : Output) → MakesCounted o o 0 (export_in list scope top (rec_of r) o.names.id_counter)
  export_gone q o =
      counted_none o
      (ap (λ (b : Bool). if_m b (pure nil) (λ n. export_with (head_of (rec_of r)) (behind 1 (kids_of (rec_of r))) (decl_in list scope top (rec_of p) n)) o.names.id_counter) (sym q) ∙ export-is o.names.id_counter)

  module _ (q : b ≡ false) {o o1 o2 : Output} {k : Records} {t : Answer (Unit {0})} (g : Begun o o1 r (head_of (rec_of r)) k) (w : MakesMaybe o1 o2 t (decl_in list scope top (rec_of p) o1.names.id_counter)) where
    export-now : export_with (head_of (rec_of r)) (behind 1 (kids_of (rec_of r))) (decl_in list scope top (rec_of p) o1.names.id_counter) ≡ export_in list scope top (rec_of r) o.names.id_counter
    export-now =
        ap (λ (n : ℕ). export_with (head_of (rec_of r)) (behind 1 (kids_of (rec_of r))) (decl_in list scope top (rec_of p) n)) (keeps-counter g.front)
        ∙ (ap (λ (b : Bool). if_m b (pure nil) (λ n. export_with (head_of (rec_of r)) (behind 1 (kids_of (rec_of r))) (decl_in list scope top (rec_of p) n)) o.names.id_counter) (sym q) ∙ export-is o.names.id_counter)

    pub export_some : {o3 : Output} {l : Records} → t ≡ Some tt → 0 < k.count → RestOf k l → KeepsAll o2 o3 (recs_of l) → MakesCounted o o3 1 (export_in list scope top (rec_of r) o.names.id_counter)
    export_some {l = l} z m s c =
        let y : Out (Option Rec) = decl_in list scope top (rec_of p) o1.names.id_counter in
        let i : IsSome o1 o2 y = is_some w z in
        let h : Head = head_of (rec_of r) in
        let made : Makes o1 o2 (i.type, y.1, y.2) = record { step = i.step } in
        counted_one (makes_front h g.front (g.kids.many ∙ ap count (sym g.kids.are ∙ split_rest m s)) g.short (all_rest (recs_of l) made c))
        (ap (λ (v : Option Rec). given v (nil, y.1 ++ (diag "d1" h ∷ []), y.2) (λ d. (one (rec h (cons d (recs_of l))), y.1, y.2))) (sym i.same)
        ∙ (ap (λ (ks : Recs). export_with h ks y) (from_rest (from_children g.kids) m s).are ∙ export-now))

    pub export_none : {o3 o4 : Output} {start : Start} → t ≡ None → start ≡ start_of o → Returned o2 o3 start → Marks o3 o4 (diag "d1" (head_of (rec_of r))) → MakesCounted o o4 0 (export_in list scope top (rec_of r) o.names.id_counter)
    unfolding encodes all_texts_fit
    export_none {o3} {o4} z f j m =
        let y : Out (Option Rec) = decl_in list scope top (rec_of p) o1.names.id_counter in
        let i : IsNone o1 o2 y = is_none w z in
        let h : Head = head_of (rec_of r) in
        let back : Returned o2 o3 (start_of o) = rw f at j in
        let counter : o3.names.id_counter ≡ y.2 = ap (λ x. x.id_counter) back.names ∙ i.step.counter in
        let all = step_then (step_back (step_then (step-puts g.front) i.step) back) (step-marks m) in
        let made : MakesCounted o o4 0 (nil, y.1 ++ (diag "d1" h ∷ []), y.2) = record { many = refl; made = record { step = step-as all refl refl counter refl } } in
        let none_is : (nil, y.1 ++ (diag "d1" h ∷ []), y.2) ≡ export_with h (behind 1 (kids_of (rec_of r))) y =
        ap (λ (v : Option Rec). given v (nil, y.1 ++ (diag "d1" h ∷ []), y.2) (λ d. (one (rec h (cons d (behind 1 (kids_of (rec_of r))))), y.1, y.2))) (sym i.same) in
        counted-as made (none_is ∙ export-now)
