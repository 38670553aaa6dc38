-- The run over the Mo of an accepted tree: what the items are asked, and what their answer makes of the whole.
use mathlib.Core.Path.{◌≡◌, refl, sym, ap, ◌∙◌, subst}
use mathlib.Core.List.{List}
use mathlib.Core.Bool.{Bool, true, ◌&&◌}
use Prim.Native.Nat.{ℕ, ◌+◌, ◌<◌}
use native.Mathlib.Omega.{arith}
use mir.Syntax.{w8}
use mir.Val
use lib.ListN.{length, get_or}
use Rattle.definition.specs.Tree.{Rec, head_size, count, encode, tree_at}
use Rattle.definition.specs.Check.{deepest}
use Rattle.definition.specs.Record.{head_of, kids_of, text_of, diags_bytes, Out, wrap}
use Rattle.definition.specs.Transform.{texts_fit, transform, transform_by}
use Rattle.definition.proofs.Places.{count_small}
use Rattle.prescan.specs.declared.module_names.Scope.{Scope}
use Rattle.records.specs.declared.tree.Record.{Record}
use Rattle.records.specs.declared.tree.Records.{Records}
use Rattle.records.specs.Views.{rec_of, recs_of, ChildrenOf}
use Rattle.records.specs.Wrote.{sat}
use Rattle.records.proofs.Views.{count_here}
use Rattle.records.proofs.Whole.{slice_bytes}
use Rattle.output.specs.declared.Output.{Output}
use Rattle.output.specs.declared.Start.{Start}
use Rattle.output.specs.Outputs.{front_bytes, start_of, Skipped, Fronted, Makes, MakesCounted}
use Rattle.output.proofs.Framing.{makes_front_last, makes-as}
use Rattle.typing.specs.Values.{ids_in, typing_in, ReadyAll}
use Rattle.items.specs.InScope.{items_in}
use Rattle.transform_dts.specs.declared.Run.{Run}
use Rattle.transform_dts.specs.Runs.{IsModule, Runs}

-- ---- the module of an accepted tree

pub is_module : (r : Record) (scope : Scope) → scope.names.tree ≡ r.tree → r.at ≡ 0 → r.levels ≡ deepest → ((i : ℕ) → mir.Val.Fits w8 (get_or r.tree.now i 0)) → IsModule r scope
is_module r scope t a l known = record { tree = t; place = a; levels = l; few = omega (arith, count_here r, count_small r.tree.now r.at (slice_bytes r.tree.now known)) }

module _ {r : Record} {scope : Scope} (m : IsModule r scope) where
  pub items_ready : {o : Output} {k : Records} → o.names.id_counter ≡ 0 → ChildrenOf r k → ReadyAll o k scope × (k.count < 65536)
  items_ready e c = (record { low = omega (arith, e); same = m.tree ∙ sym c.tree }, omega (arith, c.many, m.few))

  -- the transform, with the typing of the scope
  of_scope : (list : List ℕ) → wrap (head_of (rec_of r)) (items_in list scope true (kids_of (rec_of r)) 0) ≡ transform list scope.unresolved (rec_of r)
  unfolding transform transform_by ids_in rec_of
  of_scope list = rw (m.levels, m.place, ap (λ x. x.now) m.tree) refl

  pub module_made : (list : List ℕ) {o p q o' : Output} {k : Records} {n : ℕ} → o.names.id_counter ≡ 0 → ChildrenOf r k → Skipped o p (head_size + length (text_of (rec_of r))) → p.names.id_counter ≡ 0
      → MakesCounted p q n (items_in list scope true (recs_of k) p.names.id_counter) → Fronted q o' (start_of o) (front_bytes (head_of (rec_of r)) n) → length (text_of (rec_of r)) < 65536
      → Makes o o' (transform list scope.unresolved (rec_of r))
  module_made list {o} {p} {q} {o'} {k} {n} e c s f w v t =
      let w' : MakesCounted p q n (items_in list scope true (kids_of (rec_of r)) 0) = rw (← f, ← c.are) w in
      makes-as (makes_front_last (head_of (rec_of r)) s w'.made v w'.many t) (of_scope list)

-- in the room that was left where the output stood
pub from_start : (o : Output) {q o' : Output} {s : Start} {E : List ℕ} → s ≡ start_of o → Fronted q o' s E → Fronted q o' (start_of o) E
from_start o {q = q} {o' = o'} {E = E} e w = subst (λ (x : Start). Fronted q o' x E) e w

-- ---- what it left

pub run_of : {o o' : Output} {x : Out Rec} → o.out.now.at ≡ 0 → o.diagnostics.now.at ≡ 0 → o.fits ≡ true → Makes o o' x → Runs o.out.now.out.now o'.out.now.out.now o.diagnostics.now.out.now o'.diagnostics.now.out.now (record { written = o'.out.now.at; reported = o'.diagnostics.now.at; fits = o'.fits }) x
run_of {o} {o'} {x} p d f w = record {
  ran = record {
    out = rw (← p) w.step.out.wrote;
    dia = rw (← d) w.step.diagnostics.wrote;
    atp = w.step.out.position ∙ ap (λ (i : ℕ). sat i (length (encode x.0))) p;
    atd = w.step.diagnostics.position ∙ ap (λ (i : ℕ). sat i (length (diags_bytes x.1))) d;
  };
  fits = w.step.fits ∙ ap (λ (b : Bool). b && texts_fit x.0) f;
}

-- the same, of the buffers and the places as they come back
pub run_back : {o o' : Output} {x : Out Rec} {i j : ℕ} {out dia : List ℕ} → o.out.now.at ≡ 0 → o.diagnostics.now.at ≡ 0 → o.fits ≡ true → Makes o o' x
    → i ≡ o'.out.now.at → j ≡ o'.diagnostics.now.at → out ≡ o'.out.now.out.now → dia ≡ o'.diagnostics.now.out.now
    → Runs o.out.now.out.now out o.diagnostics.now.out.now dia (record { written = i; reported = j; fits = o'.fits }) x
run_back p d f w e g h k = rw (h, k, e, g) (run_of p d f w)
