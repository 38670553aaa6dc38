-- What a typing asks, of the children of a record of which it was asked.
use mathlib.Core.Path.{◌≡◌, sym, ◌∙◌}
use Prim.Native.Nat.{ℕ, ◌≤◌}
use native.Mathlib.Omega.{arith}
use Rattle.prescan.specs.declared.module_names.Scope.{Scope}
use Rattle.records.specs.declared.tree.Record.{Record}
use Rattle.records.specs.declared.tree.Records.{Records}
use Rattle.records.specs.Views.{ChildrenOf, FirstOf, RestOf, ChildIs}
use Rattle.output.specs.declared.Output.{Output}
use Rattle.typing.specs.Values.{Ready, ReadyAll}

module _ {o : Output} {r : Record} {scope : Scope} (y : Ready o r scope) where
  -- its children, at an output whose counter is the same
  pub ready_kids : {p : Output} {k : Records} → ChildrenOf r k → p.names.id_counter ≡ o.names.id_counter → ReadyAll p k scope
  ready_kids c e = record { low = omega (arith, y.low, c.behind, e); same = y.same ∙ sym c.tree }

  -- the child with a number
  pub ready_child : {p : Output} {i : ℕ} {x : Record} → ChildIs r i x → p.names.id_counter ≡ o.names.id_counter → Ready p x scope
  ready_child c e = record { low = omega (arith, y.low, c.behind_it, e); same = y.same ∙ sym c.tree }

module _ {o : Output} {k : Records} {scope : Scope} (y : ReadyAll o k scope) where
  pub ready_first : {p : Output} {x : Record} → FirstOf k x → p.names.id_counter ≡ o.names.id_counter → Ready p x scope
  ready_first f e = record { low = omega (arith, y.low, f.place, e); same = y.same ∙ sym f.tree }

  pub ready_rest : {p : Output} {l : Records} → RestOf k l → p.names.id_counter ≡ o.names.id_counter → ReadyAll p l scope
  ready_rest q e = record { low = omega (arith, y.low, q.behind, e); same = y.same ∙ sym q.tree }

  -- in a loop over k
  pub ready_left : {p : Output} {l : Records} → l.tree ≡ k.tree → p.names.id_counter ≤ l.at → ReadyAll p l scope
  ready_left t h = record { low = h; same = y.same ∙ sym t }
