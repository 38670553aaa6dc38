-- The body of a namespace, as records.
use mathlib.Core.Path.{◌≡◌, refl, sym, ap, ◌∙◌}
use mathlib.Core.List.{List}
use mathlib.Core.Bool.{false}
use Prim.Native.Nat.{ℕ, ◌+◌, ◌≤◌, ◌<◌}
use native.Mathlib.Omega.{arith}
use lib.Dec.{eqb}
use lib.ListN.{length}
use Rattle.definition.specs.Tree.{Rec, Recs, nil, cons, count, head_size}
use Rattle.definition.specs.Grammar.{mark}
use Rattle.definition.specs.Record.{head_of, kids_of, mark_of, with_flags, Out, pure, wrap, at_kid}
use Rattle.definition.specs.Items.{ns_parts}
use Rattle.definition.proofs.ItemKinds.{block-becomes, nested-becomes, other-becomes}
use Rattle.records.specs.declared.tree.Record.{Record}
use Rattle.records.specs.declared.tree.Records.{Records}
use Rattle.records.specs.Views.{rec_of, recs_of, FirstOf, RestOf, ChildrenOf}
use Rattle.prescan.specs.declared.module_names.Scope.{Scope}
use Rattle.output.specs.declared.Output.{Output}
use Rattle.output.specs.declared.Start.{Start}
use Rattle.output.specs.Outputs.{front_bytes, start_of, KeepsAll, Skipped, Fronted, Makes, MakesCounted}
use Rattle.output.specs.Kids.{Begun, Kept}
use Rattle.output.proofs.Framing.{makes-as, all-as, makes_second, makes_front_last}
use Rattle.typing.specs.Values.{typing_in}
use Rattle.items.specs.InScope.{parts_in, items_in, body_in}

module _ (list : List ℕ) (scope : Scope) where
  -- what is no Nb and no Nd stays
  pub body_other : (r : Rec) (n : ℕ) → eqb (mark_of r) (mark "Nb") ≡ false → eqb (mark_of r) (mark "Nd") ≡ false → pure r n ≡ body_in list scope r n
  body_other r n a b = sym (other-becomes list scope.unresolved (typing_in scope) r n a b)

  -- an Nd: the flags that were read are its own
  pub nested_is : (r : Rec) (n : ℕ) {flags : ℕ} → flags ≡ (head_of r).flags → mark_of r ≡ mark "Nd" → parts_in list scope flags r n ≡ body_in list scope r n
  nested_is r n e m = ap (λ (f : ℕ). parts_in list scope f r n) e ∙ sym (nested-becomes list scope.unresolved (typing_in scope) r n m)

  -- the children of an Ns or an Nd
  parts-are : (ks : Recs) (n : ℕ) → 2 ≤ count ks → at_kid 1 (body_in list scope) ks n ≡ ns_parts list scope.unresolved (typing_in scope) ks n
  unfolding ns_parts
  parts-are nil n l = absurd (omega (arith, l))
  parts-are (cons name nil) n l = absurd (omega (arith, l))
  parts-are (cons name (cons b ops)) n l = refl

  pub parts_made : {flags : ℕ} {a b c d e : Output} {r x : Record} {k l rest : Records} → 2 ≤ count (kids_of (rec_of r)) → Begun a b r (with_flags (head_of (rec_of r)) flags) k → Kept b c k l (λ r. r) → 0 < l.count → FirstOf l x → RestOf l rest
      → Makes c d (body_in list scope (rec_of x) c.names.id_counter) → KeepsAll d e (recs_of rest) → Makes a e (parts_in list scope flags (rec_of r) a.names.id_counter)
  parts_made {flags} {a} {r = r} two g p m f q v w =
      makes-as (makes_second g (body_in list scope) p m f q v w) (ap (wrap (with_flags (head_of (rec_of r)) flags)) (parts-are (kids_of (rec_of r)) a.names.id_counter two))

  -- an Nb: its front follows its items
  pub block_made : {a b c d : Output} {r : Record} {k : Records} {start : Start} {n : ℕ} → mark_of (rec_of r) ≡ mark "Nb" → start ≡ start_of a → Skipped a b (head_size + length (head_of (rec_of r)).text) → ChildrenOf r k
      → MakesCounted b c n (items_in list scope false (recs_of k) b.names.id_counter) → Fronted c d start (front_bytes (head_of (rec_of r)) n) → length (head_of (rec_of r)).text < 65536
      → Makes a d (body_in list scope (rec_of r) a.names.id_counter)
  block_made {a} {b} {c} {d} {r} {k} {start} {n} m e s j w f short =
      let h = head_of (rec_of r) in
      let front : Fronted c d (start_of a) (front_bytes h n) = rw e at f in
      let is : items_in list scope false (recs_of k) b.names.id_counter ≡ items_in list scope false (kids_of (rec_of r)) a.names.id_counter =
      ap (λ (n : ℕ). items_in list scope false (recs_of k) n) (ap (λ x. x.id_counter) s.names) ∙ ap (λ (ks : Recs). items_in list scope false ks a.names.id_counter) j.are in
      makes-as (makes_front_last h s (all-as w.made is) front (w.many ∙ ap (λ (o : Out Recs). count o.0) is) short) (sym (block-becomes list scope.unresolved (typing_in scope) (rec_of r) a.names.id_counter m))
