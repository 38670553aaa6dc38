-- The exported call: what the check found decides.
use mathlib.Core.Path.{◌≡◌, refl, sym, ap, ◌∙◌}
use mathlib.Core.List.{List}
use Prim.Native.Nat.{ℕ, ◌*◌, ◌≤◌}
use native.Mathlib.Omega.{arith}
use lib.ListN.{length, take}
use lib.Seq.{length-take-le}
use Rattle.std.specs.declared.result.Result.{Result}
use Rattle.std.specs.declared.result.Result.TheVariants.{Ok, Err}
use Rattle.definition.specs.Check.{fine, refused, longest_tree, deepest, check_tree}
use Rattle.definition.specs.Children.{AcceptedAt}
use Rattle.definition.specs.Transform.{done, call_by, call}
use Rattle.definition.proofs.Calls.{Beyond, success_keeps}
use Rattle.definition.proofs.Accepted.{accepted-tree}
use Rattle.definition.proofs.Children.{root-accepted}
use Rattle.grammar.specs.Answers.{number, checked}
use Rattle.grammar.specs.declared.Refused.{Refused}
use Rattle.transform_dts.specs.declared.Done.{Done}
use Rattle.transform_dts.specs.Answers.{written_of, answered, Gives}

module _ (tree list : List ℕ) {f : Result ℕ Refused} (c : checked f ≡ check_tree tree list) where
  -- ---- refusals 1 to 8

  pub call-refused : (ctx : ℕ) (out diags : List ℕ) {r : Refused} → f ≡ Err r → Gives (call tree list ctx out diags) (Err r) out diags
  unfolding call call_by
  call-refused ctx out diags {r} q =
      let e : check_tree tree list ≡ refused (number r.refusal) r.place = sym c ∙ ap checked q in
      rw e (record { answer = refl; output = refl; diagnostics = refl })

  -- ---- an accepted tree

  module _ {e : ℕ} (q : f ≡ Ok e) where
    tree-fine : check_tree tree list ≡ fine e
    tree-fine = sym c ∙ ap checked q

    pub call-root : AcceptedAt deepest tree 0
    call-root = root-accepted tree list e tree-fine

    pub call-short : length tree ≤ longest_tree
    call-short = (accepted-tree tree list e tree-fine).0.short

    pub call-accepted : (ctx : ℕ) (out diags : List ℕ) {r : Result Done Refused} {o g : List ℕ} → Gives (written_of list ctx tree out diags) r o g → Gives (call tree list ctx out diags) r o g
    unfolding call call_by
    call-accepted ctx out diags w = rw tree-fine w

-- ---- a success

module _ (tree list : List ℕ) (ctx : ℕ) (out diags : List ℕ) {a : Result Done Refused} {o g : List ℕ} (w : Gives (call tree list ctx out diags) a o g) (d : Done) (q : a ≡ Ok d) where
  pub call_done_is : (call tree list ctx out diags).answer ≡ done d.length d.count
  call_done_is = sym w.answer ∙ ap answered q

  kept : Beyond out diags d.length d.count (call tree list ctx out diags)
  kept = success_keeps tree list ctx out diags d.length d.count call_done_is

  -- what was written is a part of its buffer
  pub wrote-inside : d.length ≤ length o
  wrote-inside = omega (arith, kept.room, kept.out_length, ap length w.output)

  pub wrote-length : d.length ≡ length (take d.length o)
  wrote-length = sym (length-take-le d.length o wrote-inside)

  pub marked-inside : d.count * 10 ≤ length g
  marked-inside = omega (arith, kept.diag_room, kept.diags_length, ap length w.diagnostics)
