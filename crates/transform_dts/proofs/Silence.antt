-- No member of an object literal is left out in silence, said of the diagnostics buffer that the exported call leaves.
use mathlib.Core.Path.{◌≡◌}
use mathlib.Core.List.{List}
use mathlib.Core.Bool.{Bool, false}
use Prim.Native.Nat.{ℕ}
use Rattle.std.specs.declared.result.Result.{Result}
use Rattle.std.specs.declared.result.Result.TheVariants.{Ok}
use Rattle.definition.specs.Tree.{Head, Rec, Recs, rec, tree_at}
use Rattle.definition.specs.Grammar.{mark}
use Rattle.definition.specs.Check.{deepest}
use Rattle.definition.specs.Record.{kids_of}
use Rattle.definition.specs.Prescan.{prescan_module_ids}
use Rattle.definition.specs.Transform.{call}
use Rattle.definition.specs.Silence.{OneOf, Stands, Told, Meets}
use Rattle.definition.specs.Typed.{InItem}
use Rattle.definition.proofs.SilenceCall.{no_silence_in_call}
use Rattle.grammar.specs.declared.Refused.{Refused}
use Rattle.transform_dts.specs.declared.Done.{Done}
use Rattle.transform_dts.specs.Answers.{Gives}
use Rattle.transform_dts.proofs.Calls.{call_done_is}

-- after `transform` answered Ok(d), with g in the diagnostics buffer: "untyped Sh and every Pq skipped, d3 at it; Sp skipped, d4 at it"
pub no_silence_at_exit : (tree list : List ℕ) (ctx : ℕ) (out diags : List ℕ) {a : Result Done Refused} {o g : List ℕ} → Gives (call tree list ctx out diags) a o g →
    (d : Done) → a ≡ Ok d → {i e : Rec} {r c' r' : Bool} → OneOf i (kids_of (tree_at deepest tree 0)) → InItem list ctx e r i → (oh : Head) (ks : Recs) →
    oh.mark ≡ mark "Ob" → Meets (prescan_module_ids (kids_of (tree_at deepest tree 0))) ctx (rec oh ks) c' r' e false r →
    Told (prescan_module_ids (kids_of (tree_at deepest tree 0))) ctx c' ks (Stands g d.count)
no_silence_at_exit tree list ctx out diags w d q m i oh ks o x =
    rw w.diagnostics (no_silence_in_call tree list ctx out diags d.length d.count (call_done_is tree list ctx out diags w d q) m i oh ks o x)
