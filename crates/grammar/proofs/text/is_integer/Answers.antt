-- `grammar::text::is_integer` meets its contract.
use mathlib.Core.Path.{◌≡◌, ◌∙◌}
use Prim.Native.Nat.{◌-◌}
use native.Mathlib.Omega.{arith}
use borrow.Author.Tests.{eq-eqb, ne_eqb, lt-ltb, le-ltb}
use Rattle.definition.specs.Check.{is_integer}
use lib.ListN.{length, drop, length-drop}
use lib.Seq.{take_all}
use Rattle.std.proofs.Common.{rules, tests}
use Rattle.std.proofs.lemmas.Iterator.{YieldsList-from_slice}
use Rattle.std.proofs.lemmas.Iterator.Search.{all_from_yields_List}
use Rattle.grammar.proofs.Forms.{is_digit, all_digits}
use Rattle.grammar.proofs.text.is_integer.Goals as goal

pub returns-then-t-lt2 : goal.returns-then-t-lt2
unfolding is_integer
returns-then-t-lt2 c = rw (lt-ltb _ _ c.if-t-lt2.true)

pub returns-then-t-gt1 : goal.returns-then-t-gt1
unfolding is_integer
returns-then-t-gt1 c = rw (le-ltb _ _ c.if-t-lt2.false, lt-ltb _ _ c.if-t-gt1.true)

pub returns-then-t-eq2 : goal.returns-then-t-eq2
unfolding is_integer
returns-then-t-eq2 c = rw (le-ltb _ _ c.if-t-lt2.false, le-ltb _ _ c.if-t-gt1.false, eq-eqb _ _ c.if-t-eq48.true, eq-eqb _ _ c.if-t-eq2.true)

pub returns-then-t-eq48 : goal.returns-then-t-eq48
unfolding is_integer
returns-then-t-eq48 c = rw (le-ltb _ _ c.if-t-lt2.false, le-ltb _ _ c.if-t-gt1.false, eq-eqb _ _ c.if-t-eq48.true, ne_eqb _ _ c.if-t-eq2.false)

pub returns : goal.returns
returns c =
    let t = c.args.t.now in
    let e : c.iter.result.rest.now ≡ drop 1 t = c.iter.ensures.rest ∙ take_all (length t - 1) (drop 1 t) (omega (arith, length-drop 1 t)) in
    all_from_yields_List is_digit _ _ _ c.all.ensures.ran (YieldsList-from_slice (drop 1 t) e) (λ x b q k. search (rules, tests))
    ∙ all_digits t c.if-t-lt2.false c.if-t-gt1.false c.if-t-eq48.false
