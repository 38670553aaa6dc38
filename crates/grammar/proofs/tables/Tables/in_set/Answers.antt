-- `grammar::tables::Tables::in_set` meets its contract: a set is a run of marks and at most one mark more.
use mathlib.Core.Path.{◌≡◌, ap, ◌∙◌}
use mathlib.Core.List.{List}
use Prim.Native.Nat.{ℕ}
use native.Mathlib.Omega.{arith}
use lib.Dec.{eqb}
use lib.ListN.{get_or}
use Rattle.grammar.specs.Printed.{lows_table, highs_table, others_table}
use Rattle.grammar.proofs.Lookups.{no_set, not_in_set, below_run, above_run, within_run}
use Rattle.grammar.proofs.tables.Tables.in_set.Goals as goal

pub returns-then-k-ge-SETS : goal.returns-then-k-ge-SETS
returns-then-k-ge-SETS c = no_set _ _ c.if-k-ge-SETS.true

pub returns-then-code-ge-KNOWN : goal.returns-then-code-ge-KNOWN
returns-then-code-ge-KNOWN c = not_in_set _ _ c.if-k-ge-SETS.false c.if-code-ge-KNOWN.true

pub returns-then-code-wide : goal.returns-then-code-wide
returns-then-code-wide c =
    let a = c.args in
    let low : get_or a.self.now.lows a.k 0 ≡ get_or lows_table a.k 0 = ap (λ (t : List ℕ). get_or t a.k 0) a.self.now.lows_right in
    let other : get_or a.self.now.others a.k 0 ≡ get_or others_table a.k 0 = ap (λ (t : List ℕ). get_or t a.k 0) a.self.now.others_right in
    ap (eqb a.code) (c.wide-then-code-wide.ensures.0 ∙ other) ∙ below_run a.k a.code c.if-k-ge-SETS.false c.if-code-ge-KNOWN.false (omega (arith, low, c.wide.ensures.0, c.if-code-wide.true))

pub returns-then-wide-code : goal.returns-then-wide-code
returns-then-wide-code c =
    let a = c.args in
    let low : get_or a.self.now.lows a.k 0 ≡ get_or lows_table a.k 0 = ap (λ (t : List ℕ). get_or t a.k 0) a.self.now.lows_right in
    let high : get_or a.self.now.highs a.k 0 ≡ get_or highs_table a.k 0 = ap (λ (t : List ℕ). get_or t a.k 0) a.self.now.highs_right in
    let other : get_or a.self.now.others a.k 0 ≡ get_or others_table a.k 0 = ap (λ (t : List ℕ). get_or t a.k 0) a.self.now.others_right in
    ap (eqb a.code) (c.wide-then-wide-code.ensures.0 ∙ other) ∙ above_run a.k a.code c.if-k-ge-SETS.false c.if-code-ge-KNOWN.false (omega (arith, low, c.wide.ensures.0, c.if-code-wide.false)) (omega (arith, high, c.wide-2.ensures.0, c.if-wide-code.true))

pub returns : goal.returns
returns c =
    let a = c.args in
    let low : get_or a.self.now.lows a.k 0 ≡ get_or lows_table a.k 0 = ap (λ (t : List ℕ). get_or t a.k 0) a.self.now.lows_right in
    let high : get_or a.self.now.highs a.k 0 ≡ get_or highs_table a.k 0 = ap (λ (t : List ℕ). get_or t a.k 0) a.self.now.highs_right in
    within_run a.k a.code c.if-k-ge-SETS.false c.if-code-ge-KNOWN.false (omega (arith, low, c.wide.ensures.0, c.if-code-wide.false)) (omega (arith, high, c.wide-2.ensures.0, c.if-wide-code.false))
