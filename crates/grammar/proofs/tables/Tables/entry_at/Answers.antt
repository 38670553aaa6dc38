-- `grammar::tables::Tables::entry_at` meets its contract.
use mathlib.Core.Path.{ap, ◌∙◌}
use mathlib.Core.List.{List}
use Prim.Native.Nat.{ℕ}
use lib.ListN.{get_or}
use Rattle.grammar.proofs.Places.{parts_none, parts-end, parts-one, parts-many, parts-property}
use Rattle.grammar.proofs.tables.Tables.entry_at.Goals as goal

pub returns-then-k-ge-PLACES : goal.returns-then-k-ge-PLACES
returns-then-k-ge-PLACES c = parts_none _ c.if-k-ge-PLACES.true

pub returns-then-p-eq0 : goal.returns-then-p-eq0
returns-then-p-eq0 c =
    let q = c.wide-p.ensures.0 ∙ ap (λ (t : List ℕ). get_or t c.args.k 0) c.args.self.now.parts_right in
    parts-end _ _ c.if-k-ge-PLACES.false q c.if-p-eq0.true

pub returns-then-p-lt-MANY : goal.returns-then-p-lt-MANY
returns-then-p-lt-MANY c =
    let q = c.wide-p.ensures.0 ∙ ap (λ (t : List ℕ). get_or t c.args.k 0) c.args.self.now.parts_right in
    parts-one _ _ c.if-k-ge-PLACES.false q c.if-p-eq0.false c.if-p-lt-MANY.true

pub returns-then-p-lt-PROPERTY : goal.returns-then-p-lt-PROPERTY
returns-then-p-lt-PROPERTY c =
    let q = c.wide-p.ensures.0 ∙ ap (λ (t : List ℕ). get_or t c.args.k 0) c.args.self.now.parts_right in
    parts-many _ _ c.if-k-ge-PLACES.false q c.if-p-eq0.false c.if-p-lt-MANY.false c.if-p-lt-PROPERTY.true

pub returns : goal.returns
returns c =
    let q = c.wide-p.ensures.0 ∙ ap (λ (t : List ℕ). get_or t c.args.k 0) c.args.self.now.parts_right in
    parts-property _ _ c.if-k-ge-PLACES.false q c.if-p-eq0.false c.if-p-lt-MANY.false c.if-p-lt-PROPERTY.false
