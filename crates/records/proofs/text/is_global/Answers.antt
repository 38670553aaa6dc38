-- `records::text::is_global` meets its contract: an accepted Id has a context.
use mathlib.Core.Path.{sym, ap, ◌∙◌}
use mathlib.Core.List.{List}
use Prim.Native.Nat.{ℕ}
use lib.Dec.{eqb}
use Rattle.definition.specs.Record.{same_text}
use Rattle.definition.proofs.Children.{itself}
use Rattle.definition.proofs.Kids.{id-text}
use Rattle.records.proofs.Texts.{global-other, global-same, global-differs}
use Rattle.records.proofs.text.is_global.Goals as goal

pub mark_at-requires : goal.mark_at-requires
mark_at-requires c = (itself _ _ _ c.requires).room

pub returns-then-mark_at-ne-ID : goal.returns-then-mark_at-ne-ID
returns-then-mark_at-ne-ID c = sym (global-other c.args.levels c.args.tree.now c.args.at c.args.unresolved c.args.name.now (λ e. c.if-mark_at-ne-ID.true (c.mark_at.ensures.0 ∙ e)))

pub symbol_at-requires : goal.symbol_at-requires
symbol_at-requires c = ((itself _ _ _ c.requires).fits, id-text _ _ _ c.requires (sym c.mark_at.ensures.0 ∙ c.if-mark_at-ne-ID.false))

pub context_at-requires : goal.context_at-requires
context_at-requires c = ((itself _ _ _ c.requires).fits, id-text _ _ _ c.requires (sym c.mark_at.ensures.0 ∙ c.if-mark_at-ne-ID.false))

pub returns-then-same_text : goal.returns-then-same_text
returns-then-same_text c = ap (λ (k : ℕ). eqb k c.args.unresolved) c.context_at.ensures ∙ sym (global-same c.args.levels c.args.tree.now c.args.at c.args.unresolved c.args.name.now (sym c.mark_at.ensures.0 ∙ c.if-mark_at-ne-ID.false) (ap (λ (l : List ℕ). same_text l c.args.name.now) (sym c.symbol_at.ensures) ∙ sym c.same_text.ensures ∙ c.if-same_text.true))

pub returns : goal.returns
returns c = sym (global-differs c.args.levels c.args.tree.now c.args.at c.args.unresolved c.args.name.now (sym c.mark_at.ensures.0 ∙ c.if-mark_at-ne-ID.false) (ap (λ (l : List ℕ). same_text l c.args.name.now) (sym c.symbol_at.ensures) ∙ sym c.same_text.ensures ∙ c.if-same_text.false))
