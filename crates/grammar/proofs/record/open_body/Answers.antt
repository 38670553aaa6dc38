-- `grammar::record::open_body` meets its contract.
use mathlib.Core.Path.{sym, ◌∙◌}
use Rattle.grammar.specs.Slots.{parts_from}
use Rattle.grammar.proofs.Openings.{cut_text, wrong_text, too_few, body-fine}
use Rattle.grammar.proofs.record.open_body.Goals as goal

pub returns-then-tree-text-clause-opens : goal.returns-then-tree-text-clause-opens
returns-then-tree-text-clause-opens c =
    let a = c.args in
    let z = c.requires in
    cut_text _ _ (parts_from a.k) a.h _ z.1 z.2 c.if-tree-text.true

pub returns-then-not-has_form-clause-opens : goal.returns-then-not-has_form-clause-opens
returns-then-not-has_form-clause-opens c =
    let a = c.args in
    let z = c.requires in
    wrong_text _ _ (parts_from a.k) a.h _ z.1 z.2 _ c.form_of.ensures c.if-tree-text.false (sym c.has_form.ensures ∙ c.if-not-has_form.true)

pub returns-then-h-least_of-clause-opens : goal.returns-then-h-least_of-clause-opens
returns-then-h-least_of-clause-opens c =
    let a = c.args in
    let z = c.requires in
    let good = sym c.has_form.ensures ∙ c.if-not-has_form.false in
    too_few _ _ (parts_from a.k) a.h _ z.1 z.2 _ c.form_of.ensures c.if-tree-text.false good _ c.least_of.ensures c.if-h-least_of.true

pub returns-clause-opens : goal.returns-clause-opens
returns-clause-opens c =
    let a = c.args in
    let z = c.requires in
    let good = sym c.has_form.ensures ∙ c.if-not-has_form.false in
    body-fine _ _ (parts_from a.k) a.h _ z.1 z.2 _ c.form_of.ensures c.if-tree-text.false good _ c.least_of.ensures c.if-h-least_of.false _ c.kids_slot.ensures
