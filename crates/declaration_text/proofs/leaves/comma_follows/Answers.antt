-- `comma_follows` meets its contract: a hole, the last element, or one that another follows.
use mathlib.Core.Path.{◌∙◌, ap, sym}
use mathlib.Core.Bool.{not}
use native.Mathlib.Omega.{arith}
use Rattle.declaration_text.proofs.Words.{comma_hole, comma-last, comma-more}
use Rattle.declaration_text.proofs.leaves.comma_follows.Goals as goal

pub returns-then-has_mark : goal.returns-then-has_mark
returns-then-has_mark c = λ under. comma_hole c.args.element c.args.behind under (sym c.has_mark.ensures ∙ c.if-has_mark.true)

pub returns-then-behind-eq0 : goal.returns-then-behind-eq0
returns-then-behind-eq0 c = λ under. comma-last c.args.element c.args.behind under (sym c.has_mark.ensures ∙ c.if-has_mark.false) c.if-behind-eq0.true

pub returns : goal.returns
returns c =
    λ under. ap not c.has_mark-2.ensures
    ∙ comma-more c.args.element c.args.behind under (sym c.has_mark.ensures ∙ c.if-has_mark.false) (omega (arith, c.if-behind-eq0.false)) c.first.ensures
