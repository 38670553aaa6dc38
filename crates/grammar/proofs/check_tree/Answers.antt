-- `grammar::check_tree` meets its contract.
use mathlib.Core.Path.{sym, ap, ◌∙◌}
use Rattle.std.proofs.lemmas.Result.{err_from_is_err_and}
use Rattle.grammar.specs.Answers.{checked}
use Rattle.grammar.proofs.Trees.{tree-long, list_bad, root-refused, bytes_after, tree-fine}
use Rattle.grammar.proofs.check_tree.Goals as goal

pub returns-then-tree-gt-LONGEST_TREE : goal.returns-then-tree-gt-LONGEST_TREE
returns-then-tree-gt-LONGEST_TREE c = tree-long _ _ c.if-tree-gt-LONGEST_TREE.true

pub returns-then-not-list_fine : goal.returns-then-not-list_fine
returns-then-not-list_fine c = list_bad _ _ c.if-tree-gt-LONGEST_TREE.false (sym c.list_fine.ensures ∙ c.if-not-list_fine.true)

pub returns-in_err-end : goal.returns-in_err-end
returns-in_err-end c =
    let p = err_from_is_err_and c.from_residual.result c.from_residual.ensures.1 in
    let r = ap checked c.in_err-end.was in
    rw (p.1, p.2) (sym r ∙ root-refused _ _ c.if-tree-gt-LONGEST_TREE.false (sym c.list_fine.ensures ∙ c.if-not-list_fine.false) _ (sym c.check_record.ensures) _ _ r)

pub returns-then-end-tree : goal.returns-then-end-tree
returns-then-end-tree c = bytes_after _ _ c.if-tree-gt-LONGEST_TREE.false (sym c.list_fine.ensures ∙ c.if-not-list_fine.false) _ (sym c.check_record.ensures) _ (ap checked c.in_ok-end.was) c.if-end-tree.true

pub returns : goal.returns
returns c = tree-fine _ _ c.if-tree-gt-LONGEST_TREE.false (sym c.list_fine.ensures ∙ c.if-not-list_fine.false) _ (sym c.check_record.ensures) _ (ap checked c.in_ok-end.was) c.if-end-tree.false
