-- `flags::without_flag` meets its contract.
use mathlib.Core.Path.{sym, ◌∙◌}
use native.Mathlib.Omega.{arith}
use Rattle.records.proofs.SetFlags.{is_set, is_clear, flag_above}
use Rattle.records.proofs.flags.without_flag.Goals as goal

pub has_flag-requires : goal.has_flag-requires
has_flag-requires c = flag_above _ c.requires

pub overflow_sub-result : goal.overflow_sub-result
overflow_sub-result c = omega (arith, (is_set _ _ c.requires (sym c.has_flag.ensures ∙ c.if-has_flag.true)).below)

pub returns-then-has_flag : goal.returns-then-has_flag
returns-then-has_flag c = (is_set _ _ c.requires (sym c.has_flag.ensures ∙ c.if-has_flag.true)).without

pub returns : goal.returns
returns c = (is_clear _ _ c.requires (sym c.has_flag.ensures ∙ c.if-has_flag.false)).same
