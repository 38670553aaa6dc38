-- The entry that was found has the answers, or there is none.
use native.Mathlib.Omega.{arith}
use mathlib.Core.Path.{sym, ◌∙◌}
use Rattle.index.proofs.Laws.{hit-within}
use Rattle.prescan.proofs.Tables.{has-sets_of, has-nothing, look_hit, look-miss}
use Rattle.prescan.proofs.module_names.Index.look_up.Goals as goal

pub bounds-self-p : goal.bounds-self-p
bounds-self-p c = omega (arith, hit-within c.in-Ok.ensures.0 c.in-Ok.ensures.1)

pub returns-in-Ok : goal.returns-in-Ok
returns-in-Ok c q = rw (c.of.ensures, has-sets_of _ q, sym c.text.ensures.text) (look_hit c.args.self.indexed c.in-Ok.ensures.0 q c.in-Ok.ensures.1)

pub returns-in-Err : goal.returns-in-Err
returns-in-Err c q =
    has-nothing c.default.ensures.0 c.default.ensures.1.0 c.default.ensures.1.1 q ∙
    rw (sym c.text.ensures.text) (sym (look-miss c.args.self.indexed c.in-Err.ensures.0 q c.in-Err.ensures.1))
