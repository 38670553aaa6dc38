-- The spread in an object literal: the type that is written lacks its members, and d4 tells of it. Evaluated on an example, and for every literal.
use mathlib.Core.Path.{◌≡◌, refl}
use mathlib.Core.List.{[], ◌∷◌}
use mathlib.Core.Bool.{Bool}
use mathlib.Core.Option.{some}
use Prim.Native.Nat.{ℕ}
use Rattle.definition.specs.Tree.{Head, Rec, Recs, rec, nil, cons}
use Rattle.definition.specs.Grammar.{mark, marks, member}
use Rattle.definition.specs.Record.{head_of, mark_of, absent, ranged, one, join, Diag, diag}
use Rattle.definition.specs.Prescan.{PrescannedModuleIds}
use Rattle.definition.specs.Typing.{prop_kind, prop_by, expr_kind, expr_by, expr_to_ts_type, props, prop}
use Rattle.definition.specs.Silence.{Given}
use Rattle.definition.proofs.Silence.{piece-whole, piece-left, piece-right}
use Rattle.definition.proofs.SmallTrees.{node, flags, two, id, made, key, number_0, keyword, exported, variable, becomes}

-- ---- an example

-- `export const a = { confirmed: 0, ...held };`, with the spread at 33 to 40
abbrev held : Rec
held = rec (record { mark = mark "Sp"; flags = 0; start = 33; end = 40; text = [] }) (one (id "held"))

abbrev literal : Rec
literal = node "Ob" (two (node "Kv" (two (key "confirmed") number_0)) held)

-- `{ readonly confirmed: number }`
abbrev written : Rec
written = node "Li" (one (flags 1 (node "Ps" (two (made "confirmed") (keyword "number")))))

-- `const held: { due: number };`
abbrev held_of : ℕ → Rec
held_of f = variable f "held" (node "Li" (one (node "Ps" (two (made "due") (keyword "number"))))) absent

abbrev spread-told : Diag
spread-told = record { mark = mark "d4"; start = 33; end = 40 }

-- the type has `confirmed` and nothing else, and d4 is given at the spread; so it is if the type of `held` stands before it
object_spread : (becomes (exported (variable 2 "a" absent literal)) ≡ (exported (variable 3 "a" written absent), spread-told ∷ []))
    × (becomes (node "Mo" (two (held_of 2) (node "Ed" (one (variable 2 "a" absent literal)))))
    ≡ (node "Mo" (two (held_of 3) (node "Ed" (one (variable 3 "a" written absent)))), spread-told ∷ []))
unfolding becomes
object_spread = (refl, refl)

-- ---- every object literal

module _ (ids : PrescannedModuleIds) (ctx : ℕ) where
  spread_skipped : (p : Rec) (c r : Bool) (n : ℕ) → mark_of p ≡ mark "Sp" → prop ids ctx p c r n ≡ (nil, diag "d4" (head_of p) ∷ [], n)
  unfolding prop prop_by prop_kind
  spread_skipped (rec h ks) c r n e = rw e

  -- a spread between other properties
  among-others : (before : Recs) (p : Rec) (after : Recs) (c r : Bool) (n : ℕ) → mark_of p ≡ mark "Sp" →
      ((props ids ctx (join before (cons p after)) c r n).0 ≡ (props ids ctx (join before after) c r n).0)
      × Given (props ids ctx (join before (cons p after)) c r n).1 (diag "d4" (head_of p))
  unfolding props
  among-others nil p after c r n e = rw (spread_skipped p c r n e) (refl, piece-left _ (piece-whole _))
  among-others (cons q before) p after c r n e =
      let rest = among-others before p after c r (prop ids ctx q c r n).2 e in
      (rw rest.0, piece-right (prop ids ctx q c r n).1 rest.1)

  -- With the spread and without it an object literal has one and the same type, whatever is spread and wherever it stands, and d4 is given at it
  pub spread_left_out : (h : Head) (before : Recs) (p : Rec) (after : Recs) (c r : Bool) (n : ℕ) → h.mark ≡ mark "Ob" → mark_of p ≡ mark "Sp" →
      (members : Recs)
      × ((expr_to_ts_type ids ctx (rec h (join before (cons p after))) c r n).0 ≡ some (rec (ranged "Li" h []) members))
      × ((expr_to_ts_type ids ctx (rec h (join before after)) c r n).0 ≡ some (rec (ranged "Li" h []) members))
      × Given (expr_to_ts_type ids ctx (rec h (join before (cons p after))) c r n).1 (diag "d4" (head_of p))
  unfolding expr_to_ts_type expr_by expr_kind marks member
  spread_left_out h before p after c r n m e =
      let a = among-others before p after c r n e in
      ((props ids ctx (join before after) c r n).0, rw (m, a.0), rw m, rw m a.1)
