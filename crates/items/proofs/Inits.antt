-- Enum members: the arms of `valid_enum_init_expr` by a record's mark and its children, a template's expressions, and the members that are written.
use mathlib.Core.Path.{◌≡◌, refl, sym, ap, ◌∙◌}
use mathlib.Core.Bool.{Bool, true, false, ◌&&◌, ◌||◌}
use mathlib.Core.Logic.{◌⊎◌, inl, inr}
use Prim.Native.Nat.{ℕ, ◌<◌, ◌≤◌}
use native.Mathlib.Omega.{arith}
use Rattle.definition.specs.Tree.{Rec, Recs, rec, nil, cons, count}
use Rattle.definition.specs.Grammar.{mark}
use Rattle.definition.specs.Record.{kids_of, mark_of, is, absent, kid, pure, if_m, second}
use Rattle.definition.specs.Enums.{Init, i_bin, i_over, i_opt_chain, i_valid, i_tpl, i_typed, i_other, init_kind, valid_enum_ts_type, valid_by, valid_enum_init_expr, valid_first, valid_both, valid_all, enum_init, enum_member}
use Rattle.records.specs.declared.marks.Mark.{Mark}
use Rattle.records.specs.declared.marks.Mark.TheVariants.{Mb, Pr, Id, Nu, Ss, As, Ta}
use Rattle.records.specs.declared.tree.Record.{Record}
use Rattle.records.specs.declared.tree.Records.{Records}
use Rattle.records.specs.Marks.{number_of}
use Rattle.records.specs.Views.{rec_of, recs_of, FirstOf, RestOf, ChildIs}
use Rattle.records.proofs.Records.{recs_none, recs_step, enough}
use Rattle.records.proofs.Fronts.{recs_front}
use Rattle.records.proofs.SameMarks.{marked}

-- ---- the arms of `valid_enum_init_expr`

by-kind : (t : Rec) (k : Init) → init_kind (mark_of t) ≡ k → valid_enum_init_expr t ≡ valid_by k (kids_of t) (valid_first (kids_of t)) (valid_both (kids_of t)) (valid_all (kids_of t))
unfolding valid_enum_init_expr
by-kind (rec h ks) k e = ap (λ (k : Init). valid_by k ks (valid_first ks) (valid_both ks) (valid_all ks)) e

first-is : (ks : Recs) → valid_first ks ≡ valid_enum_init_expr (kid 0 ks)
unfolding valid_first valid_enum_init_expr valid_by init_kind
first-is nil = refl
first-is (cons e es) = refl

both-are : (ks : Recs) → valid_both ks ≡ (valid_enum_init_expr (kid 0 ks) && valid_enum_init_expr (kid 1 ks))
unfolding valid_both valid_first valid_enum_init_expr valid_by init_kind
both-are nil = refl
both-are (cons e nil) = refl
both-are (cons e (cons f fs)) = refl

-- the marks of the expressions over a valid one, of those that are valid, and of those with a type
abbrev pub Over : Mark → Type 0
Over m = (m ≡ Mb) ⊎ (m ≡ Pr)

abbrev pub Valid : Mark → Type 0
Valid m = (m ≡ Id) ⊎ ((m ≡ Nu) ⊎ (m ≡ Ss))

abbrev pub Typed : Mark → Type 0
Typed m = (m ≡ As) ⊎ (m ≡ Ta)

module _ (r : Record) where
  -- Bn
  pub operands : mark_of (rec_of r) ≡ mark "Bn" → 2 ≤ count (kids_of (rec_of r))
  operands e = enough r e

  pub operands_are : mark_of (rec_of r) ≡ mark "Bn" → {x y : Record} → ChildIs r 0 x → ChildIs r 1 y
      → valid_enum_init_expr (rec_of r) ≡ (valid_enum_init_expr (rec_of x) && valid_enum_init_expr (rec_of y))
  unfolding init_kind valid_by
  operands_are e x y = by-kind (rec_of r) i_bin (rw e) ∙ (both-are (kids_of (rec_of r)) ∙ rw (x.is, y.is))

  pub one_false : mark_of (rec_of r) ≡ mark "Bn" → {x : Record} → ChildIs r 0 x → valid_enum_init_expr (rec_of x) ≡ false → valid_enum_init_expr (rec_of r) ≡ false
  unfolding init_kind valid_by
  one_false e x f = by-kind (rec_of r) i_bin (rw e) ∙ (both-are (kids_of (rec_of r)) ∙ rw (sym x.is, f))

  -- Oc
  pub member : mark_of (rec_of r) ≡ mark "Oc" → 1 ≤ count (kids_of (rec_of r))
  member e = enough r e

  pub member_by : mark_of (rec_of r) ≡ mark "Oc" → {x : Record} → ChildIs r 0 x → valid_enum_init_expr (rec_of r) ≡ (is "Mb" (rec_of x) && valid_enum_init_expr (rec_of x))
  unfolding init_kind valid_by
  member_by e x = by-kind (rec_of r) i_opt_chain (rw e) ∙ rw (first-is (kids_of (rec_of r)), x.is)

  -- Te
  pub template_is : mark_of (rec_of r) ≡ mark "Te" → valid_enum_init_expr (rec_of r) ≡ valid_all (kids_of (rec_of r))
  unfolding init_kind valid_by
  template_is e = by-kind (rec_of r) i_tpl (rw e)

  pub never : init_kind (mark_of (rec_of r)) ≡ i_other → valid_enum_init_expr (rec_of r) ≡ false
  unfolding valid_by
  never e = by-kind (rec_of r) i_other e

  -- `valid_enum_ts_type`
  pub literal : mark_of (rec_of r) ≡ mark "Tl" → 1 ≤ count (kids_of (rec_of r))
  literal e = enough r e

  pub literal_by : is "Tl" (rec_of r) ≡ true → {x : Record} → ChildIs r 0 x → valid_enum_ts_type (rec_of r) ≡ is "Nu" (rec_of x)
  literal_by e x = rw (e, x.is)

  module _ {m : Mark} (n : number_of m ≡ mark_of (rec_of r)) where
    pub over_some : Over m → 1 ≤ count (kids_of (rec_of r))
    over_some (inl e) = omega (arith, enough r (marked m n e))
    over_some (inr e) = enough r (marked m n e)

    pub over_is : Over m → {x : Record} → ChildIs r 0 x → valid_enum_init_expr (rec_of r) ≡ valid_enum_init_expr (rec_of x)
    unfolding init_kind valid_by
    over_is e x = by-kind (rec_of r) i_over (go e) ∙ rw (first-is (kids_of (rec_of r)), x.is)
      where
        go : Over m → init_kind (mark_of (rec_of r)) ≡ i_over
        go (inl e) = rw (marked m n e)
        go (inr e) = rw (marked m n e)

    pub always : Valid m → valid_enum_init_expr (rec_of r) ≡ true
    unfolding init_kind valid_by
    always e = by-kind (rec_of r) i_valid (go e)
      where
        go : Valid m → init_kind (mark_of (rec_of r)) ≡ i_valid
        go (inl e) = rw (marked m n e)
        go (inr (inl e)) = rw (marked m n e)
        go (inr (inr e)) = rw (marked m n e)

    pub typed_two : Typed m → 2 ≤ count (kids_of (rec_of r))
    typed_two (inl e) = enough r (marked m n e)
    typed_two (inr e) = enough r (marked m n e)

    pub typed_is : Typed m → {x : Record} → ChildIs r 1 x → valid_enum_init_expr (rec_of r) ≡ valid_enum_ts_type (rec_of x)
    unfolding init_kind valid_by
    typed_is e x = by-kind (rec_of r) i_typed (go e) ∙ rw x.is
      where
        go : Typed m → init_kind (mark_of (rec_of r)) ≡ i_typed
        go (inl e) = rw (marked m n e)
        go (inr e) = rw (marked m n e)

-- ---- the expressions of a template

-- one of them
abbrev pub valid_part : Rec → Bool
valid_part r = (is "Qu" r || is "Op" r) || valid_enum_init_expr r

-- the first of them, and those behind it
pub all_none : (k : Records) → k.count ≡ 0 → valid_all (recs_of k) ≡ true
unfolding valid_all
all_none k e = ap valid_all (recs_none k e)

pub all_step : {k l : Records} {x : Record} → 0 < k.count → FirstOf k x → RestOf k l → valid_all (recs_of k) ≡ (valid_part (rec_of x) && valid_all (recs_of l))
unfolding valid_all
all_step h x l = ap valid_all (recs_step h x l)

pub all_other : {k : Records} {x : Record} → 0 < k.count → FirstOf k x → valid_part (rec_of x) ≡ false → valid_all (recs_of k) ≡ false
unfolding valid_all
all_other h x e = ap valid_all (recs_front h x).1 ∙ rw e

-- ---- the init of a member

module _ (r : Rec) (n : ℕ) where
  pub init_none : is "No" r ≡ true → r ≡ (enum_init r n).0
  unfolding enum_init
  init_none e = rw e

  pub init_kept : is "No" r ≡ false → valid_enum_init_expr r ≡ true → r ≡ (enum_init r n).0
  unfolding enum_init
  init_kept e f = rw (e, f)

  pub init_gone : is "No" r ≡ false → valid_enum_init_expr r ≡ false → absent ≡ (enum_init r n).0
  unfolding enum_init
  init_gone e f = rw (e, f)

-- ---- the members

-- they leave no diagnostic, and the counter as it is
pub member-silent : (r : Rec) (n : ℕ) → enum_member r n ≡ pure (enum_member r n).0 n
unfolding enum_member second enum_init
member-silent r n = go (is "Em" r)
  where
    go : (b : Bool) → if_m b (second enum_init r) (pure r) n ≡ pure (if_m b (second enum_init r) (pure r) n).0 n
    go true = refl
    go false = refl
