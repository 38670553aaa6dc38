-- Declarators and their types, as records: the arms of `declarator`.
use mathlib.Core.Path.{◌≡◌, sym, ap, ◌∙◌}
use mathlib.Core.List.{[], ◌∷◌}
use mathlib.Core.Bool.{true, false}
use Prim.Native.Nat.{ℕ, ◌≤◌, ◌<◌}
use Rattle.std.specs.Prelude.{Option as Answer}
use Rattle.definition.specs.Tree.{Head, Rec, Recs, rec, cons, count, tree_at}
use Rattle.definition.specs.Grammar.{mark}
use Rattle.definition.specs.Record.{head_of, kids_of, mark_of, is, is_no, dummy_sp, kid, set_kid, gone, diag, Out, pure, on_value, wrap, at_kid}
use Rattle.definition.specs.Helpers.{any_type_ann}
use Rattle.definition.specs.Typing.{or_any}
use Rattle.definition.specs.Classes.{type_or}
use Rattle.definition.specs.Items.{declarator_type, declarator_pattern, declarator}
use Rattle.records.specs.declared.tree.Record.{Record}
use Rattle.records.specs.declared.tree.Records.{Records}
use Rattle.records.specs.Views.{rec_of, recs_of, RestOf, ChildIs}
use Rattle.records.proofs.Records.{recs_step, enough}
use Rattle.prescan.specs.declared.module_names.Scope.{Scope}
use Rattle.output.specs.declared.Output.{Output}
use Rattle.output.specs.Outputs.{Keeps, KeepsAll, Marks, Makes, MakesMaybe, Filled}
use Rattle.output.specs.Kids.{Begun, Kept}
use Rattle.output.proofs.Steps.{filled}
use Rattle.output.proofs.Kept.{keeps_more}
use Rattle.output.proofs.Framing.{makes-as, makes-keeps, makes_mark, makes_front, all_rest, keeps-counter}
use Rattle.typing.specs.declared.exprs.Mode.{Mode}
use Rattle.typing.specs.Values.{typing_in, type_of}
use Rattle.items.specs.InScope.{readonly_in, pattern_in}
use Rattle.items.proofs.Framed.{split_rest}

-- a Bd has a name and a type, a Vr a pattern and an init
pub bd_two : (r : Record) → mark_of (rec_of r) ≡ mark "Bd" → 2 ≤ count (kids_of (rec_of r))
bd_two r e = enough r e

pub vr_two : (r : Record) → mark_of (rec_of r) ≡ mark "Vr" → 2 ≤ count (kids_of (rec_of r))
vr_two r e = enough r e

-- a type that is there, or none
pub type_stays : (f : ℕ → Out Rec) (t : Rec) (n : ℕ) → is_no t ≡ false → pure t n ≡ type_or f t n
type_stays f t n e = rw e

pub type_new : (f : ℕ → Out Rec) (t : Rec) (n : ℕ) → is_no t ≡ true → f n ≡ type_or f t n
type_new f t n e = rw e

module _ (scope : Scope) where
  -- ---- the type of a Bd that has none

  module _ (h : Head) (init : Rec) (n : ℕ) where
    any-type : is_no init ≡ true → (any_type_ann dummy_sp, diag "d2" h ∷ [], n) ≡ declarator_type (typing_in scope) h init n
    any-type e = rw e

    init-type : is_no init ≡ false → or_any (type_of (readonly_in scope) init n) (diag "d2" h ∷ []) ≡ declarator_type (typing_in scope) h init n
    unfolding type_of
    init-type e = rw e

  module _ (p init : Rec) {a b c : Output} where
    pub type_any : is_no init ≡ true → Keeps a b (any_type_ann dummy_sp) → Marks b c (diag "d2" (head_of p)) → Makes a c (declarator_type (typing_in scope) (head_of p) init a.names.id_counter)
    type_any e v w = makes-as (makes_mark (makes-keeps (any_type_ann dummy_sp) v) w) (any-type (head_of p) init a.names.id_counter e)

    pub type_made : {t : Answer (Unit {0})} {m : Mode} → is_no init ≡ false → m ≡ readonly_in scope → MakesMaybe a b t (type_of m init a.names.id_counter) → Filled b c t (diag "d2" (head_of p))
        → Makes a c (declarator_type (typing_in scope) (head_of p) init a.names.id_counter)
    type_made e q v w =
        makes-as (filled v w) (ap (λ (m : Mode). or_any (type_of m init a.names.id_counter) (diag "d2" (head_of p) ∷ [])) q ∙ init-type (head_of p) init a.names.id_counter e)

  -- ---- the pattern of a Vr

  -- a Bd with the init of its Vr
  abbrev pub binding_in : Rec → Rec → ℕ → Out Rec
  binding_in p init n = wrap (head_of p) (at_kid 1 (type_or (declarator_type (typing_in scope) (head_of p) init)) (kids_of p) n)

  module _ {r p : Record} (f : ChildIs r 0 p) where
    pub pattern_other : {a b c : Output} → is "Bd" (rec_of p) ≡ false → Keeps a b (rec_of p) → Marks b c (diag "d1" (head_of (rec_of r))) → Makes a c (pattern_in scope (rec_of r) a.names.id_counter)
    unfolding declarator_pattern
    pattern_other {a} e v w =
        let z : (rec_of p, diag "d1" (head_of (rec_of r)) ∷ [], a.names.id_counter) ≡ declarator_pattern (typing_in scope) (head_of (rec_of r)) (kid 1 (kids_of (rec_of r))) (rec_of p) a.names.id_counter = rw e in
        makes-as (makes_mark (makes-keeps (rec_of p) v) w) (z ∙ ap (λ (q : Rec). declarator_pattern (typing_in scope) (head_of (rec_of r)) (kid 1 (kids_of (rec_of r))) q a.names.id_counter) f.is)

    pub pattern_ident : {i : Record} {a b : Output} → ChildIs r 1 i → is "Bd" (rec_of p) ≡ true → Makes a b (binding_in (rec_of p) (rec_of i) a.names.id_counter) → Makes a b (pattern_in scope (rec_of r) a.names.id_counter)
    unfolding declarator_pattern
    pattern_ident {i} {a} j e w =
        let z : binding_in (rec_of p) (rec_of i) a.names.id_counter ≡ declarator_pattern (typing_in scope) (head_of (rec_of r)) (rec_of i) (rec_of p) a.names.id_counter = rw e in
        makes-as w
        (z ∙ (ap (λ (x : Rec). declarator_pattern (typing_in scope) (head_of (rec_of r)) x (rec_of p) a.names.id_counter) j.is ∙ ap (λ (q : Rec). declarator_pattern (typing_in scope) (head_of (rec_of r)) (kid 1 (kids_of (rec_of r))) q a.names.id_counter) f.is))

  -- ---- a Vr, or another child of a Vd

  pub var_other : (r : Rec) {a b : Output} → is "Vr" r ≡ false → Keeps a b r → Makes a b (declarator (typing_in scope) r a.names.id_counter)
  unfolding declarator
  var_other r {a} e w = let z : pure r a.names.id_counter ≡ declarator (typing_in scope) r a.names.id_counter = rw e in makes-as (makes-keeps r w) z

  pub var_made : {r : Record} {a b c d e : Output} {k l rest : Records} → is "Vr" (rec_of r) ≡ true → Begun a b r (head_of (rec_of r)) k → Makes b c (pattern_in scope (rec_of r) b.names.id_counter)
      → 0 < k.count → RestOf k l → 0 < l.count → Kept c d l rest gone → KeepsAll d e (recs_of rest) → Makes a e (declarator (typing_in scope) (rec_of r) a.names.id_counter)
  unfolding declarator
  var_made {r} {a} {k = k} {rest = rest} t g v m q j p w =
      let h : Head = head_of (rec_of r) in
      let first : Rec = tree_at k.levels k.tree.now k.at in
      let n : ℕ = a.names.id_counter in
      let ks : kids_of (rec_of r) ≡ cons first (cons (rec_of p.first) (recs_of rest)) = sym g.kids.are ∙ (split_rest m q ∙ ap (cons first) (recs_step j p.is p.rest)) in
      let F : Out Rec → Out Rec = λ (y : Out Rec). on_value (λ (v : Rec). rec h (cons v (cons (gone (rec_of p.first)) (recs_of rest)))) y in
      let G : Recs → Out Rec = λ (ks : Recs). on_value (λ (vs : Recs). rec h (set_kid 1 (gone (kid 1 ks)) vs)) (at_kid 0 (declarator_pattern (typing_in scope) h (kid 1 ks)) ks n) in
      let z : G (kids_of (rec_of r)) ≡ declarator (typing_in scope) (rec_of r) n = rw t in
      makes-as (makes_front h g.front (g.kids.many ∙ ap count ks) g.short (all_rest (cons (gone (rec_of p.first)) (recs_of rest)) v (keeps_more _ _ p.put w)))
      (ap (λ (n : ℕ). F (pattern_in scope (rec_of r) n)) (keeps-counter g.front) ∙ (ap (λ (ks : Recs). F (declarator_pattern (typing_in scope) h (kid 1 ks) (kid 0 ks) n)) ks ∙ (ap G (sym ks) ∙ z)))
