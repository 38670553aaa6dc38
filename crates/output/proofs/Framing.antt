-- Laws of a record that is written child by child: its front, the children that change, and those that are kept.
use mathlib.Core.Path.{◌≡◌, refl, sym, ap, ◌∙◌, subst}
use mathlib.Core.List.{List, [], ◌∷◌, ◌++◌, append-nil}
use mathlib.Core.Bool.{Bool, true, ◌&&◌}
use Prim.Native.Nat.{ℕ, ◌+◌, ◌<◌}
use native.Mathlib.Omega.{arith}
use lib.ListN.{length}
use Rattle.definition.specs.Tree.{Head, Rec, Recs, rec, nil, cons, count, head_size, encode, encodes}
use Rattle.definition.specs.Record.{kids_of, join, Diag, Out, pure, single, on_value, wrap, at_kid}
use Rattle.definition.specs.Transform.{texts_fit, all_texts_fit}
use Rattle.records.specs.declared.tree.Record.{Record}
use Rattle.records.specs.declared.tree.Records.{Records}
use Rattle.records.specs.Views.{rec_of, recs_of, FirstOf, RestOf}
use Rattle.records.proofs.Records.{recs_step}
use Rattle.output.specs.declared.Output.{Output}
use Rattle.output.specs.Outputs.{front_bytes, start_of, Puts, Keeps, KeepsAll, Marks, Skipped, Fronted, Step, Makes, MakesAll}
use Rattle.output.specs.Kids.{Begun, Kept}
use Rattle.output.proofs.Steps.{and-true, step_then, step-as, step-none, step-puts, step-marks, step-fronted, keeps-as}
use Rattle.output.proofs.Recs.{encodes-join, encodes_one, fits-join, fits_one, front_fits, front_encode, front_length}
use Rattle.output.proofs.Kept.{keeps_more, keeps_front, kids_counted}

-- ---- what was made, said in another way

pub makes-as : {a b : Output} {x y : Out Rec} → Makes a b x → x ≡ y → Makes a b y
makes-as {a} {b} w e = subst (λ (z : Out Rec). Makes a b z) e w

pub all-as : {a b : Output} {x y : Out Recs} → MakesAll a b x → x ≡ y → MakesAll a b y
all-as {a} {b} w e = subst (λ (z : Out Recs). MakesAll a b z) e w

pub kept-as : {a b : Output} {ts us : Recs} → KeepsAll a b ts → ts ≡ us → KeepsAll a b us
kept-as {a} {b} w e = subst (λ (z : Recs). KeepsAll a b z) e w

-- ---- what is kept

pub makes-keeps : {a b : Output} (t : Rec) → Keeps a b t → Makes a b (pure t a.names.id_counter)
makes-keeps t w = record { step = step-puts w }

pub all-keeps : {a b : Output} (ts : Recs) → KeepsAll a b ts → MakesAll a b (pure ts a.names.id_counter)
all-keeps ts w = record { step = step-puts w }

pub keeps-counter : {a b : Output} {E : List ℕ} {f : Bool} → Puts a b E f → b.names.id_counter ≡ a.names.id_counter
keeps-counter w = ap (λ x. x.id_counter) w.names

-- ---- records one after the other

-- nothing was written
pub all_none : (o : Output) → MakesAll o o (pure nil o.names.id_counter)
unfolding encodes all_texts_fit
all_none o = record { step = step-none o }

pub all_one : {a b : Output} {x : Out Rec} → Makes a b x → MakesAll a b (single x)
all_one {x = x} w = record { step = step-as w.step (sym (encodes_one x.0)) refl refl (sym (fits_one x.0)) }

pub all_more : {a b c : Output} {x : Out Rec} {y : Out Recs} → Makes a b x → MakesAll b c y → MakesAll a c (cons x.0 y.0, x.1 ++ y.1, y.2)
unfolding encodes all_texts_fit
all_more v w = record { step = step_then v.step w.step }

pub all_join : {a b c : Output} {x y : Out Recs} → MakesAll a b x → MakesAll b c y → MakesAll a c (join x.0 y.0, x.1 ++ y.1, y.2)
all_join {x = x} {y = y} v w = record { step = step-as (step_then v.step w.step) (sym (encodes-join x.0 y.0)) refl refl (sym (fits-join x.0 y.0)) }

-- a step, and records that are kept behind it
pub all_rest : {a b c : Output} {x : Out Rec} (ts : Recs) → Makes a b x → KeepsAll b c ts → MakesAll a c (on_value (λ (v : Rec). cons v ts) x)
all_rest {x = x} ts v w = all-as (all_more v (all-keeps ts w)) (λ i. (cons x.0 ts, append-nil x.1 i, v.step.counter i))

-- a record that is kept, and a step behind it
pub all_before : {a b c : Output} (t : Rec) {y : Out Recs} → Keeps a b t → MakesAll b c y → MakesAll a c (on_value (cons t) y)
all_before t v w = all_more (makes-keeps t v) w

-- a diagnostic behind a record
pub makes_mark : {a b c : Output} {x : Out Rec} {d : Diag} → Makes a b x → Marks b c d → Makes a c (x.0, x.1 ++ (d ∷ []), x.2)
makes_mark {x = x} v w = record { step = step-as (step_then v.step (step-marks w)) (append-nil (encode x.0)) refl v.step.counter (and-true (texts_fit x.0)) }

-- ---- a front before or behind its children

pub makes_front : {a b c : Output} (h : Head) {n : ℕ} {y : Out Recs} → Puts a b (front_bytes h n) true → n ≡ count y.0 → length h.text < 65536 → MakesAll b c y → Makes a c (wrap h y)
makes_front {a} {b} h {y = y} v e t w =
    record { step = step-as (step_then (step-puts (subst (λ (n : ℕ). Puts a b (front_bytes h n) true) e v)) w.step) (front_encode h y.0) refl refl (front_fits h y.0 t) }

pub makes_front_last : {a b c d : Output} (h : Head) {n : ℕ} {y : Out Recs} → Skipped a b (head_size + length h.text) → MakesAll b c y → Fronted c d (start_of a) (front_bytes h n) → n ≡ count y.0 → length h.text < 65536 → Makes a d (wrap h y)
makes_front_last {a} {b} {c} {d} h {y = y} s w v e t =
    record {
      step = step-as (step-fronted (front_bytes h (count y.0)) (sym (front_length h (count y.0))) s w.step (subst (λ (n : ℕ). Fronted c d (start_of a) (front_bytes h n)) e v))
          (front_encode h y.0) refl refl (front_fits h y.0 t);
    }

-- ---- the children of a record whose front was written

-- of the records k, y was made
pub record Done (a b : Output) (k : Records) (y : Out Recs) : Type 0 where
  pub made : MakesAll a b y
  pub many : k.count ≡ count y.0

-- all are kept
pub done_kept : {a b : Output} (k : Records) → count (recs_of k) ≡ k.count → KeepsAll a b (recs_of k) → Done a b k (pure (recs_of k) a.names.id_counter)
done_kept k e w = record { made = all-keeps (recs_of k) w; many = sym e }

-- the first is made by a step
pub done_next : {a b c : Output} {k l : Records} {x : Out Rec} {y : Out Recs} → 0 < k.count → RestOf k l → Makes a b x → Done b c l y → Done a c k (cons x.0 y.0, x.1 ++ y.1, y.2)
done_next h r v w = record { made = all_more v w.made; many = omega (arith, w.many, r.many, h) }

module _ {a b : Output} {r : Record} {h : Head} {k : Records} (g : Begun a b r h k) where
  pub done_framed : {c : Output} {y : Out Recs} → Done b c k y → Makes a c (wrap h y)
  done_framed w = makes_front h g.front w.many g.short w.made

  -- the children, as those that are left and those that were passed
  pub kids-one : {f : Record} {l : Records} → 0 < k.count → FirstOf k f → RestOf k l → kids_of (rec_of r) ≡ cons (rec_of f) (recs_of l)
  kids-one m e q = sym g.kids.are ∙ recs_step m e q

  begun-counter : b.names.id_counter ≡ a.names.id_counter
  begun-counter = keeps-counter g.front

  -- the first child changes
  module _ (x : Rec → ℕ → Out Rec) {f : Record} {l : Records} (m : 0 < k.count) (e : FirstOf k f) (q : RestOf k l) where
    pub makes_first : {c d : Output} → Makes b c (x (rec_of f) b.names.id_counter) → KeepsAll c d (recs_of l) → Makes a d (wrap h (at_kid 0 x (kids_of (rec_of r)) a.names.id_counter))
    makes_first v w =
        makes-as (makes_front h g.front (g.kids.many ∙ ap count (kids-one m e q)) g.short (all_rest (recs_of l) v w))
        (ap (λ (n : ℕ). wrap h (at_kid 0 x (cons (rec_of f) (recs_of l)) n)) begun-counter ∙ ap (λ (ks : Recs). wrap h (at_kid 0 x ks a.names.id_counter)) (sym (kids-one m e q)))

    pub keeps_first : {c d : Output} → Keeps b c (x (rec_of f) a.names.id_counter).0 → KeepsAll c d (recs_of l) → Keeps a d (wrap h (at_kid 0 x (kids_of (rec_of r)) a.names.id_counter)).0
    keeps_first v w =
        keeps-as (keeps_front g (cons (x (rec_of f) a.names.id_counter).0 (recs_of l)) (ap count (sym (kids-one m e q)) ∙ sym g.kids.many) (keeps_more _ _ v w))
        (ap (λ (ks : Recs). (wrap h (at_kid 0 x ks a.names.id_counter)).0) (sym (kids-one m e q)))

  -- the second child changes
  module _ (x : Rec → ℕ → Out Rec) {b' : Output} {k' l : Records} {f : Record} (p : Kept b b' k k' (λ r. r)) (m : 0 < k'.count) (e : FirstOf k' f) (q : RestOf k' l) where
    kids-two : kids_of (rec_of r) ≡ cons (rec_of p.first) (cons (rec_of f) (recs_of l))
    kids-two = kids-one (omega (arith, m, p.rest.many)) p.is p.rest ∙ ap (cons (rec_of p.first)) (recs_step m e q)

    pub makes_second : {c d : Output} → Makes b' c (x (rec_of f) b'.names.id_counter) → KeepsAll c d (recs_of l) → Makes a d (wrap h (at_kid 1 x (kids_of (rec_of r)) a.names.id_counter))
    makes_second v w =
        makes-as (makes_front h g.front (g.kids.many ∙ ap count kids-two) g.short
        (all_before (rec_of p.first) p.put (all_rest (recs_of l) v w)))
        (ap (λ (n : ℕ). wrap h (at_kid 1 x (cons (rec_of p.first) (cons (rec_of f) (recs_of l))) n)) (keeps-counter p.put ∙ begun-counter) ∙ ap (λ (ks : Recs). wrap h (at_kid 1 x ks a.names.id_counter)) (sym kids-two))

    pub keeps_second : {c d : Output} → Keeps b' c (x (rec_of f) a.names.id_counter).0 → KeepsAll c d (recs_of l) → Keeps a d (wrap h (at_kid 1 x (kids_of (rec_of r)) a.names.id_counter)).0
    keeps_second v w =
        keeps-as (keeps_front g (cons (rec_of p.first) (cons (x (rec_of f) a.names.id_counter).0 (recs_of l))) (ap count (sym kids-two) ∙ sym g.kids.many) (keeps_more _ _ p.put (keeps_more _ _ v w)))
        (ap (λ (ks : Recs). (wrap h (at_kid 1 x ks a.names.id_counter)).0) (sym kids-two))
