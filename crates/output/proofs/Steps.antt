-- Laws of what was done to an Output: steps one after the other, a front that is written behind what follows it, a part that is given up.
use mathlib.Core.Path.{◌≡◌, refl, sym, ap, ◌∙◌, subst}
use mathlib.Core.List.{List, [], ◌∷◌, ◌++◌, append-nil, append_assoc}
use mathlib.Core.Bool.{Bool, true, false, cond, ◌&&◌}
use mathlib.Core.Option.{Option, none, some}
use Prim.Native.Nat.{ℕ, ◌≤◌, ◌<◌, ◌^◌}
use native.Mathlib.Omega.{arith}
use lib.ListN.{length, length-append}
use Rattle.std.specs.Prelude.{Option as Answer, Some, None}
use Rattle.definition.specs.Tree.{Rec, Recs, encode, encodes}
use Rattle.definition.specs.Record.{dummy_sp, given, Diag, diag_bytes, diags_bytes, Out, on_value}
use Rattle.definition.specs.Helpers.{any_type_ann}
use Rattle.definition.specs.Typing.{or_any}
use Rattle.definition.specs.Transform.{texts_fit, all_texts_fit}
use Rattle.records.specs.declared.writer.Writer.{Writer}
use Rattle.records.specs.Writers.{Writes, Skips, Fronts}
use Rattle.records.specs.Wrote.{highest, sat, Wrote}
use Rattle.records.proofs.Writers.{writes_then, writes_as}
use Rattle.records.proofs.Wrote.{wrote_none, wrote_then, wrote-front, wrote-drop, put-wrote}
use Rattle.output.specs.declared.Output.{Output}
use Rattle.output.specs.declared.Start.{Start}
use Rattle.output.specs.Outputs.{start_of, Puts, Keeps, Marks, Skipped, Fronted, Returned, Adds, Step, Makes, bytes_of, fit_of, told_of, MakesMaybe, Filled}

-- ---- bits of arithmetic

pub and-true : (b : Bool) → (b && true) ≡ b
and-true true = refl
and-true false = refl

pub and_assoc : (a b c : Bool) → ((a && b) && c) ≡ (a && (b && c))
and_assoc true b c = refl
and_assoc false b c = refl

pub diags_append : (ds es : List Diag) → diags_bytes (ds ++ es) ≡ diags_bytes ds ++ diags_bytes es
unfolding diags_bytes
diags_append [] es = refl
diags_append (d ∷ ds) es = rw (diags_append ds es) (sym (append_assoc (diag_bytes d) (diags_bytes ds) (diags_bytes es)))

-- ---- one buffer

adds-none : (w : Writer) → Adds w w []
adds-none w = record { buffer = refl; wrote = wrote_none w.out.now w.at; position = omega (arith, w.place) }

adds-same : {w w' : Writer} → w' ≡ w → Adds w w' []
adds-same {w} e = subst (λ (x : Writer). Adds w x []) (sym e) (adds-none w)

adds-put : {w w' : Writer} {E : List ℕ} → Writes w w' E → Adds w w' E
adds-put p = record { buffer = p.buffer; wrote = put-wrote p.put; position = p.put.position }

adds_then : {a b c : Writer} {E F : List ℕ} → Adds a b E → Adds b c F → Adds a c (E ++ F)
adds_then {a} {b} {c} {E} {F} v w = record {
  buffer = w.buffer ∙ v.buffer;
  wrote = wrote_then v.wrote (subst (λ (x : ℕ). Wrote b.out.now c.out.now x F) v.position w.wrote);
  position = omega (arith, v.position, w.position, length-append E F);
}

adds-as : {a b : Writer} {E F : List ℕ} → Adds a b E → E ≡ F → Adds a b F
adds-as {a} {b} w e = subst (λ (x : List ℕ). Adds a b x) e w

-- it goes back to where it stood
adds-back : {a b c : Writer} {E : List ℕ} → Adds a b E → c.out ≡ b.out → c.at ≡ a.at → Adds a c []
adds-back {a} {b} {c} w e q = record {
  buffer = ap (λ x. x.ghost_name) e ∙ w.buffer;
  wrote = subst (λ (x : List ℕ). Wrote a.out.now x a.at []) (ap (λ x. x.now) (sym e)) (wrote-drop w.wrote);
  position = omega (arith, q, a.place);
}

-- ---- steps

pub step_then : {a b c : Output} {E F : List ℕ} {ds es : List Diag} {n m : ℕ} {f g : Bool} → Step a b E ds n f → Step b c F es m g → Step a c (E ++ F) (ds ++ es) m (f && g)
step_then {a} {ds = ds} {es = es} {f = f} {g = g} v w = record {
  out = adds_then v.out w.out;
  diagnostics = adds-as (adds_then v.diagnostics w.diagnostics) (sym (diags_append ds es));
  counter = w.counter;
  writers = record { out = w.writers.out ∙ v.writers.out; diagnostics = w.writers.diagnostics ∙ v.writers.diagnostics };
  fits = w.fits ∙ (ap (λ (x : Bool). x && g) v.fits ∙ and_assoc a.fits f g);
}

-- the same step, said in another way
pub step-as : {a b : Output} {E E' : List ℕ} {ds ds' : List Diag} {n n' : ℕ} {f f' : Bool} → Step a b E ds n f → E ≡ E' → ds ≡ ds' → n ≡ n' → f ≡ f' → Step a b E' ds' n' f'
step-as {a} {b} w e d c f = rw (← e, ← d, ← c, ← f) w

pub step-none : (o : Output) → Step o o [] [] o.names.id_counter true
unfolding diags_bytes
step-none o = record { out = adds-none o.out.now; diagnostics = adds-none o.diagnostics.now; writers = record { out = refl; diagnostics = refl }; counter = refl; fits = sym (and-true o.fits) }

pub step-puts : {a b : Output} {E : List ℕ} {f : Bool} → Puts a b E f → Step a b E [] a.names.id_counter f
unfolding diags_bytes
step-puts w = record {
  out = adds-put w.written;
  diagnostics = adds-same (ap (λ x. x.now) w.diagnostics);
  writers = record { out = w.same; diagnostics = ap (λ x. x.ghost_name) w.diagnostics };
  counter = ap (λ x. x.id_counter) w.names;
  fits = w.fits;
}

pub step-marks : {a b : Output} {d : Diag} → Marks a b d → Step a b [] (d ∷ []) a.names.id_counter true
unfolding diags_bytes
step-marks {a} {d = d} w = record {
  out = adds-same (ap (λ x. x.now) w.out);
  writers = record { out = ap (λ x. x.ghost_name) w.out; diagnostics = w.same };
  diagnostics = adds-as (adds-put w.marked) (sym (append-nil (diag_bytes d)));
  counter = ap (λ x. x.id_counter) w.names;
  fits = w.fits ∙ sym (and-true a.fits);
}

-- the output is given up
pub step_back : {a b c : Output} {E : List ℕ} {ds : List Diag} {n : ℕ} {f : Bool} → Step a b E ds n f → Returned b c (start_of a) → Step a c [] ds n true
step_back {a} {b} {c} {ds = ds} w r = record {
  out = adds-back w.out r.buffer r.position;
  diagnostics = subst (λ (x : Writer). Adds a.diagnostics.now x (diags_bytes ds)) (ap (λ x. x.now) (sym r.diagnostics)) w.diagnostics;
  writers = record { out = r.same ∙ w.writers.out; diagnostics = ap (λ x. x.ghost_name) r.diagnostics ∙ w.writers.diagnostics };
  counter = ap (λ x. x.id_counter) r.names ∙ w.counter;
  fits = r.fits ∙ sym (and-true a.fits);
}

-- a front is written behind what follows it
pub step-fronted : {a b c d : Output} (H : List ℕ) {k : ℕ} {E : List ℕ} {ds : List Diag} {n : ℕ} {f : Bool} → k ≡ length H → Skipped a b k → Step b c E ds n f → Fronted c d (start_of a) H → Step a d (H ++ E) ds n f
step-fronted {a} {b} {c} {d} H {k} {E} {ds} {f = f} e s w r = record {
  out = record {
    buffer = r.fronts.buffer ∙ (w.out.buffer ∙ s.skips.buffer);
    wrote =
        let p : b.out.now.at ≡ sat a.out.now.at (length H) = s.skips.position ∙ ap (sat a.out.now.at) e in
        let v : Wrote a.out.now.out.now c.out.now.out.now (sat a.out.now.at (length H)) E = rw (← p, ← s.skips.same) w.out.wrote in
        rw (r.fronts.put.bytes) (wrote-front a.out.now.at H v);
    position = omega (arith, r.fronts.position, w.out.position, s.skips.position, e, length-append H E);
  };
  diagnostics = rw (ap (λ x. x.now) r.diagnostics, ← ap (λ x. x.now) s.diagnostics) w.diagnostics;
  writers = record { out = r.same ∙ (w.writers.out ∙ s.same); diagnostics = ap (λ x. x.ghost_name) r.diagnostics ∙ (w.writers.diagnostics ∙ ap (λ x. x.ghost_name) s.diagnostics) };
  counter = ap (λ x. x.id_counter) r.names ∙ w.counter;
  fits = r.fits ∙ (w.fits ∙ ap (λ (x : Bool). x && f) s.fits);
}

-- ---- one write after the other, each by itself

pub puts_then : {a b c : Output} {E F : List ℕ} {f g : Bool} → Puts a b E f → Puts b c F g → Puts a c (E ++ F) (f && g)
puts_then {a} {f = f} {g = g} v w = record {
  same = w.same ∙ v.same;
  written = writes_then a.out.now.size v.written w.written;
  diagnostics = w.diagnostics ∙ v.diagnostics;
  names = w.names ∙ v.names;
  fits = w.fits ∙ (ap (λ (x : Bool). x && g) v.fits ∙ and_assoc a.fits f g);
}

-- the same bytes, said in another way
pub puts-as : {a b : Output} {E F : List ℕ} {f g : Bool} → Puts a b E f → E ≡ F → f ≡ g → Puts a b F g
puts-as {a} {b} w e q = rw (← e, ← q) w

pub keeps-as : {a b : Output} {t u : Rec} → Keeps a b t → t ≡ u → Keeps a b u
keeps-as {a} {b} w e = subst (λ (x : Rec). Keeps a b x) e w

-- ---- answers

-- what is known where the answer is a type, and where it is none
pub record IsSome (a b : Output) (x : Out (Option Rec)) : Type 0 where
  pub type : Rec
  pub same : x.0 ≡ some type
  pub step : Step a b (encode type) x.1 x.2 (texts_fit type)

pub record IsNone (a b : Output) (x : Out (Option Rec)) : Type 0 where
  pub same : x.0 ≡ none
  pub step : Step a b [] x.1 x.2 true

pub is_some : {a b : Output} {r : Answer (Unit {0})} {x : Out (Option Rec)} → MakesMaybe a b r x → r ≡ Some tt → IsSome a b x
is_some {a} {b} {r} {x} w e = go x.0 w.told w.step refl
  where
    go : (v : Option Rec) → r ≡ told_of v → Step a b (bytes_of v) x.1 x.2 (fit_of v) → x.0 ≡ v → IsSome a b x
    go none t z q = absurd (let y : ◌≡◌ {A = ℕ} 0 1 = cc in omega arith)
    go (some t) o z q = record { type = t; same = q; step = z }

pub is_none : {a b : Output} {r : Answer (Unit {0})} {x : Out (Option Rec)} → MakesMaybe a b r x → r ≡ None → IsNone a b x
is_none {a} {b} {r} {x} w e = go x.0 w.told w.step refl
  where
    go : (v : Option Rec) → r ≡ told_of v → Step a b (bytes_of v) x.1 x.2 (fit_of v) → x.0 ≡ v → IsNone a b x
    go (some t) o z q = absurd (let y : ◌≡◌ {A = ℕ} 0 1 = cc in omega arith)
    go none t z q = record { same = q; step = z }

pub maybe-some : {a b : Output} {t : Rec} {ds : List Diag} {n : ℕ} → Step a b (encode t) ds n (texts_fit t) → MakesMaybe a b (Some tt) (some t, ds, n)
maybe-some w = record { told = refl; step = w }

pub maybe-none : {a b : Output} {ds : List Diag} {n : ℕ} → Step a b [] ds n true → MakesMaybe a b None (none, ds, n)
maybe-none w = record { told = refl; step = w }

-- the same answer for another way to say what was to be typed
pub maybe-as : {a b : Output} {r : Answer (Unit {0})} {x y : Out (Option Rec)} → MakesMaybe a b r x → x ≡ y → MakesMaybe a b r y
maybe-as {a} {b} {r} w e = subst (λ (z : Out (Option Rec)). MakesMaybe a b r z) e w

-- ---- a type, or any in its place

any-fits : true ≡ texts_fit (any_type_ann dummy_sp)
unfolding texts_fit all_texts_fit
any-fits = refl

pub filled-typed : (o : Output) {t : Answer (Unit {0})} (d : Diag) → t ≡ Some tt → Filled o o t d
filled-typed o d e = record { typed = λ q. refl; any = λ q. absurd (let y : ◌≡◌ {A = ℕ} 0 1 = cc in omega arith) }

pub filled-any : {a b c : Output} {t : Answer (Unit {0})} {d : Diag} → t ≡ None → Keeps a b (any_type_ann dummy_sp) → Marks b c d → Filled a c t d
filled-any {d = d} e w m = record {
  typed = λ q. absurd (let y : ◌≡◌ {A = ℕ} 0 1 = cc in omega arith);
  any = λ q. step-as (step_then (step-puts w) (step-marks m)) (append-nil _) refl (ap (λ x. x.id_counter) w.names) (and-true _ ∙ sym any-fits);
}

pub filled : {a b c : Output} {t : Answer (Unit {0})} {x : Out (Option Rec)} {d : Diag} → MakesMaybe a b t x → Filled b c t d → Makes a c (or_any x (d ∷ []))
filled {a} {b} {c} {t} {x} {d} w f = go x.0 w.told w.step
  where
    go : (v : Option Rec) → t ≡ told_of v → Step a b (bytes_of v) x.1 x.2 (fit_of v) → Makes a c (or_any (v, x.1, x.2) (d ∷ []))
    go none e z = record { step = step-as (step_then z (f.any e)) refl refl z.counter any-fits }
    go (some t) e z = record { step = subst (λ (o : Output). Step a o (encode t) x.1 x.2 (texts_fit t)) (sym (f.typed e)) z }
