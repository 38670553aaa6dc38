-- Laws of what was done to an Output, of types that may be missing: as a helper writes them to its Writer, behind a front, given up where a test does not
-- hold; and of a record that is made, its children written behind the room for its head.
use mathlib.Core.Path.{◌≡◌, refl, sym, ap, ◌∙◌, subst}
use mathlib.Core.List.{List, [], ◌++◌}
use mathlib.Core.Bool.{Bool, true, false, cond, ◌&&◌}
use mathlib.Core.Option.{Option, none, some}
use Prim.Native.Nat.{ℕ}
use native.Mathlib.Omega.{arith}
use Rattle.std.specs.Prelude.{Option as Answer, Some, None}
use Rattle.definition.specs.Tree.{Head, Rec, Recs, count, head_size, head_bytes, encode}
use Rattle.definition.specs.Record.{head_of, given, Diag, diags_bytes, Out, on_value, wrap}
use Rattle.definition.specs.Transform.{texts_fit}
use Rattle.records.specs.declared.Head.{Head as Fields}
use Rattle.records.specs.declared.Range.{Range as Span}
use Rattle.records.specs.declared.tree.Record.{Record}
use Rattle.records.specs.declared.writer.Writer.{Writer}
use Rattle.records.specs.Fields.{field_bytes, range_of, made_fields}
use Rattle.records.specs.Views.{rec_of}
use Rattle.records.specs.Writers.{Writes, Skips, Fronts}
use Rattle.records.specs.Wrote.{sat, Wrote}
use Rattle.records.proofs.Stores.{head_bytes_lem}
use Rattle.swc_helpers.specs.Maybe.{Unwritten, MakesType}
use Rattle.output.specs.declared.Output.{Output}
use Rattle.output.specs.declared.Start.{Start}
use Rattle.output.specs.Outputs.{front_bytes, start_of, Puts, Keeps, Returned, Adds, Step, Makes, MakesAll, fit_of, MakesMaybe}
use Rattle.output.proofs.Steps.{and-true, step_then, step-as, step-none, step-puts, step_back, IsSome, IsNone, maybe-some, maybe-none, maybe-as}
use Rattle.output.proofs.Kept.{Lends, puts, keeps_made}
use Rattle.output.proofs.Framing.{makes_front_last}

-- ---- a type that may be missing, as a helper writes it

-- nothing was written
step-unwritten : {a b : Output} → Unwritten a.out.now b.out.now → Lends b a → b.diagnostics ≡ a.diagnostics → b.names ≡ a.names → b.fits ≡ a.fits → Step a b [] [] a.names.id_counter true
step-unwritten {a} {b} w s d n f =
    let o : Step a a [] [] a.names.id_counter true = step-none a in
    record {
      out = record {
        buffer = w.buffer;
        wrote = subst (λ (x : List ℕ). Wrote a.out.now.out.now x a.out.now.at []) (sym w.same) o.out.wrote;
        position = w.position ∙ o.out.position;
      };
      diagnostics = subst (λ (x : Writer). Adds a.diagnostics.now x (diags_bytes [])) (ap (λ x. x.now) (sym d)) o.diagnostics;
      writers = record { out = ap (λ x. x.ghost_name) s; diagnostics = ap (λ x. x.ghost_name) d };
      counter = ap (λ x. x.id_counter) n;
      fits = f ∙ o.fits;
    }

-- a type whose texts fit
pub maybe_made : {a b : Output} (t : Option Rec) {r : Answer (Unit {0})} → MakesType a.out.now b.out.now t r → fit_of t ≡ true → Lends b a → b.diagnostics ≡ a.diagnostics → b.names ≡ a.names → b.fits ≡ a.fits
    → MakesMaybe a b r (t, [], a.names.id_counter)
maybe_made none w e s d n f = record { told = w.told; step = step-unwritten w.made s d n f }
maybe_made (some t) w e s d n f = record { told = w.told; step = step-puts (keeps_made t e w.made (ap (λ x. x.ghost_name) s) d n f) }

-- a type that is there
pub maybe_kept : {a b : Output} {t : Rec} → Keeps a b t → MakesMaybe a b (Some tt) (some t, [], a.names.id_counter)
maybe_kept w = maybe-some (step-puts w)

pub maybe_always : {a b : Output} {x : Out Rec} → Makes a b x → MakesMaybe a b (Some tt) (on_value some x)
maybe_always w = maybe-some w.step

pub maybe_never : (o : Output) → MakesMaybe o o None (none, [], o.names.id_counter)
maybe_never o = maybe-none (step-none o)

-- the same answer, as a call returns it
pub maybe_told : {a b : Output} {r s : Answer (Unit {0})} {x : Out (Option Rec)} → r ≡ s → MakesMaybe a b r x → MakesMaybe a b s x
maybe_told {a} {b} {x = x} e w = subst (λ (q : Answer (Unit {0})). MakesMaybe a b q x) e w

-- ---- a record that is wrapped: what stands before it is written first

-- W of a record is the bytes F and the record; f says whether the texts in front fit
pub record Front (F : List ℕ) (f : Bool) (W : Rec → Rec) : Type 0 where
  pub bytes : (t : Rec) → F ++ encode t ≡ encode (W t)
  pub fits : (t : Rec) → (f && texts_fit t) ≡ texts_fit (W t)

abbrev pub wrapped : (Rec → Rec) → Out (Option Rec) → Out (Option Rec)
wrapped W x = on_value (λ (v : Option Rec). given v none (λ t. some (W t))) x

-- it goes back to where it began
pub gone_back : (a : Output) {b c : Output} {s : Start} → s ≡ start_of a → Returned b c s → Returned b c (start_of a)
gone_back a {b} {c} e r = subst (λ (x : Start). Returned b c x) e r

module _ {a b c : Output} {F : List ℕ} {f : Bool} (front : Puts a b F f) where
  pub makes_wrapped : {W : Rec → Rec} → Front F f W → {x : Out Rec} → Makes b c x → Makes a c (on_value W x)
  makes_wrapped p {x} w = record { step = step-as (step_then (step-puts front) w.step) (p.bytes x.0) refl refl (p.fits x.0) }

  pub wrap_some : {W : Rec → Rec} → Front F f W → {x : Out (Option Rec)} → IsSome b c x → MakesMaybe a c (Some tt) (wrapped W x)
  wrap_some {W} p {x} w =
      maybe-as (maybe-some (step-as (step_then (step-puts front) w.step) (p.bytes w.type) refl refl (p.fits w.type)))
      (λ i. (given (sym w.same i) none (λ t. some (W t)), x.1, x.2))

  -- what was written before it is given up
  pub step_gone : {x : Out (Option Rec)} {d : Output} {s : Start} → IsNone b c x → s ≡ start_of a → Returned c d s → Step a d [] x.1 x.2 true
  step_gone w e r = step_back (step_then (step-puts front) w.step) (gone_back a e r)

  pub wrap_none : (W : Rec → Rec) {x : Out (Option Rec)} {d : Output} {s : Start} → IsNone b c x → s ≡ start_of a → Returned c d s → MakesMaybe a d None (wrapped W x)
  wrap_none W {x} w e r = maybe-as (maybe-none (step_gone w e r)) (λ i. (given (sym w.same i) none (λ t. some (W t)), x.1, x.2))

-- ---- a type that is given up where a test does not hold

unfoldable pub kept_if : Bool → Out (Option Rec) → Out (Option Rec)
kept_if b x = on_value (λ (v : Option Rec). cond b v none) x

pub kept_none : {a b : Output} (t : Bool) {x : Out (Option Rec)} → IsNone a b x → MakesMaybe a b None (kept_if t x)
unfolding kept_if
kept_none t {x} w = maybe-as (maybe-none w.step) (λ i. (go t i, x.1, x.2))
  where
    go : (t : Bool) → none ≡ cond t x.0 none
    go true = sym w.same
    go false = refl

pub kept_some : {a b : Output} {t : Bool} {x : Out (Option Rec)} → t ≡ true → IsSome a b x → MakesMaybe a b (Some tt) (kept_if t x)
unfolding kept_if
kept_some {x = x} e w = rw e (maybe-as (maybe-some w.step) (λ i. (sym w.same i, x.1, x.2)))

pub kept_back : {a b c : Output} {t : Bool} {x : Out (Option Rec)} {s : Start} → t ≡ false → IsSome a b x → s ≡ start_of a → Returned b c s → MakesMaybe a c None (kept_if t x)
unfolding kept_if
kept_back {a} e w g r = rw e (maybe-none (step_back w.step (gone_back a g r)))

-- ---- a record that is made, its head written behind its children

-- a write to the output alone
pub puts_out : {a b : Output} {E : List ℕ} → Writes a.out.now b.out.now E → Lends b a → b.diagnostics ≡ a.diagnostics → b.names ≡ a.names → b.fits ≡ a.fits → Puts a b E true
puts_out w s d n f = puts w (ap (λ x. x.ghost_name) s) d n f

-- the head that is made at the range of a record
made_bytes : (m : ℕ) (r : Record) {h : Fields} {range : Span} {n : ℕ} → range ≡ range_of (head_of (rec_of r)) → h ≡ made_fields m 0 range 0 n
    → field_bytes h ≡ head_bytes (record { mark = m; flags = 0; start = (head_of (rec_of r)).start; end = (head_of (rec_of r)).end; text = [] }) n
made_bytes m r {n = n} e f =
    rw (f, e) (head_bytes_lem (record { mark = m; flags = 0; start = (head_of (rec_of r)).start; end = (head_of (rec_of r)).end; text = [] }) n)

module _ {a b c d : Output} (r : Record) where
  pub made_around : (m : ℕ) {h : Fields} {range : Span} {n : ℕ} {y : Out Recs} {s : Start} → Skips a.out.now b.out.now head_size → Lends b a → b.diagnostics ≡ a.diagnostics → b.names ≡ a.names → b.fits ≡ a.fits → MakesAll b c y
      → s ≡ start_of a → range ≡ range_of (head_of (rec_of r)) → h ≡ made_fields m 0 range 0 n → Fronts c.out.now d.out.now s.at (field_bytes h ++ [])
      → Lends d c → d.diagnostics ≡ c.diagnostics → d.names ≡ c.names → d.fits ≡ c.fits → n ≡ count y.0
      → Makes a d (wrap (record { mark = m; flags = 0; start = (head_of (rec_of r)).start; end = (head_of (rec_of r)).end; text = [] }) y)
  made_around m {h} {range} {n} {y} {s} sk bs bd bn bf w e q g v ds dd dn df k =
      let H : Head = record { mark = m; flags = 0; start = (head_of (rec_of r)).start; end = (head_of (rec_of r)).end; text = [] } in
      let at : s.at ≡ a.out.now.at = ap (λ (x : Start). x.at) e in
      let v' : Fronts c.out.now d.out.now a.out.now.at (front_bytes H n) = rw (at, made_bytes m r q g) at v in
      makes_front_last H (record { same = ap (λ x. x.ghost_name) bs; skips = sk; diagnostics = bd; names = bn; fits = bf }) w (record { same = ap (λ x. x.ghost_name) ds; fronts = v'; diagnostics = dd; names = dn; fits = df }) k (omega arith)

-- what was written behind room for n bytes is given up
pub step_skipped : {o a c d : Output} {n : ℕ} {s : Start} {E : List ℕ} {ds : List Diag} {e : ℕ} {f : Bool} → Skips o.out.now a.out.now n → Lends a o → a.diagnostics ≡ o.diagnostics → Step a c E ds e f
    → s ≡ start_of o → Returned c d s → Step o d [] ds e true
step_skipped {o} {a} {c} {d} {n} {s} {E} {ds} sk os ad w q r =
    let v : Wrote o.out.now.out.now c.out.now.out.now (sat o.out.now.at n) E = rw (← sk.same, ← sk.position) w.out.wrote in
    let v' : Wrote o.out.now.out.now c.out.now.out.now o.out.now.at [] = record { same = v.same; keep = λ i l m. v.keep i (omega arith) m; new = λ i l m k. absurd (omega arith) } in
    record {
      out = record {
        buffer = ap (λ x. x.ghost_name) r.buffer ∙ (w.out.buffer ∙ sk.buffer);
        wrote = subst (λ (x : List ℕ). Wrote o.out.now.out.now x o.out.now.at []) (ap (λ x. x.now) (sym r.buffer)) v';
        position = omega (arith, r.position, ap (λ (x : Start). x.at) q, o.out.now.place);
      };
      diagnostics = rw (ap (λ x. x.now) r.diagnostics, ← ap (λ x. x.now) ad) w.diagnostics;
      writers = record { out = r.same ∙ (w.writers.out ∙ ap (λ x. x.ghost_name) os); diagnostics = ap (λ x. x.ghost_name) r.diagnostics ∙ (w.writers.diagnostics ∙ ap (λ x. x.ghost_name) ad) };
      counter = ap (λ x. x.id_counter) r.names ∙ w.counter;
      fits = r.fits ∙ (ap (λ (x : Start). x.fits) q ∙ sym (and-true o.fits));
    }
