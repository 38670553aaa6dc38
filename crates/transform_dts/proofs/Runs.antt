-- The dry run and the run: what a run says of the output and the diagnostics, the answer that follows, and what was written.
use mathlib.Core.Path.{◌≡◌, refl, sym}
use mathlib.Core.List.{List, [], ◌∷◌, ◌++◌}
use mathlib.Core.Bool.{true, false}
use Prim.Native.Nat.{ℕ, ◌/◌, ◌≤◌, ◌<◌, ◌^◌}
use native.Mathlib.Omega.{arith}
use lib.Dec.{leb}
use lib.ListN.{length, take, drop, length-append}
use lib.Seq.{length-take-le}
use borrow.Author.Tests.{le-leb, lt-leb}
use Rattle.std.specs.declared.result.Result.TheVariants.{Ok, Err}
use Rattle.definition.specs.Tree.{Rec, encode}
use Rattle.definition.specs.Record.{diags_bytes, Out}
use Rattle.definition.specs.Transform.{done, texts_fit, over, written}
use Rattle.definition.proofs.Calls.{length-diags_bytes}
use Rattle.records.specs.Wrote.{sat, Wrote}
use Rattle.records.proofs.Wrote.{wrote_exact}
use Rattle.grammar.specs.declared.Refusal.TheVariants.{OutputFull, DiagnosticsFull}
use Rattle.transform_dts.specs.declared.Run.{Run}
use Rattle.transform_dts.specs.Answers.{Gives}
use Rattle.transform_dts.specs.Runs.{Runs}

-- ---- what was written

-- nothing is written where there is no room: the whole is as it was
pub front-none : (a b : List ℕ) → length a ≡ 0 → a ++ b ≡ b
front-none [] b h = refl
front-none (x ∷ a) b h = absurd (omega arith)

-- the first p bytes of a buffer are that many
pub part_length : (p : ℕ) (a b : List ℕ) → p ≤ length b → p ≡ length (take p (a ++ b))
part_length p a b h = sym (length-take-le p (a ++ b) (omega (arith, length-append a b)))

-- E was written into exactly the room that it takes, the first p bytes of a buffer: it stands in front of what was behind them
pub filled : (E out o1 : List ℕ) {o2 : List ℕ} (p : ℕ) → length o1 ≡ 0 → p ≡ sat 0 (length E) → p ≤ length out → length out < 2 ^ 63 → Wrote (take p (o1 ++ out)) o2 0 E
    → o2 ++ drop p (o1 ++ out) ≡ over E out
filled E out o1 {o2} p z q l m w =
    let e : o1 ++ out ≡ out = front-none o1 out z in
    let k : p ≡ length E = omega arith in
    let v : Wrote (take (length E) out) o2 0 E = rw (e, k) at w in
    let x : o2 ≡ E = wrote_exact v (length-take-le (length E) out (omega arith)) (omega arith) in
    rw (e, k, x)

-- ---- the answer

module _ {o1 g1 : List ℕ} {r : Run} {x : Out Rec} (dry : Runs [] o1 [] g1 r x) (out diags : List ℕ) where
  -- a dry run says how long the output and the diagnostics are, and whether every text fits; it has no room to write in
  output-size : r.written ≡ sat 0 (length (encode x.0))
  output-size = dry.ran.atp

  diags_size : r.reported ≡ sat 0 (length (diags_bytes x.1))
  diags_size = dry.ran.atd

  texts : texts_fit x.0 ≡ r.fits
  texts = sym dry.fits

  out-kept : o1 ++ out ≡ out
  out-kept = front-none o1 out dry.ran.out.same

  diags_kept : g1 ++ diags ≡ diags
  diags_kept = front-none g1 diags dry.ran.dia.same

  -- 9, "output longer than its buffer": a text that no head can hold (reading 20), or too many bytes
  pub text_too_long : r.fits ≡ false → Gives (written x.0 x.1 out diags) (Err (record { refusal = OutputFull; place = 0 })) (o1 ++ out) (g1 ++ diags)
  unfolding written
  text_too_long f = rw (texts, f) (record { answer = refl; output = out-kept; diagnostics = diags_kept })

  module _ (f : r.fits ≡ true) where
    pub output_too_long : length out < r.written → Gives (written x.0 x.1 out diags) (Err (record { refusal = OutputFull; place = 0 })) (o1 ++ out) (g1 ++ diags)
    unfolding written
    output_too_long h =
        rw (texts, f, lt-leb (length (encode x.0)) (length out) (omega (arith, output-size)))
        (record { answer = refl; output = out-kept; diagnostics = diags_kept })

    -- a buffer is shorter than the largest position
    module _ (l : r.written ≤ length out) (short : length out < 2 ^ 63) where
      output-fits : leb (length (encode x.0)) (length out) ≡ true
      output-fits = le-leb (length (encode x.0)) (length out) (omega (arith, output-size))

      -- 10, "diagnostics longer than theirs"
      pub diagnostics_too_long : length diags < r.reported → Gives (written x.0 x.1 out diags) (Err (record { refusal = DiagnosticsFull; place = 0 })) (o1 ++ out) (g1 ++ diags)
      unfolding written
      diagnostics_too_long h =
          rw (texts, f, output-fits, lt-leb (length (diags_bytes x.1)) (length diags) (omega (arith, diags_size)))
          (record { answer = refl; output = out-kept; diagnostics = diags_kept })

      -- "Success returns bytes written and the diagnostic count; bytes beyond them are untouched"
      pub done-is : r.reported ≤ length diags → length diags < 2 ^ 63 → {o2 g2 : List ℕ} {s : Run}
          → Runs (take r.written (o1 ++ out)) o2 (take r.reported (g1 ++ diags)) g2 s x
          → Gives (written x.0 x.1 out diags) (Ok (record { length = r.written; count = r.reported / 10 })) (o2 ++ drop r.written (o1 ++ out)) (g2 ++ drop r.reported (g1 ++ diags))
      unfolding written
      done-is m short' w =
          let n : r.written ≡ length (encode x.0) = omega (arith, output-size) in
          let k : r.reported / 10 ≡ length x.1 = omega (arith, diags_size, length-diags_bytes x.1) in
          rw (texts, f, output-fits, le-leb (length (diags_bytes x.1)) (length diags) (omega (arith, diags_size)))
          (record {
            answer = λ i. done (n i) (k i);
            output = filled (encode x.0) out o1 r.written dry.ran.out.same output-size l short w.ran.out;
            diagnostics = filled (diags_bytes x.1) diags g1 r.reported dry.ran.dia.same diags_size m short' w.ran.dia;
          })
