-- Two calls, the second on exactly the bytes that the first wrote: what they give, and demand 3 for them.
use mathlib.Core.Path.{◌≡◌, refl, sym, ap, ◌∙◌}
use mathlib.Core.List.{List}
use Prim.Native.Nat.{ℕ}
use native.Mathlib.Omega.{arith}
use lib.ListN.{take}
use Rattle.std.specs.declared.result.Result.{Result}
use Rattle.std.specs.declared.result.Result.TheVariants.{Ok, Err}
use Rattle.definition.specs.Tree.{Bytes}
use Rattle.definition.specs.Transform.{done, refused, call}
use Rattle.definition.specs.Demand3.{Supposed, written_by}
use Rattle.definition.proofs.Demand3.{demand3}
use Rattle.grammar.specs.Answers.{number}
use Rattle.grammar.specs.declared.Refused.{Refused}
use Rattle.transform_dts.specs.declared.Done.{Done}
use Rattle.transform_dts.specs.declared.twice.Twice.{Twice}
use Rattle.transform_dts.specs.Answers.{answered, Gives}
use Rattle.transform_dts.proofs.Calls.{call_done_is}
use Rattle.transform_dts.specs.Twice.{first_of, GivesAgain, Same}

-- the answer that stands for a success is one
done-only : (a : Result Done Refused) (n k : ℕ) → answered a ≡ done n k → a ≡ Ok (record { length = n; count = k })
done-only (Ok d) n k e = let p : d.length ≡ n = cc in let q : d.count ≡ k = cc in λ i. Ok (record { length = p i; count = q i })
done-only (Err r) n k e = absurd (let z : ◌≡◌ {A = ℕ} 0 1 = cc in omega arith)

-- ---- the first call succeeded

module _ (tree list : List ℕ) (ctx : ℕ) (out diags : List ℕ) {a : Result Done Refused} {o g : List ℕ} (w : Gives (call tree list ctx out diags) a o g) (f : Done) (q : a ≡ Ok f) where
  module _ (bytes : Bytes tree) (out' diags' : List ℕ) {b : Result Done Refused} {o' g' : List ℕ} (v : Gives (call (take f.length o) list ctx out' diags') b o' g') where
    -- what both calls gave
    abbrev both : Result Twice Refused
    both = Ok (record { first = f; second = b })

    -- the theorem, said of the buffers as they are left
    same : Supposed tree list ctx out diags out' diags' → Same tree list ctx both o o'
    same h =
        let d = demand3 tree list ctx out diags out' diags' bytes h in
        let first : done f.length f.count ≡ done d.n d.k = sym (call_done_is tree list ctx out diags w f q) ∙ d.first in
        let x : d.n ≡ f.length = cc in
        let e : take f.length o ≡ written_by tree list ctx out diags f.length = ap (take f.length) w.output in
        let u : Gives (call (written_by tree list ctx out diags f.length) list ctx out' diags') b o' g' = rw e at v in
        record {
          n = f.length;
          k = f.count;
          k' = d.k';
          answers = ap (λ (c : Result Done Refused). Ok (record { first = f; second = c })) (done-only b f.length d.k' (u.answer ∙ rw x at d.second));
          wrote = e ∙ rw x at d.wrote;
          same = ap (take f.length) u.output ∙ (rw x at d.same ∙ sym e);
        }

    pub again-all : Gives (call tree list ctx out diags) (first_of both) o g
        × (GivesAgain list ctx o out' diags' both o' g' × (Supposed tree list ctx out diags out' diags' → Same tree list ctx both o o'))
    again-all = (
      rw q at w,
      (
        record {
          second = λ t p.
              let x : f.length ≡ t.first.length = cc in
              let y : b ≡ t.second = cc in
              rw (x, y) at v;
          kept = λ r p. absurd (let y : ◌≡◌ {A = ℕ} 0 1 = cc in omega arith);
        },
        same,
      ),
    )

-- ---- the first call refused

module _ (tree list : List ℕ) (ctx : ℕ) (out diags : List ℕ) {a : Result Done Refused} {o g : List ℕ} (w : Gives (call tree list ctx out diags) a o g) (r : Refused) (q : a ≡ Err r) (bytes : Bytes tree) (o' g' : List ℕ) where
  -- what both calls gave
  abbrev none : Result Twice Refused
  none = Err r

  -- what demand 3 supposes rules that out
  never : Supposed tree list ctx out diags o' g' → ⊥
  never h =
      let d = demand3 tree list ctx out diags o' g' bytes h in
      let e : refused (number r.refusal) r.place ≡ done d.n d.k = sym (ap answered q) ∙ (w.answer ∙ d.first) in
      let z : ◌≡◌ {A = ℕ} 0 1 = cc in
      omega arith

  pub once-all : Gives (call tree list ctx out diags) (first_of none) o g
      × (GivesAgain list ctx o o' g' none o' g' × (Supposed tree list ctx out diags o' g' → Same tree list ctx none o o'))
  once-all = (
    rw q at w,
    (
      record {
        second = λ t z. absurd (let y : ◌≡◌ {A = ℕ} 0 1 = cc in omega arith);
        kept = λ e z. (refl, refl);
      },
      λ h. absurd (never h),
    ),
  )
