-- What a C function returns and its two numbers follow from the answer of the function below it.
use mathlib.Core.Path.{◌≡◌, refl, sym, ap, ◌∙◌}
use mathlib.Core.List.{List, [], ◌∷◌}
use Prim.Native.Nat.{ℕ}
use mir.Syntax.{w8}
use mir.Val
use lib.ListN.{get_or}
use Rattle.std.specs.declared.result.Result as Code
use Rattle.std.specs.declared.result.Result.TheVariants.{Ok, Err}
use Rattle.std.specs.Result.{MatchResult, IsOkAnd}
use Rattle.definition.specs.Tree.{tree_at}
use Rattle.definition.specs.Check.{deepest}
use Rattle.definition.specs.Transform.{Result, call}
use Rattle.definition.specs.Transform as Transform
use Rattle.definition.specs.Depths.{placed, table_of, in_one, counts_by, call_depths}
use Rattle.definition.specs.Text.{Written}
use Rattle.grammar.specs.Answers.{number, checked}
use Rattle.grammar.specs.declared.Refused.{Refused}
use Rattle.transform_dts.specs.declared.Done.{Done}
use Rattle.transform_dts.specs.Answers.{answered, Gives}
use Rattle.depth_counts.specs.Answers.{GivesCounted}
use Rattle.depth_counts.proofs.Whole.{counted_table}
use Rattle.declaration_text.specs.Answers as TextAnswers
use Rattle.dts.specs.Answers.{check_code, check_pair, code_of, pair_of}

-- ---- of an answer

abbrev pub Answer : Type 0
Answer = Code.Result Done Refused

-- the number and the pair
abbrev pub Told : Answer → ℕ → List ℕ → Type 0
Told a code pair = (code ≡ code_of (answered a)) × (pair ≡ pair_of (answered a))

pub told-done : {a : Answer} {d : Done} → a ≡ Ok d → Told a 0 (d.length ∷ d.count ∷ [])
told-done q = (ap (λ (x : Answer). code_of (answered x)) (sym q), ap (λ (x : Answer). pair_of (answered x)) (sym q))

pub told-refused : {a : Answer} {r : Refused} {code : ℕ} → a ≡ Err r → code ≡ number r.refusal → Told a code (r.place ∷ 0 ∷ [])
told-refused q c = (c ∙ ap (λ (x : Answer). code_of (answered x)) (sym q), ap (λ (x : Answer). pair_of (answered x)) (sym q))

-- an answer with one number, and a 0 beside it
module _ {P : ℕ → Done → Type 0} (h : (n : ℕ) (d : Done) → P n d → d ≡ record { length = n; count = 0 }) where
  pub check-told : (f : Code.Result ℕ Refused) (a : Answer) → MatchResult f (λ n. IsOkAnd a (P n)) (λ r. a ≡ Err r) → {code : ℕ} {pair : List ℕ} → Told a code pair
      → (code ≡ check_code (checked f)) × (pair ≡ check_pair (checked f))
  check-told (Ok n) (Ok d) m t = let e = h n d m in (t.0 ∙ ap (λ (x : Done). code_of (answered (Ok x))) e, t.1 ∙ ap (λ (x : Done). pair_of (answered (Ok x))) e)
  check-told (Ok n) (Err r) m t = absurd m
  check-told (Err r) a m t = (t.0 ∙ ap (λ (x : Answer). code_of (answered x)) m, t.1 ∙ ap (λ (x : Answer). pair_of (answered x)) m)

  pub text-answered : (f : Code.Result ℕ Refused) (a : Answer) → MatchResult f (λ n. IsOkAnd a (P n)) (λ r. a ≡ Err r) → answered a ≡ TextAnswers.answered f
  text-answered (Ok n) (Ok d) m = ap (λ (x : Done). answered (Ok x)) (h n d m)
  text-answered (Ok n) (Err r) m = absurd m
  text-answered (Err r) a m = ap answered m

-- ---- of a call

-- the number, the pair and both buffers
abbrev pub Coded : Result → ℕ → List ℕ → List ℕ → List ℕ → Type 0
Coded z code pair out diags = (code ≡ code_of z.answer) × ((pair ≡ pair_of z.answer) × ((out ≡ z.out) × (diags ≡ z.diagnostics)))

pub coded : (z : Result) {a : Answer} {o g : List ℕ} → Gives z a o g → {code : ℕ} {pair : List ℕ} → Told a code pair → Coded z code pair o g
coded z w t = (t.0 ∙ ap code_of w.answer, (t.1 ∙ ap pair_of w.answer, (w.output, w.diagnostics)))

-- the same, and the counts
abbrev pub CodedCounts : Result → List ℕ → List ℕ → ℕ → List ℕ → List ℕ → List ℕ → List ℕ → Type 0
CodedCounts z new old code pair out diags counts =
    (code ≡ code_of z.answer) × ((pair ≡ pair_of z.answer) × ((out ≡ z.out) × ((diags ≡ z.diagnostics) × (counts ≡ counts_by z.answer new old))))

-- where it didn't succeed they are as they were
kept_by : (a : Answer) → ((d : Done) → a ≡ Ok d → ⊥) → (new old : List ℕ) → old ≡ counts_by (answered a) new old
kept_by (Ok d) n new old = absurd (n d refl)
kept_by (Err r) n new old = refl

module _ (tree list : List ℕ) (ctx : ℕ) (out diags : List ℕ) (t : List (List ℕ)) {a : Answer} {o g : List ℕ} {u : List (List ℕ)} (w : GivesCounted (call_depths tree list ctx out diags t) a o g u) where
  abbrev z : Result
  z = call tree list ctx out diags

  abbrev new : List ℕ
  new = in_one (table_of (placed list ctx (tree_at deepest tree 0)))

  gave : Gives z a o g
  unfolding call_depths
  gave = w.gives

  with-counts : {code : ℕ} {pair : List ℕ} → Told a code pair → (old counts : List ℕ) → counts ≡ counts_by (answered a) new old → CodedCounts z new old code pair o g counts
  with-counts d old counts e = let c = coded z gave d in (c.0, (c.1.0, (c.1.1.0, (c.1.1.1, e ∙ ap (λ (x : Transform.Answer). counts_by x new old) gave.answer))))

  pub depths-done : ((i : ℕ) → mir.Val.Fits w8 (get_or tree i 0)) → {d : Done} → a ≡ Ok d → {code : ℕ} {pair : List ℕ} → Told a code pair → (old : List ℕ) {counts : List ℕ} → counts ≡ in_one u → CodedCounts z new old code pair o g counts
  depths-done known q {code} {pair} d old {counts} e =
      with-counts d old counts
      (e ∙ (ap in_one (counted_table tree list ctx out diags t known w q) ∙ ap (λ (x : Answer). counts_by (answered x) new old) (sym q)))

  pub depths-refused : ((d : Done) → a ≡ Ok d → ⊥) → {code : ℕ} {pair : List ℕ} → Told a code pair → (old : List ℕ) → CodedCounts z new old code pair o g old
  depths-refused n {code} {pair} d old = with-counts d old old (kept_by a n new old)

-- ---- of the text

-- the number, the pair and the buffer
abbrev pub CodedText : Written → ℕ → List ℕ → List ℕ → Type 0
CodedText z code pair out = (code ≡ code_of z.answer) × ((pair ≡ pair_of z.answer) × (out ≡ z.out))

pub coded-text : (z : Written) {f : Code.Result ℕ Refused} {o : List ℕ} → TextAnswers.Gives z f o → (a : Answer) → answered a ≡ TextAnswers.answered f → {code : ℕ} {pair : List ℕ} → Told a code pair → CodedText z code pair o
coded-text z w a q t = let e = q ∙ w.answer in (t.0 ∙ ap code_of e, (t.1 ∙ ap pair_of e, w.output))
