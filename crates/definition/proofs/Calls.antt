-- What a call does: a refusal leaves both buffers as they were; a success writes the bytes of the tree that is made and leaves every byte beyond
-- the counts as it was; where nothing is refused it succeeds.
use mathlib.Core.Path.{◌≡◌, refl, sym, ap, ◌∙◌}
use mathlib.Core.List.{List, [], ◌∷◌}
use mathlib.Core.Bool.{Bool, true, false, cond, ◌&&◌}
use Prim.Native.Nat.{ℕ, ◌*◌, ◌≤◌}
use native.Mathlib.Omega.{arith}
use lib.Dec.{leb}
use lib.ListN.{length, take, drop, length-append, length-drop}
use lib.Seq.{take-append_seam, drop-append_seam}
use borrow.Author.Tests.{leb-true, le-leb}
use Rattle.definition.specs.Tree.{Rec, encode, tree_at}
use Rattle.definition.specs.Check.{Checked, fine, refused as rejected, deepest, check_tree}
use Rattle.definition.specs.Record.{Diag, diags_bytes, Out}
use Rattle.definition.specs.Transform.{transform, done, refused, Result, texts_fit, over, written, call_by, call}
use Rattle.definition.specs.Demand3.{LongEnough}

-- ---- what is written over a buffer

module _ (bytes buffer : List ℕ) (room : length bytes ≤ length buffer) where
  pub length_over : length (over bytes buffer) ≡ length buffer
  length_over = simp (length-append, length-drop) (omega arith)

  pub take-over : take (length bytes) (over bytes buffer) ≡ bytes
  take-over = take-append_seam bytes (drop (length bytes) buffer)

  pub drop-over : drop (length bytes) (over bytes buffer) ≡ drop (length bytes) buffer
  drop-over = drop-append_seam bytes (drop (length bytes) buffer)

-- "A diagnostic is 10 bytes"
pub length-diags_bytes : (ds : List Diag) → length (diags_bytes ds) ≡ 10 * length ds
unfolding diags_bytes
length-diags_bytes [] = refl
length-diags_bytes (d ∷ ds) = let e : length (diags_bytes ds) ≡ 10 * length ds = length-diags_bytes ds in omega arith

-- ---- the last two tests

-- what was written of a tree r with the diagnostics ds by a success with the counts n and k
pub record Written (r : Rec) (ds : List Diag) (out diags : List ℕ) (n k : ℕ) (z : Result) : Type 0 where
  pub texts : texts_fit r ≡ true
  pub bytes : n ≡ length (encode r)
  pub count : k ≡ length ds
  pub room : length (encode r) ≤ length out
  pub diag_room : length (diags_bytes ds) ≤ length diags
  pub out_is : z.out ≡ over (encode r) out
  pub diags_are : z.diagnostics ≡ over (diags_bytes ds) diags

-- both buffers are as they were
pub record Kept (out diags : List ℕ) (z : Result) : Type 0 where
  pub out_is : z.out ≡ out
  pub diags_are : z.diagnostics ≡ diags

never_done : (a b n k : ℕ) → refused a b ≡ done n k → ⊥
never_done a b n k e = let z : ◌≡◌ {A = ℕ} 0 1 = cc in omega arith

never-refused : (a b n k : ℕ) → done a b ≡ refused n k → ⊥
never-refused a b n k e = let z : ◌≡◌ {A = ℕ} 0 1 = cc in omega arith

module _ (r : Rec) (ds : List Diag) (out diags : List ℕ) where
  -- the three tests, as arguments
  written_by : Bool → Bool → Bool → Result
  written_by a b c =
      cond (a && b)
      (cond c (record { answer = done (length (encode r)) (length ds); out = over (encode r) out; diagnostics = over (diags_bytes ds) diags }) (record { answer = refused 10 0; out = out; diagnostics = diags }))
      (record { answer = refused 9 0; out = out; diagnostics = diags })

  written-done : (n k : ℕ) → (written r ds out diags).answer ≡ done n k → Written r ds out diags n k (written r ds out diags)
  unfolding written written_by
  written-done n k =
      go (texts_fit r) (leb (length (encode r)) (length out)) (leb (length (diags_bytes ds)) (length diags)) refl refl refl
    where
      go : (a b c : Bool) → texts_fit r ≡ a → leb (length (encode r)) (length out) ≡ b → leb (length (diags_bytes ds)) (length diags) ≡ c →
          (written_by a b c).answer ≡ done n k → Written r ds out diags n k (written_by a b c)
      go true true true p q s e =
          record { texts = p; bytes = cc; count = cc; room = leb-true _ _ q; diag_room = leb-true _ _ s; out_is = refl; diags_are = refl }
      go true true false p q s e = absurd (never_done 10 0 n k e)
      go true false c p q s e = absurd (never_done 9 0 n k e)
      go false b c p q s e = absurd (never_done 9 0 n k e)

  written-refused : (number place : ℕ) → (written r ds out diags).answer ≡ refused number place → Kept out diags (written r ds out diags)
  unfolding written written_by
  written-refused number place =
      go (texts_fit r) (leb (length (encode r)) (length out)) (leb (length (diags_bytes ds)) (length diags))
    where
      go : (a b c : Bool) → (written_by a b c).answer ≡ refused number place → Kept out diags (written_by a b c)
      go true true true e = absurd (never-refused (length (encode r)) (length ds) number place e)
      go true true false e = record { out_is = refl; diags_are = refl }
      go true false c e = record { out_is = refl; diags_are = refl }
      go false b c e = record { out_is = refl; diags_are = refl }

  -- where no test is met, this is written
  written_is : texts_fit r ≡ true → length (encode r) ≤ length out → length (diags_bytes ds) ≤ length diags → written r ds out diags ≡ written_by true true true
  unfolding written written_by
  written_is t l m = rw (t, le-leb _ _ l, le-leb _ _ m)

-- ---- the call

-- success leaves the lengths, and every byte beyond the counts, as they were
pub record Beyond (out diags : List ℕ) (n k : ℕ) (z : Result) : Type 0 where
  pub room : n ≤ length out
  pub out_length : length z.out ≡ length out
  pub out_beyond : drop n z.out ≡ drop n out
  pub diag_room : 10 * k ≤ length diags
  pub diags_length : length z.diagnostics ≡ length diags
  pub diags_beyond : drop (10 * k) z.diagnostics ≡ drop (10 * k) diags

module _ (tree list : List ℕ) (ctx : ℕ) (out diags : List ℕ) where
  -- what the definition makes of the tree
  abbrev made : Out Rec
  made = transform list ctx (tree_at deepest tree 0)

  call_by_done : (x : Checked) (n k : ℕ) → (call_by x tree list ctx out diags).answer ≡ done n k →
      (e : ℕ) × (x ≡ fine e) × Written made.0 made.1 out diags n k (call_by x tree list ctx out diags)
  unfolding call_by
  call_by_done (fine e) n k p = (e, refl, written-done made.0 made.1 out diags n k p)
  call_by_done (rejected number place) n k p = absurd (never_done number place n k p)

  -- a success, taken apart
  pub call-done : (n k : ℕ) → (call tree list ctx out diags).answer ≡ done n k →
      (e : ℕ) × (check_tree tree list ≡ fine e) × Written made.0 made.1 out diags n k (call tree list ctx out diags)
  unfolding call
  call-done n k p = call_by_done (check_tree tree list) n k p

  call_by_refused : (x : Checked) (number place : ℕ) → (call_by x tree list ctx out diags).answer ≡ refused number place → Kept out diags (call_by x tree list ctx out diags)
  unfolding call_by
  call_by_refused (fine e) number place p = written-refused made.0 made.1 out diags number place p
  call_by_refused (rejected a b) number place p = record { out_is = refl; diags_are = refl }

  -- a refusal leaves both buffers as they were
  pub refusal-keeps : (number place : ℕ) → (call tree list ctx out diags).answer ≡ refused number place → Kept out diags (call tree list ctx out diags)
  unfolding call
  refusal-keeps number place p = call_by_refused (check_tree tree list) number place p

  -- "bytes beyond them are untouched"
  pub success_keeps : (n k : ℕ) → (call tree list ctx out diags).answer ≡ done n k → Beyond out diags n k (call tree list ctx out diags)
  success_keeps n k p =
      let w = (call-done n k p).2 in
      let t : 10 * k ≡ length (diags_bytes made.1) = sym (length-diags_bytes made.1 ∙ ap (λ (x : ℕ). 10 * x) (sym w.count)) in
      record {
        room = omega (arith, w.bytes, w.room);
        out_length = rw w.out_is (length_over (encode made.0) out w.room);
        out_beyond = rw (w.out_is, w.bytes) (drop-over (encode made.0) out w.room);
        diag_room = omega (arith, t, w.diag_room);
        diags_length = rw w.diags_are (length_over (diags_bytes made.1) diags w.diag_room);
        diags_beyond = rw (w.diags_are, t) (drop-over (diags_bytes made.1) diags w.diag_room);
      }

  -- the first n bytes of a success are those of the tree that is made
  pub wrote : (n k : ℕ) → (call tree list ctx out diags).answer ≡ done n k → take n (call tree list ctx out diags).out ≡ encode made.0
  wrote n k p =
      let w = (call-done n k p).2 in
      rw (w.out_is, w.bytes) (take-over (encode made.0) out w.room)

  -- an accepted tree with buffers that are long enough: success, with the counts that the definition fixes
  pub succeeds : (e : ℕ) → check_tree tree list ≡ fine e → LongEnough tree list ctx out diags →
      (call tree list ctx out diags).answer ≡ done (length (encode made.0)) (length made.1)
  unfolding call call_by written_by
  succeeds e c l = rw c (ap (λ (z : Result). z.answer) (written_is made.0 made.1 out diags l.texts l.bytes l.diagnostics))
