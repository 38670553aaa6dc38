-- No member of an object literal is left out in silence, at whatever depth typing meets it.
use mathlib.Core.Path.{◌≡◌, refl, sym, subst}
use mathlib.Core.List.{List, [], ◌∷◌, ◌++◌, append_assoc, append-nil}
use mathlib.Core.Bool.{Bool, true, false, cond}
use mathlib.Core.Option.{Option, none, some}
use Prim.Native.Nat.{ℕ, suc}
use native.Mathlib.Omega.{arith}
use lib.Dec.{eqb}
use borrow.Author.Tests.{eqb-true}
use Rattle.definition.specs.Tree.{Head, Rec, Recs, rec, nil, cons}
use Rattle.definition.specs.Grammar.{mark, marks, member}
use Rattle.definition.specs.Record.{head_of, kids_of, mark_of, is, dummy_sp, ranged, kid, join, given, Diag, diag, Out}
use Rattle.definition.specs.Helpers.{object_freeze_call_arg}
use Rattle.definition.specs.Prescan.{PrescannedModuleIds}
use Rattle.definition.specs.Typing.{
  element,
  or_any,
  ts_rest_type,
  Element,
  e_hole,
  e_spread,
  e_expr,
  e_op,
  element_kind,
  element_by,
  spread_kind,
  spread_by,
  prop_kind,
  prop_by,
  key_value,
  shorthand,
  param_kind,
  param_by,
  default_param,
  expr_kind,
  ident_to_ts_type,
  expr_by,
  expr_to_ts_type,
  type_second,
  elements,
  spread_type,
  props,
  prop,
  fn_params,
  fn_param,
  arrow_params,
  pat_to_ts_fn_param,
}
use Rattle.definition.specs.Silence.{OneOf, here, there, Piece, Given, Told, Ledger, Reaches, now, later, Meets}

-- ---- pieces of lists of diagnostics

pub piece-whole : (xs : List Diag) → Piece xs xs
piece-whole xs = record { before = []; after = []; whole = sym (append-nil xs) }

pub piece-left : {xs ys : List Diag} (zs : List Diag) → Piece xs ys → Piece xs (ys ++ zs)
piece-left {xs} {ys} zs p =
    let e : ys ≡ p.before ++ (xs ++ p.after) = p.whole in
    record { before = p.before; after = p.after ++ zs; whole = rw e (simp append_assoc) }

pub piece-right : {xs ys : List Diag} (zs : List Diag) → Piece xs ys → Piece xs (zs ++ ys)
piece-right {xs} {ys} zs p =
    let e : ys ≡ p.before ++ (xs ++ p.after) = p.whole in
    record { before = zs ++ p.before; after = p.after; whole = rw e (simp append_assoc) }

pub piece_of : {xs ys zs : List Diag} → Piece xs ys → Piece ys zs → Piece xs zs
piece_of {xs} {ys} {zs} p q =
    let e : zs ≡ q.before ++ (ys ++ q.after) = q.whole in
    let f : ys ≡ p.before ++ (xs ++ p.after) = p.whole in
    record { before = q.before ++ p.before; after = p.after ++ q.after; whole = rw (e, f) (simp append_assoc) }

-- what was told on the way to a type, or to any
pub or_any-piece : (o : Out (Option Rec)) (ds : List Diag) → Piece o.1 (or_any o ds).1
or_any-piece o ds = go o.0 o.1 o.2
  where
    go : (x : Option Rec) (l : List Diag) (m : ℕ) → Piece l (or_any (x, l, m) ds).1
    go none l m = piece-left ds (piece-whole l)
    go (some t) l m = piece-whole l

-- a mark that is none of the others
only-other : (m : ℕ) → member m (marks "Kv Sh Pq Sp Op") ≡ true → eqb m (mark "Kv") ≡ false → eqb m (mark "Sh") ≡ false → eqb m (mark "Sp") ≡ false →
    eqb m (mark "Op") ≡ false → m ≡ mark "Pq"
unfolding member marks
only-other m k p q s t = go (eqb m (mark "Pq")) refl
  where
    go : (b : Bool) → eqb m (mark "Pq") ≡ b → m ≡ mark "Pq"
    go true e = eqb-true _ _ e
    go false e = absurd (let z : false ≡ true = rw (p, q, e, s, t) at k in let y : ◌≡◌ {A = ℕ} 0 1 = cc in omega arith)

module _ (ids : PrescannedModuleIds) (ctx : ℕ) where
  -- ---- the ledger of an object literal

  -- one property, before others
  module _ (c r : Bool) (n : ℕ) (h : Head) (ks ps ms : Recs) (ds : List Diag) where
    abbrev Entry : Out Recs → Type 0
    Entry a = Ledger ids ctx c r a.2 ps ms ds → Ledger ids ctx c r n (cons (rec h ks) ps) (join a.0 ms) (a.1 ++ ds)

    value-entry : (x : Option Rec) → h.mark ≡ mark "Kv" → (type_second ids ctx ks c r n).0 ≡ x → Entry (key_value ks r (type_second ids ctx ks c r n))
    value-entry none m e = rw e (rw append_assoc (Ledger.any m e))
    value-entry (some t) m e = rw e (Ledger.key_value t m e)

    shorthand-entry : (x : Option Rec) → h.mark ≡ mark "Sh" → ident_to_ts_type ids ctx (kid 0 ks) c ≡ x → Entry (shorthand h (kid 0 ks) r x n)
    shorthand-entry none m e = Ledger.untyped m e
    shorthand-entry (some t) m e = Ledger.shorthand t m e

    entry : member h.mark (marks "Kv Sh Pq Sp Op") ≡ true → Entry (prop ids ctx (rec h ks) c r n)
    unfolding prop prop_by prop_kind
    entry k = go (eqb h.mark (mark "Kv")) (eqb h.mark (mark "Sh")) (eqb h.mark (mark "Sp")) (eqb h.mark (mark "Op")) refl refl refl refl
      where
        go : (a b d e : Bool) → eqb h.mark (mark "Kv") ≡ a → eqb h.mark (mark "Sh") ≡ b → eqb h.mark (mark "Sp") ≡ d → eqb h.mark (mark "Op") ≡ e →
            Entry (prop ids ctx (rec h ks) c r n)
        go true b d e p q s t = rw p (value-entry (type_second ids ctx ks c r n).0 (eqb-true _ _ p) refl)
        go false true d e p q s t = rw (p, q) (shorthand-entry (ident_to_ts_type ids ctx (kid 0 ks) c) (eqb-true _ _ q) refl)
        go false false true e p q s t = rw (p, q, s) (Ledger.spread (eqb-true _ _ s))
        go false false false true p q s t = rw (p, q, s, t) (Ledger.op (eqb-true _ _ t))
        go false false false false p q s t = rw (p, q, s, t) (Ledger.other (only-other h.mark k p q s t))

  -- the whole literal: each property is a member or is told of, in order
  pub ledger : (ks : Recs) → ((p : Rec) → OneOf p ks → member (mark_of p) (marks "Kv Sh Pq Sp Op") ≡ true) → (c r : Bool) (n : ℕ) →
      Ledger ids ctx c r n ks (props ids ctx ks c r n).0 (props ids ctx ks c r n).1
  unfolding props
  ledger nil k c r n = Ledger.ends
  ledger (cons (rec h ks) ps) k c r n =
      let m : ℕ = (prop ids ctx (rec h ks) c r n).2 in
      entry c r n h ks ps (props ids ctx ps c r m).0 (props ids ctx ps c r m).1 (k (rec h ks) here) (ledger ps (λ q i. k q (there i)) c r m)

  -- ---- what is told of the properties of an object literal

  -- what is told of one property is told of them all
  prop-piece : {p : Rec} {ks : Recs} → OneOf p ks → (c r : Bool) (n : ℕ) → (m : ℕ) × Piece (prop ids ctx p c r m).1 (props ids ctx ks c r n).1
  unfolding props
  prop-piece {p} here c r n = (n, piece-left _ (piece-whole _))
  prop-piece {p} (there {q} i) c r n =
      let rest = prop-piece i c r (prop ids ctx q c r n).2 in
      (rest.0, piece-right (prop ids ctx q c r n).1 rest.1)

  spread-says : (p : Rec) → mark_of p ≡ mark "Sp" → (c r : Bool) (n : ℕ) → (prop ids ctx p c r n).1 ≡ diag "d4" (head_of p) ∷ []
  unfolding prop prop_by prop_kind
  spread-says (rec h ks) e c r n = rw e

  other-says : (p : Rec) → mark_of p ≡ mark "Pq" → (c r : Bool) (n : ℕ) → (prop ids ctx p c r n).1 ≡ diag "d3" (head_of p) ∷ []
  unfolding prop prop_by prop_kind
  other-says (rec h ks) e c r n = rw e

  shorthand-says : (p : Rec) → mark_of p ≡ mark "Sh" → (c r : Bool) (n : ℕ) → ident_to_ts_type ids ctx (kid 0 (kids_of p)) c ≡ none →
      (prop ids ctx p c r n).1 ≡ diag "d3" (head_of p) ∷ []
  unfolding prop prop_by prop_kind
  shorthand-says (rec h ks) e c r n u = rw (e, u)

  props-told : (ks : Recs) (c r : Bool) (n : ℕ) → Told ids ctx c ks (Given (props ids ctx ks c r n).1)
  props-told ks c r n =
      let given : (p : Rec) (d : Diag) → OneOf p ks → ((m : ℕ) → (prop ids ctx p c r m).1 ≡ d ∷ []) → Given (props ids ctx ks c r n).1 d =
      (λ p d i e. let q = prop-piece i c r n in subst (λ (ds : List Diag). Piece ds (props ids ctx ks c r n).1) (e q.0) q.1) in
      record {
        spreads = λ p i e. given p (diag "d4" (head_of p)) i (spread-says p e c r);
        others = λ p i e. given p (diag "d3" (head_of p)) i (other-says p e c r);
        shorthands = λ p i e u. given p (diag "d3" (head_of p)) i (λ m. shorthand-says p e c r m u);
      }

  -- where a diagnostic is, seen from elsewhere
  pub told_more : {c : Bool} {ks : Recs} {Is Is' : Diag → Type 0} → Told ids ctx c ks Is → ((d : Diag) → Is d → Is' d) → Told ids ctx c ks Is'
  told_more t f =
      record {
        spreads = λ q i e. f (diag "d4" (head_of q)) (t.spreads q i e);
        others = λ q i e. f (diag "d3" (head_of q)) (t.others q i e);
        shorthands = λ q i e u. f (diag "d3" (head_of q)) (t.shorthands q i e u);
      }

  -- ---- what is told of an expression is told of whatever holds it

  -- the diagnostics of some typing of o are among ds
  pub record Heard (o : Rec) (c r : Bool) (ds : List Diag) : Type 0 where
    pub counter : ℕ
    pub piece : Piece (expr_to_ts_type ids ctx o c r counter).1 ds

  pub heard-more : {o : Rec} {c r : Bool} {ds es : List Diag} → Heard o c r ds → Piece ds es → Heard o c r es
  heard-more h p = record { counter = h.counter; piece = piece_of h.piece p }

  -- an element, what a Sp spreads, and the elements after
  spread-first : (h : Head) (o : Out (Option Rec)) (rest : ℕ → Out (Option Recs)) →
      Piece o.1 (given o.0 (none, o.1 ++ (diag "d4" h ∷ []), o.2) (λ t. element (ts_rest_type dummy_sp t) o.1 (rest o.2))).1
  spread-first h o rest = go o.0 o.1 o.2
    where
      go : (x : Option Rec) (l : List Diag) (m : ℕ) → Piece l (given x (none, l ++ (diag "d4" h ∷ []), m) (λ t. element (ts_rest_type dummy_sp t) l (rest m))).1
      go none l m = piece-left _ (piece-whole l)
      go (some t) l m = piece-left _ (piece-whole l)

  after-element : (k : Element) (h : Head) (typed spread : ℕ → Out (Option Rec)) (rest : ℕ → Out (Option Recs)) (n : ℕ) →
      (k ≡ e_spread → (t : Rec) × ((spread n).0 ≡ some t)) → (m : ℕ) × Piece (rest m).1 (element_by k h typed spread rest n).1
  unfolding element_by
  after-element e_hole h typed spread rest n p = (n, piece-whole _)
  after-element e_spread h typed spread rest n p =
      let e : (spread n).0 ≡ some (p refl).0 = (p refl).1 in
      ((spread n).2, rw e (piece-right (spread n).1 (piece-whole _)))
  after-element e_expr h typed spread rest n p =
      let o : Out Rec = or_any (typed n) (diag "d1" h ∷ []) in
      (o.2, piece-right o.1 (piece-whole _))
  after-element e_op h typed spread rest n p = (n, piece-whole _)

  -- only a Sp is a spread
  is-spread : (m : ℕ) → element_kind m ≡ e_spread → m ≡ mark "Sp"
  unfolding element_kind
  is-spread m k = go (eqb m (mark "No")) (eqb m (mark "Sp")) (eqb m (mark "Op")) refl refl refl
    where
      go : (a b d : Bool) → eqb m (mark "No") ≡ a → eqb m (mark "Sp") ≡ b → eqb m (mark "Op") ≡ d → m ≡ mark "Sp"
      go true b d p q s = let z : e_hole ≡ e_spread = rw p at k in cc
      go false true d p q s = eqb-true _ _ q
      go false false true p q s = let z : e_op ≡ e_spread = rw (p, q, s) at k in cc
      go false false false p q s = let z : e_expr ≡ e_spread = rw (p, q, s) at k in cc

  module _ (c r : Bool) where
    reached : {e : Rec} {ks : Recs} → Reaches ids ctx c e ks → element_kind (mark_of e) ≡ e_expr → (n : ℕ) → Heard e c r (elements ids ctx ks c r n).1
    unfolding elements element_by
    reached {e} now k n = record { counter = n; piece = rw k (piece-left _ (or_any-piece (expr_to_ts_type ids ctx e c r n) (diag "d1" (head_of e) ∷ []))) }
    reached {e} (later {q} {es} f i) k n =
        let a = after-element (element_kind (mark_of q)) (head_of q) (λ n. expr_to_ts_type ids ctx q c r n) (λ n. spread_type ids ctx q c n) (λ n. elements ids ctx es c r n) n
        (λ s. f (is-spread (mark_of q) s) n) in
        heard-more (reached i k a.0) a.1

    spread-reached : {s : Rec} {ks : Recs} → Reaches ids ctx c s ks → mark_of s ≡ mark "Sp" → (n : ℕ) →
        (m : ℕ) × Piece (spread_type ids ctx s c m).1 (elements ids ctx ks c r n).1
    unfolding elements element_by element_kind
    spread-reached {s} (now {es}) k n = (n, rw k (spread-first (head_of s) (spread_type ids ctx s c n) (λ n. elements ids ctx es c r n)))
    spread-reached {s} (later {q} {es} f i) k n =
        let a = after-element (element_kind (mark_of q)) (head_of q) (λ n. expr_to_ts_type ids ctx q c r n) (λ n. spread_type ids ctx q c n) (λ n. elements ids ctx es c r n) n
        (λ s. f (is-spread (mark_of q) s) n) in
        let b = spread-reached i k a.0 in
        (b.0, piece_of b.1 a.1)

  -- a parameter with a default, and all parameters
  default-piece : (ph : Head) (left v : Rec) (rest : Recs) → ph.mark ≡ mark "Ag" → (n : ℕ) →
      Piece (expr_to_ts_type ids ctx v false false n).1 (pat_to_ts_fn_param ids ctx (rec ph (cons left (cons v rest))) n).1
  unfolding pat_to_ts_fn_param param_by param_kind default_param
  default-piece ph left v rest e n = rw e (go o.0 o.1 o.2)
    where
      o : Out (Option Rec)
      o = expr_to_ts_type ids ctx v false false n

      named : (b : Bool) (x y : Recs) (l : List Diag) (m k : ℕ) → Piece l (cond {A = Out Recs} b (x, l, m) (y, l, k)).1
      named true x y l m k = piece-whole l
      named false x y l m k = piece-whole l

      go : (x : Option Rec) (l : List Diag) (m : ℕ) → Piece l (given x (nil, l, m) (λ t. default_param ph left t l m)).1
      go none l m = piece-whole l
      go (some t) l m = named (is "Bd" left) _ _ l m (suc m)

  arrow-piece : {p : Rec} {ks : Recs} → OneOf p ks → (n : ℕ) → (m : ℕ) × Piece (pat_to_ts_fn_param ids ctx p m).1 (arrow_params ids ctx ks 0 n).1
  unfolding arrow_params
  arrow-piece here n = (n, piece-left _ (piece-whole _))
  arrow-piece (there {q} i) n =
      let rest = arrow-piece i (pat_to_ts_fn_param ids ctx q n).2 in
      (rest.0, piece-right (pat_to_ts_fn_param ids ctx q n).1 rest.1)

  fn-piece : {p : Rec} {ks : Recs} → OneOf p ks → (n : ℕ) → (m : ℕ) × Piece (fn_param ids ctx p m).1 (fn_params ids ctx ks 0 n).1
  unfolding fn_params
  fn-piece here n = (n, piece-left _ (piece-whole _))
  fn-piece (there {q} i) n =
      let rest = fn-piece i (fn_param ids ctx q n).2 in
      (rest.0, piece-right (fn_param ids ctx q n).1 rest.1)

  -- by the arms of `expr_to_ts_type`: what is told of a part is told of the whole
  array-piece : (h : Head) (ks : Recs) (c r : Bool) (n : ℕ) → h.mark ≡ mark "Ar" → (expr_to_ts_type ids ctx (rec h ks) c r n).1 ≡ (elements ids ctx ks c r n).1
  unfolding expr_to_ts_type expr_by expr_kind marks member
  array-piece h ks c r n e = rw e

  object_piece : (h : Head) (ks : Recs) (c r : Bool) (n : ℕ) → h.mark ≡ mark "Ob" → (expr_to_ts_type ids ctx (rec h ks) c r n).1 ≡ (props ids ctx ks c r n).1
  unfolding expr_to_ts_type expr_by expr_kind marks member
  object_piece h ks c r n e = rw e

  pub const-is : (h : Head) (v : Rec) (ks : Recs) (c r : Bool) (n : ℕ) → h.mark ≡ mark "Tc" → expr_to_ts_type ids ctx (rec h (cons v ks)) c r n ≡ expr_to_ts_type ids ctx v true true n
  unfolding expr_to_ts_type expr_by expr_kind marks member
  const-is h v ks c r n e = rw e

  satisfies-is : (h : Head) (v : Rec) (ks : Recs) (c r : Bool) (n : ℕ) → h.mark ≡ mark "Ts" → expr_to_ts_type ids ctx (rec h (cons v ks)) c r n ≡ expr_to_ts_type ids ctx v c r n
  unfolding expr_to_ts_type expr_by expr_kind marks member
  satisfies-is h v ks c r n e = rw e

  frozen-piece : (h : Head) (f v : Rec) (ks : Recs) (c r : Bool) (n : ℕ) → h.mark ≡ mark "Ca" → object_freeze_call_arg ctx (cons f (cons v ks)) ≡ true →
      (expr_to_ts_type ids ctx (rec h (cons f (cons v ks))) c r n).1 ≡ (expr_to_ts_type ids ctx v c r n).1
  unfolding expr_to_ts_type expr_by expr_kind marks member
  frozen-piece h f v ks c r n e g = rw (e, g)

  arrow-is : (h : Head) (tps ret : Rec) (ks : Recs) (c r : Bool) (n : ℕ) → h.mark ≡ mark "Aw" →
      (expr_to_ts_type ids ctx (rec h (cons tps (cons ret ks))) c r n).1 ≡ (arrow_params ids ctx ks 0 n).1
  unfolding expr_to_ts_type expr_by expr_kind marks member
  arrow-is h tps ret ks c r n e = rw e

  function-is : (h fh : Head) (name tps ret body : Rec) (ks ops : Recs) (c r : Bool) (n : ℕ) → h.mark ≡ mark "Fx" →
      (expr_to_ts_type ids ctx (rec h (cons name (cons (rec fh (cons tps (cons ret (cons body ks)))) ops))) c r n).1 ≡ (fn_params ids ctx ks 0 n).1
  unfolding expr_to_ts_type expr_by expr_kind marks member
  function-is h fh name tps ret body ks ops c r n e = rw e

  value-piece : (ph : Head) (k v : Rec) (rest : Recs) (c r : Bool) (n : ℕ) → ph.mark ≡ mark "Kv" →
      Piece (expr_to_ts_type ids ctx v c r n).1 (prop ids ctx (rec ph (cons k (cons v rest))) c r n).1
  unfolding prop prop_by prop_kind
  value-piece ph k v rest c r n e = rw e (or_any-piece (expr_to_ts_type ids ctx v c r n) (diag "d2" (head_of v) ∷ []))

  param-piece : (qh : Head) (p : Rec) (more : Recs) (n : ℕ) → qh.mark ≡ mark "Pa" → fn_param ids ctx (rec qh (cons p more)) n ≡ pat_to_ts_fn_param ids ctx p n
  unfolding fn_param
  param-piece qh p more n e = rw e

  spread-is : (sh : Head) (a : Rec) (rest : Recs) (c : Bool) (n : ℕ) → mark_of a ≡ mark "Ar" → spread_type ids ctx (rec sh (cons a rest)) c n ≡ expr_to_ts_type ids ctx a c false n
  unfolding spread_type spread_by spread_kind
  spread-is sh a rest c n e = rw e

  -- the diagnostics of whatever typing meets are given
  pub heard : {o : Rec} {c' r' : Bool} {e : Rec} {c r : Bool} → Meets ids ctx o c' r' e c r → (n : ℕ) → Heard o c' r' (expr_to_ts_type ids ctx e c r n).1
  heard Meets.itself n = record { counter = n; piece = piece-whole _ }
  heard (Meets.element {h} {ks} {c} {r} e m i k w) n =
      let a = reached c r i k n in
      rw (array-piece h ks c r n m) (heard-more (heard w a.counter) a.piece)
  heard (Meets.spread {h} {ks} {c} {r} sh a rest m i k l w) n =
      let b = spread-reached c r i k n in
      rw (array-piece h ks c r n m) (heard-more (heard w b.0) (rw (spread-is sh a rest c b.0 l) at b.1))
  heard (Meets.value {h} {ks} {c} {r} ph k v rest m i l w) n =
      let a = prop-piece i c r n in
      rw (object_piece h ks c r n m) (heard-more (heard w a.0) (piece_of (value-piece ph k v rest c r a.0 l) a.1))
  heard (Meets.const {h} {v} {ks} {c} {r} m w) n = rw (const-is h v ks c r n m) (heard w n)
  heard (Meets.satisfies {h} {v} {ks} {c} {r} m w) n = rw (satisfies-is h v ks c r n m) (heard w n)
  heard (Meets.frozen {h} {f} {v} {ks} {c} {r} m g w) n = rw (frozen-piece h f v ks c r n m g) (heard w n)
  heard (Meets.arrow {h} {tps} {ret} {ks} {c} {r} ph left v rest m i l w) n =
      let a = arrow-piece i n in
      rw (arrow-is h tps ret ks c r n m) (heard-more (heard w a.0) (piece_of (default-piece ph left v rest l a.0) a.1))
  heard (Meets.function {h} {fh} {name} {tps} {ret} {body} {ks} {ops} {c} {r} qh ph left v rest more m i q l w) n =
      let a = fn-piece i n in
      rw (function-is h fh name tps ret body ks ops c r n m)
      (heard-more (heard w a.0)
      (piece_of (default-piece ph left v rest l a.0) (rw (param-piece qh (rec ph (cons left (cons v rest))) more a.0 q) at a.1)))

  -- No member of an object literal is left out in silence. Typing e, with whatever as_const and as_readonly and from whatever counter, tells of every
  -- Sp, Pq and untyped Sh of every object literal that it meets
  pub no_silence : {e : Rec} {c r c' r' : Bool} (h : Head) (ks : Recs) → h.mark ≡ mark "Ob" → Meets ids ctx (rec h ks) c' r' e c r → (n : ℕ) →
      Told ids ctx c' ks (Given (expr_to_ts_type ids ctx e c r n).1)
  no_silence {c' = c'} {r' = r'} h ks m w n =
      let a = heard w n in
      told_more (rw (object_piece h ks c' r' a.counter m) (props-told ks c' r' a.counter)) (λ d g. piece_of g a.piece)

  -- and every other member is in the type that is made, in order
  pub none-missing : (h : Head) (ks : Recs) → h.mark ≡ mark "Ob" → ((p : Rec) → OneOf p ks → member (mark_of p) (marks "Kv Sh Pq Sp Op") ≡ true) → (c r : Bool) (n : ℕ) →
      (ms : Recs) × ((expr_to_ts_type ids ctx (rec h ks) c r n).0 ≡ some (rec (ranged "Li" h []) ms)) × Ledger ids ctx c r n ks ms (expr_to_ts_type ids ctx (rec h ks) c r n).1
  unfolding expr_to_ts_type expr_by expr_kind marks member
  none-missing h ks m k c r n = ((props ids ctx ks c r n).0, rw m, rw m (ledger ks k c r n))
