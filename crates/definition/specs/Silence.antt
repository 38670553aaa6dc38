-- What it says that no member of an object literal is left out in silence: "Ob: untyped value any, d2 at it; untyped Sh and every Pq skipped, d3 at
-- it; Sp skipped, d4 at it."
use Rattle.std.specs.Prelude.{ℕ, ◌*◌, ◌<◌, ◌≡◌, List, [], ◌∷◌, ◌++◌, Bool, true, false, take, drop}
use Rattle.std.proofs.Math.Option.{none, some}
use Rattle.definition.specs.Tree.{Head, Rec, Recs, rec, nil, cons}
use Rattle.definition.specs.Grammar.{mark}
use Rattle.definition.specs.Record.{head_of, kids_of, mark_of, symbol_of, dummy_sp, ident_at, kid, Diag, diag, diag_bytes}
use Rattle.definition.specs.Helpers.{any_type_ann, object_freeze_call_arg}
use Rattle.definition.specs.Prescan.{PrescannedModuleIds}
use Rattle.definition.specs.Typing.{e_expr, element_kind, key_kind, key_expr, key_flag, property_signature, ident_to_ts_type, type_second, spread_type}

-- r is one of the records rs
pub data OneOf (r : Rec) : Recs → Type 0 where
  here : {rs : Recs} → OneOf r (cons r rs)
  there : {q : Rec} {rs : Recs} → OneOf r rs → OneOf r (cons q rs)

-- the list xs stands in ys, in one piece
pub record Piece (xs ys : List Diag) : Type 0 where
  pub before : List Diag
  pub after : List Diag
  pub whole : ys ≡ before ++ (xs ++ after)

-- a diagnostic is one of those given
abbrev pub Given : List Diag → Diag → Type 0
Given ds d = Piece (d ∷ []) ds

-- its ten bytes stand in a buffer of which k diagnostics were written
pub record Stands (buffer : List ℕ) (k : ℕ) (d : Diag) : Type 0 where
  pub place : ℕ
  pub inside : place < k
  pub bytes : take 10 (drop (10 * place) buffer) ≡ diag_bytes d

-- the member that a Kv becomes, with the type t: "`Ps` (1 readonly, 2 computed, 4 optional) expression type?", of its key
abbrev pub signature_of : Rec → Bool → Rec → Rec
signature_of p r t =
    let k : Rec = kid 0 (kids_of p) in
    property_signature (key_expr (key_kind (mark_of k)) k) r (key_flag (key_kind (mark_of k))) t

module _ (ids : PrescannedModuleIds) (ctx : ℕ) where
  -- every property in ks that has no member is told of, where as_const is c and `Is` says where its diagnostic is: "untyped Sh and every Pq
  -- skipped, d3 at it; Sp skipped, d4 at it"
  pub record Told (c : Bool) (ks : Recs) (Is : Diag → Type 0) : Type 0 where
    pub spreads : (p : Rec) → OneOf p ks → mark_of p ≡ mark "Sp" → Is (diag "d4" (head_of p))
    pub others : (p : Rec) → OneOf p ks → mark_of p ≡ mark "Pq" → Is (diag "d3" (head_of p))
    pub shorthands : (p : Rec) → OneOf p ks → mark_of p ≡ mark "Sh" → ident_to_ts_type ids ctx (kid 0 (kids_of p)) c ≡ none → Is (diag "d3" (head_of p))

  -- the properties of an object literal one by one, with the members that are made of them and the diagnostics that are given, in order: each is
  -- a member or is told of, and nothing else is made or given. `c` and `r` are as_const and as_readonly; the first index is the name counter
  pub data Ledger (c r : Bool) : ℕ → Recs → Recs → List Diag → Type 0 where
    ends : {n : ℕ} → Ledger c r n nil nil []
    -- "Sp skipped, d4 at it"
    spread : {n : ℕ} {p : Rec} {ps ms : Recs} {ds : List Diag} → mark_of p ≡ mark "Sp" → Ledger c r n ps ms ds →
        Ledger c r n (cons p ps) ms (diag "d4" (head_of p) ∷ ds)
    -- "every Pq skipped, d3 at it"
    other : {n : ℕ} {p : Rec} {ps ms : Recs} {ds : List Diag} → mark_of p ≡ mark "Pq" → Ledger c r n ps ms ds →
        Ledger c r n (cons p ps) ms (diag "d3" (head_of p) ∷ ds)
    -- "untyped Sh .. skipped, d3 at it"
    untyped : {n : ℕ} {p : Rec} {ps ms : Recs} {ds : List Diag} → mark_of p ≡ mark "Sh" → ident_to_ts_type ids ctx (kid 0 (kids_of p)) c ≡ none →
        Ledger c r n ps ms ds → Ledger c r n (cons p ps) ms (diag "d3" (head_of p) ∷ ds)
    -- a typed Sh is a member of its name
    shorthand : {n : ℕ} {p : Rec} {ps ms : Recs} {ds : List Diag} (t : Rec) → mark_of p ≡ mark "Sh" → ident_to_ts_type ids ctx (kid 0 (kids_of p)) c ≡ some t →
        Ledger c r n ps ms ds →
        Ledger c r n (cons p ps) (cons (property_signature (ident_at (head_of (kid 0 (kids_of p))) (symbol_of (kid 0 (kids_of p)))) r 0 t) ms) ds
    -- a Kv with a typed value is a member of its key
    key_value : {n : ℕ} {p : Rec} {ps ms : Recs} {ds : List Diag} (t : Rec) → mark_of p ≡ mark "Kv" → (type_second ids ctx (kids_of p) c r n).0 ≡ some t →
        Ledger c r (type_second ids ctx (kids_of p) c r n).2 ps ms ds →
        Ledger c r n (cons p ps) (cons (signature_of p r t) ms) ((type_second ids ctx (kids_of p) c r n).1 ++ ds)
    -- "untyped value any, d2 at it"
    any : {n : ℕ} {p : Rec} {ps ms : Recs} {ds : List Diag} → mark_of p ≡ mark "Kv" → (type_second ids ctx (kids_of p) c r n).0 ≡ none →
        Ledger c r (type_second ids ctx (kids_of p) c r n).2 ps ms ds →
        Ledger c r n (cons p ps) (cons (signature_of p r (any_type_ann dummy_sp)) ms)
        ((type_second ids ctx (kids_of p) c r n).1 ++ (diag "d2" (head_of (kid 1 (kids_of p))) ∷ ds))
    -- an Op is no property
    op : {n : ℕ} {p : Rec} {ps ms : Recs} {ds : List Diag} → mark_of p ≡ mark "Op" → Ledger c r n ps ms ds → Ledger c r n (cons p ps) ms ds

  -- typing comes as far as the element e of an Ar: every Sp before it has a type, where as_const is c
  pub data Reaches (c : Bool) (e : Rec) : Recs → Type 0 where
    now : {es : Recs} → Reaches c e (cons e es)
    later : {q : Rec} {es : Recs} → (mark_of q ≡ mark "Sp" → (n : ℕ) → (t : Rec) × ((spread_type ids ctx q c n).0 ≡ some t)) → Reaches c e es →
        Reaches c e (cons q es)

  -- typing an expression with as_const and as_readonly, the last three arguments, comes to type o with c' and r': it is o, or it holds an expression
  -- whose typing does
  pub data Meets (o : Rec) (c' r' : Bool) : Rec → Bool → Bool → Type 0 where
    itself : Meets o c' r' o c' r'
    -- an element of an Ar
    element : {h : Head} {ks : Recs} {c r : Bool} (e : Rec) → h.mark ≡ mark "Ar" → Reaches c e ks → element_kind (mark_of e) ≡ e_expr →
        Meets o c' r' e c r → Meets o c' r' (rec h ks) c r
    -- an Ar that is spread in an Ar: "(r off)"
    spread : {h : Head} {ks : Recs} {c r : Bool} (sh : Head) (a : Rec) (rest : Recs) → h.mark ≡ mark "Ar" → Reaches c (rec sh (cons a rest)) ks →
        sh.mark ≡ mark "Sp" → mark_of a ≡ mark "Ar" → Meets o c' r' a c false → Meets o c' r' (rec h ks) c r
    -- the value of a Kv in an Ob
    value : {h : Head} {ks : Recs} {c r : Bool} (ph : Head) (k v : Rec) (rest : Recs) → h.mark ≡ mark "Ob" → OneOf (rec ph (cons k (cons v rest))) ks →
        ph.mark ≡ mark "Kv" → Meets o c' r' v c r → Meets o c' r' (rec h ks) c r
    -- `as const`
    const : {h : Head} {v : Rec} {ks : Recs} {c r : Bool} → h.mark ≡ mark "Tc" → Meets o c' r' v true true → Meets o c' r' (rec h (cons v ks)) c r
    -- `satisfies`
    satisfies : {h : Head} {v : Rec} {ks : Recs} {c r : Bool} → h.mark ≡ mark "Ts" → Meets o c' r' v c r → Meets o c' r' (rec h (cons v ks)) c r
    -- the argument of `Object.freeze`
    frozen : {h : Head} {f v : Rec} {ks : Recs} {c r : Bool} → h.mark ≡ mark "Ca" → object_freeze_call_arg ctx (cons f (cons v ks)) ≡ true →
        Meets o c' r' v c r → Meets o c' r' (rec h (cons f (cons v ks))) c r
    -- the default of a parameter of an Aw
    arrow : {h : Head} {tps ret : Rec} {ks : Recs} {c r : Bool} (ph : Head) (left v : Rec) (rest : Recs) → h.mark ≡ mark "Aw" →
        OneOf (rec ph (cons left (cons v rest))) ks → ph.mark ≡ mark "Ag" → Meets o c' r' v false false → Meets o c' r' (rec h (cons tps (cons ret ks))) c r
    -- the default of a parameter of an Fx
    function : {h fh : Head} {name tps ret body : Rec} {ks ops : Recs} {c r : Bool} (qh ph : Head) (left v : Rec) (rest more : Recs) →
        h.mark ≡ mark "Fx" → OneOf (rec qh (cons (rec ph (cons left (cons v rest))) more)) ks → qh.mark ≡ mark "Pa" → ph.mark ≡ mark "Ag" →
        Meets o c' r' v false false → Meets o c' r' (rec h (cons name (cons (rec fh (cons tps (cons ret (cons body ks)))) ops))) c r
