-- Where the transform of a module types an expression: the initial value of a variable, an expression exported as default, the value of a class
-- property, the default of a parameter.
use Rattle.std.specs.Prelude.{ℕ, ◌≡◌, List, Bool, true, false}
use Rattle.std.proofs.Math.Option.{some}
use Rattle.definition.specs.Tree.{Head, Rec, Recs, rec, cons}
use Rattle.definition.specs.Grammar.{mark}
use Rattle.definition.specs.Record.{head_of, mark_of, among, is_no, listed}
use Rattle.definition.specs.Names.{valid_prop_name}
use Rattle.definition.specs.Silence.{OneOf}

-- a pattern with the default e: "Ag over Bd, Pb, Po becomes the left side .., its type kept or the right side's (off, off)"
pub data InPattern (e : Rec) : Rec → Type 0 where
  name : {ph bh : Head} {i t : Rec} {ops rest : Recs} → ph.mark ≡ mark "Ag" → bh.mark ≡ mark "Bd" → is_no t ≡ true →
      InPattern e (rec ph (cons (rec bh (cons i (cons t ops))) (cons e rest)))
  box : {ph bh : Head} {t : Rec} {ops rest : Recs} → ph.mark ≡ mark "Ag" → among "Pb Po" bh.mark ≡ true → is_no t ≡ true →
      InPattern e (rec ph (cons (rec bh (cons t ops)) (cons e rest)))

-- a parameter of a function, or of a constructor
pub data InParam (e : Rec) : Rec → Type 0 where
  param : {h : Head} {p : Rec} {ops : Recs} → among "Pa Pp" h.mark ≡ true → InPattern e p → InParam e (rec h (cons p ops))

-- a function with a parameter: "`Fu` (flags 1 async, 2 generator) Op? type? Op? Pa*"
pub data InFunction (e : Rec) : Rec → Type 0 where
  function : {h : Head} {tps ret body q : Rec} {ks : Recs} → OneOf q ks → InParam e q → InFunction e (rec h (cons tps (cons ret (cons body ks))))

module _ (list : List ℕ) (ctx : ℕ) where
  -- a member of a class: "Co and Me whose range is listed go, then .. Me|Cp without a valid key"; "Cp without type but with value: typed (off, off)"
  pub data InMember (e : Rec) : Rec → Type 0 where
    constructor : {h : Head} {body q : Rec} {ks : Recs} → h.mark ≡ mark "Co" → listed list h ≡ false → OneOf q ks → InParam e q →
        InMember e (rec h (cons body ks))
    method : {h : Head} {key f : Rec} {ops : Recs} (key' : Rec) → h.mark ≡ mark "Me" → listed list h ≡ false → valid_prop_name ctx key ≡ some key' →
        InFunction e f → InMember e (rec h (cons key (cons f ops)))
    property : {h : Head} {key t : Rec} {ops : Recs} (key' : Rec) → h.mark ≡ mark "Cp" → valid_prop_name ctx key ≡ some key' → is_no t ≡ true →
        is_no e ≡ false → InMember e (rec h (cons key (cons t (cons e ops))))

  -- a class with a member: "`Cl` Op? (type parameters) member*"
  pub data InClass (e : Rec) : Rec → Type 0 where
    class : {h : Head} {tps m : Rec} {ms : Recs} → OneOf m ms → InMember e m → InClass e (rec h (cons tps ms))

  -- a declaration, the body of a namespace, and an item; as_const is off, and the argument r is as_readonly
  mutual
    pub data InDecl (e : Rec) : Bool → Rec → Type 0 where
      class : {h : Head} {i cl : Rec} {ops : Recs} → h.mark ≡ mark "Cd" → InClass e cl → InDecl e false (rec h (cons i (cons cl ops)))
      function : {h : Head} {i f : Rec} {ops : Recs} → h.mark ≡ mark "Fd" → InFunction e f → InDecl e false (rec h (cons i (cons f ops)))
      -- "Vr: identifier .. without" type, "its init is typed (c off, r on)"
      variable : {h : Head} {ks : Recs} (vh bh : Head) (i t : Rec) (ops more : Recs) → h.mark ≡ mark "Vd" →
          OneOf (rec vh (cons (rec bh (cons i (cons t ops))) (cons e more))) ks → vh.mark ≡ mark "Vr" → bh.mark ≡ mark "Bd" → is_no t ≡ true →
          is_no e ≡ false → InDecl e true (rec h ks)
      namespace : {h : Head} {name b : Rec} {ops : Recs} {r : Bool} → h.mark ≡ mark "Ns" → InBody e r b → InDecl e r (rec h (cons name (cons b ops)))

    pub data InBody (e : Rec) : Bool → Rec → Type 0 where
      block : {h : Head} {ks : Recs} {r : Bool} (i : Rec) → h.mark ≡ mark "Nb" → OneOf i ks → InItem e r i → InBody e r (rec h ks)
      nested : {h : Head} {name b : Rec} {ops : Recs} {r : Bool} → h.mark ≡ mark "Nd" → InBody e r b → InBody e r (rec h (cons name (cons b ops)))

    pub data InItem (e : Rec) : Bool → Rec → Type 0 where
      -- "Fd .. goes if the range of the outermost of Ed, Xd, Fd is in the overload list"
      declaration : {d : Rec} {r : Bool} → (mark_of d ≡ mark "Fd" → listed list (head_of d) ≡ false) → InDecl e r d → InItem e r d
      exported : {h : Head} {d : Rec} {ops : Recs} {r : Bool} → h.mark ≡ mark "Ed" → (mark_of d ≡ mark "Fd" → listed list h ≡ false) →
          InDecl e r d → InItem e r (rec h (cons d ops))
      default_class : {h xh : Head} {i cl : Rec} {ops more : Recs} → h.mark ≡ mark "Xd" → xh.mark ≡ mark "Cx" → InClass e cl →
          InItem e false (rec h (cons (rec xh (cons i (cons cl more))) ops))
      -- "Xe of Id passes. Else .. typed (off, on)"
      default_expr : {h : Head} {ops : Recs} → h.mark ≡ mark "Xe" → (mark_of e ≡ mark "Id" → ⊥) → InItem e true (rec h (cons e ops))
