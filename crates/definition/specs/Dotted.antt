-- Dotted namespaces, read in another way: something else in place of each Nd of a module. Of expressions, types and members nothing is looked at.
use Rattle.std.specs.Prelude.{cond, eqb}
use Rattle.definition.specs.Tree.{Head, Rec, Recs, rec, nil, cons}
use Rattle.definition.specs.Grammar.{mark}
use Rattle.definition.specs.Record.{head_of, kids_of, kid}

-- f gives what stands in place of an Nd, from its head and its children, in which that has been done
module _ (f : Head → Recs → Rec) where
  unfoldable mutual
    -- the items of a Mo or an Nb, and one of them
    pub replaced_items : Recs → Recs
    replaced_items nil = nil
    replaced_items (cons r rs) = cons (replaced_item r) (replaced_items rs)

    pub replaced_item : Rec → Rec
    replaced_item (rec h ks) =
        cond (eqb h.mark (mark "Ns")) (rec h (replaced_parts ks)) (cond (eqb h.mark (mark "Ed")) (rec h (replaced_exported ks)) (rec h ks))

    -- the children of an Ed: a declaration, then Ops
    pub replaced_exported : Recs → Recs
    replaced_exported nil = nil
    replaced_exported (cons d ops) = cons (replaced_decl d) ops

    pub replaced_decl : Rec → Rec
    replaced_decl (rec h ks) = cond (eqb h.mark (mark "Ns")) (rec h (replaced_parts ks)) (rec h ks)

    -- the children of an Ns or an Nd: its name, its body, Ops
    pub replaced_parts : Recs → Recs
    replaced_parts nil = nil
    replaced_parts (cons name rs) = cons name (replaced_first rs)

    pub replaced_first : Recs → Recs
    replaced_first nil = nil
    replaced_first (cons b ops) = cons (replaced_body b) ops

    pub replaced_body : Rec → Rec
    replaced_body (rec h ks) =
        cond (eqb h.mark (mark "Nb")) (rec h (replaced_items ks)) (cond (eqb h.mark (mark "Nd")) (f h (replaced_parts ks)) (rec h ks))

  -- a module
  abbrev pub replaced : Rec → Rec
  replaced r = rec (head_of r) (replaced_items (kids_of r))

-- as the Rust has it: "Nd is replaced by its innermost Nb"
abbrev pub innermost : Head → Recs → Rec
innermost h ks = kid 1 ks

abbrev pub without_chains : Rec → Rec
without_chains r = replaced innermost r
