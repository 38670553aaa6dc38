-- A tree whose fields fit is read back from its bytes once these are accepted: its depth need not be known, the check bounds it.
use mathlib.Core.Path.{◌≡◌}
use mathlib.Core.List.{List}
use Prim.Native.Nat.{ℕ, zero, suc}
use native.Mathlib.Omega.{arith}
use Rattle.definition.specs.Tree.{Rec, Recs, rec, nil, cons, count, encode, encodes, mark_at, count_at, body_at, end_at, tree_at, Fits, FitsAll}
use Rattle.definition.specs.Grammar.{Part, after, root}
use Rattle.definition.specs.Check.{fine, inside, check_all, check_at, check_tree, deepest}
use Rattle.definition.proofs.Places.{At, at_all, at_left, at_right}
use Rattle.definition.proofs.Round.{Reads, ReadsAll, reads-nil, reads-cons, reads-rec, count-is, rest_at}
use Rattle.definition.proofs.Accepted.{accepted, accepted-left, first-accepted, accepted-tree}

mutual
  unfolding encode

  accepted-reads : (r : Rec) (d : ℕ) (s : List ℕ) (at : ℕ) (ps : List Part) (e : ℕ) → check_at d s at ps ≡ fine e → Fits r → At s at (encode r) → Reads d s at r
  accepted-reads (rec h ks) zero s at ps e c f a = absurd (let z = accepted-left zero s at ps e c in omega (arith, z))
  accepted-reads (rec h ks) (suc d) s at ps e c f a =
      let n≡ : count_at s at ≡ count ks = count-is s at h (count ks) (encodes ks) f.0 a in
      reads-rec h ks d s at f.0 a
      (all_accepted_read ks d s (body_at s at) (inside ps (mark_at s at)) e (rw n≡ at (accepted d s at ps e c).all) f.1 (rest_at s at h (count ks) (encodes ks) f.0 a))

  all_accepted_read : (rs : Recs) (d : ℕ) (s : List ℕ) (at : ℕ) (ps : List Part) (e : ℕ) → check_all (check_at d s) s (count rs) at ps ≡ fine e → FitsAll rs →
      At s at (encodes rs) → ReadsAll d s at rs
  all_accepted_read nil d s at ps e c f a = reads-nil d s at
  all_accepted_read (cons r rs) d s at ps e c f a =
      let u = first-accepted d s (count rs) at ps e c in
      let one : Reads d s at r = accepted-reads r d s at ps (end_at d s at) u.0 f.0 (at_left s at (encode r) (encodes rs) a) in
      reads-cons r rs d s at one
      (all_accepted_read rs d s (end_at d s at) (after ps (mark_at s at)) e u.1 f.1 (rw one.1 (at_right s at (encode r) (encodes rs) a)))

pub reread : (r : Rec) (list : List ℕ) (e : ℕ) → Fits r → check_tree (encode r) list ≡ fine e → tree_at deepest (encode r) 0 ≡ r
reread r list e f c =
    let a = accepted-tree (encode r) list e c in
    (accepted-reads r deepest (encode r) 0 root _ a.0.root_fine f (at_all (encode r))).0
