-- The converse of the round trip: the bytes of an accepted record are `encode` of the tree that is read there, and that tree's fields fit.
use mathlib.Core.Path.{◌≡◌, refl, ap}
use mathlib.Core.List.{List, ◌++◌}
use Prim.Native.Nat.{ℕ, zero, suc, ◌+◌, ◌-◌, ◌<◌, ◌≤◌}
use native.Mathlib.Omega.{arith}
use lib.ListN.{length, take, drop, length-append, get_or-eq_default}
use lib.Seq.{get_or-take, get_or-drop}
use mathlib.Core.Logic.{⊎_elim}
use Rattle.definition.specs.Tree.{flag_bytes, flags_place, flags_size, start_place, end_place, length_place, count_place, Rec, Recs, count, depth, depths, head_size, le2, le4, head_bytes, encode, encodes, mark_at, flags_at, start_at, last_at, length_at, count_at, text_at, body_at, head_at, read_all, end_at, tree_at, Bytes, FitsHead, Fits, FitsAll}
use Rattle.definition.specs.Grammar.{Part, after, root}
use Rattle.definition.specs.Check.{Checked.fine, check_all, check_at, check_tree, inside, deepest}
use Rattle.definition.proofs.Places.{At, at_none, at_join, at_part, part_at, part_length, at-whole, at-le2, at-le4, at-flag_bytes, u16_small, flags-small, length-small, count_small, u32_small, below_or_not}
use Rattle.definition.proofs.Round.{length-head_bytes}
use Rattle.definition.proofs.Accepted.{accepted, accepted-left, check_lies, first-accepted, accepted-tree}

pub count_read_all : (read : ℕ → Rec) (end : ℕ → ℕ) (n at : ℕ) → count (read_all read end n at) ≡ n
unfolding read_all
count_read_all read end zero at = refl
count_read_all read end (suc n) at = ap suc (count_read_all read end n (end at))

-- ---- one head

module _ (s : List ℕ) (bytes : Bytes s) (at : ℕ) (room : at + head_size ≤ length s) (fits : body_at s at ≤ length s) where
  text-length : length (text_at s at) ≡ length_at s at
  text-length = part_length s (at + head_size) (length_at s at) fits

  -- the fields one after the other, each where the one before ends
  at_count : At s (at + count_place) (le2 (count_at s at))
  at_count = at-le2 s (at + count_place) (omega arith) bytes

  at_length : At s (at + length_place) (le2 (length_at s at) ++ le2 (count_at s at))
  at_length =
      let e : at + length_place + 2 ≡ at + count_place = omega arith in
      at_join s (at + length_place) (le2 (length_at s at)) (le2 (count_at s at)) (at-le2 s (at + length_place) (omega arith) bytes) (rw e at_count)

  at-end : At s (at + end_place) (le4 (last_at s at) ++ (le2 (length_at s at) ++ le2 (count_at s at)))
  at-end =
      let e : at + end_place + 4 ≡ at + length_place = omega arith in
      at_join s (at + end_place) (le4 (last_at s at)) (le2 (length_at s at) ++ le2 (count_at s at)) (at-le4 s (at + end_place) (omega arith) bytes) (rw e at_length)

  at-start : At s (at + start_place) (le4 (start_at s at) ++ (le4 (last_at s at) ++ (le2 (length_at s at) ++ le2 (count_at s at))))
  at-start =
      let e : at + start_place + 4 ≡ at + end_place = omega arith in
      at_join s (at + start_place) (le4 (start_at s at)) (le4 (last_at s at) ++ (le2 (length_at s at) ++ le2 (count_at s at))) (at-le4 s (at + start_place) (omega arith) bytes) (rw e at-end)

  at-flags : At s (at + flags_place) (flag_bytes (flags_at s at) ++ (le4 (start_at s at) ++ (le4 (last_at s at) ++ (le2 (length_at s at) ++ le2 (count_at s at)))))
  at-flags =
      let e : at + flags_place + flags_size ≡ at + start_place = omega arith in
      at_join s (at + flags_place) (flag_bytes (flags_at s at)) (le4 (start_at s at) ++ (le4 (last_at s at) ++ (le2 (length_at s at) ++ le2 (count_at s at)))) (at-flag_bytes s at (omega arith) bytes) (rw e at-start)

  at_head : At s at (head_bytes (head_at s at) (count_at s at))
  unfolding head_bytes head_at
  at_head =
      rw text-length
      (at_join s at (le2 (mark_at s at)) (flag_bytes (flags_at s at) ++ (le4 (start_at s at) ++ (le4 (last_at s at) ++ (le2 (length_at s at) ++ le2 (count_at s at))))) (at-le2 s at (omega arith) bytes) at-flags)

  text-bytes : Bytes (text_at s at)
  unfolding Bytes
  text-bytes i = ⊎_elim
      (λ (l : i < length_at s at). rw (get_or-take (length_at s at) (drop (at + head_size) s) i 0 l, get_or-drop (at + head_size) s i 0) (bytes (at + head_size + i)))
      (λ (l : length_at s at ≤ i). rw (get_or-eq_default (text_at s at) 0 {n = i} (omega (arith, text-length))) (omega arith))
      (below_or_not i (length_at s at))

  head_fits : FitsHead (head_at s at) (count_at s at)
  unfolding head_at Bytes
  head_fits = record {
    mark = u16_small s at bytes;
    flags = flags-small s at bytes;
    start = u32_small s (at + start_place) bytes;
    end = u32_small s (at + end_place) bytes;
    text = rw text-length (length-small s at bytes);
    bytes = text-bytes;
    count = count_small s at bytes;
  }

-- ---- a record with its children

-- what is read stands there, ends where it is said to, fits, and is not too deep
pub record Stands (s : List ℕ) (levels at e : ℕ) (r : Rec) : Type 0 where
  pub there : At s at (encode r)
  pub ends : e ≡ at + length (encode r)
  pub fits : Fits r
  pub depth : depth r ≤ levels

record StandAll (s : List ℕ) (levels at e : ℕ) (rs : Recs) : Type 0 where
  pub there : At s at (encodes rs)
  pub ends : e ≡ at + length (encodes rs)
  pub fits : FitsAll rs
  pub depth : depths rs ≤ levels

module _ (s : List ℕ) (bytes : Bytes s) where
  all_stand : (levels : ℕ) → ((p : ℕ) (ps : List Part) (e : ℕ) → check_at levels s p ps ≡ fine e → Stands s levels p e (tree_at levels s p)) →
      (n p : ℕ) (ps : List Part) (e : ℕ) → p ≤ length s → check_all (check_at levels s) s n p ps ≡ fine e →
      StandAll s levels p e (read_all (tree_at levels s) (end_at levels s) n p)
  unfolding check_all read_all encodes depths
  all_stand levels good zero p ps e h f = let z : p ≡ e = cc in record { there = at_none s p h; ends = omega arith; fits = tt; depth = omega arith }
  all_stand levels good (suc n) p ps e h f =
      let u = first-accepted levels s n p ps e f in
      let one = good p ps (end_at levels s p) u.0 in
      let l = check_lies levels s p ps (end_at levels s p) u.0 in
      let more = all_stand levels good n (end_at levels s p) (after ps (mark_at s p)) e l.inside u.1 in
      let r : Rec = tree_at levels s p in
      let rs : Recs = read_all (tree_at levels s) (end_at levels s) n (end_at levels s p) in
      let n+ : length (encode r ++ encodes rs) ≡ length (encode r) + length (encodes rs) = length-append (encode r) (encodes rs) in
      record {
        there = at_join s p (encode r) (encodes rs) one.there (rw (← one.ends) more.there);
        ends = omega (arith, one.ends, more.ends);
        fits = (one.fits, more.fits);
        depth = omega (arith, one.depth, more.depth);
      }

  pub check_stands : (levels at : ℕ) (ps : List Part) (e : ℕ) → check_at levels s at ps ≡ fine e → Stands s levels at e (tree_at levels s at)
  unfolding tree_at encode depth head_at
  check_stands zero at ps e f = absurd (let z = accepted-left zero s at ps e f in omega (arith, z))
  check_stands (suc levels) at ps e f =
      let a = accepted levels s at ps e f in
      let o = a.itself in
      let ks : Recs = read_all (tree_at levels s) (end_at levels s) (count_at s at) (body_at s at) in
      let all = all_stand levels (λ p rs x. check_stands levels p rs x) (count_at s at) (body_at s at) (inside ps (mark_at s at)) e o.fits a.all in
      let n≡ : count ks ≡ count_at s at = count_read_all (tree_at levels s) (end_at levels s) (count_at s at) (body_at s at) in
      let t≡ : length (text_at s at) ≡ length_at s at = text-length s bytes at o.room o.fits in
      let hb : List ℕ = head_bytes (head_at s at) (count_at s at) in
      let l1 : length (hb ++ (text_at s at ++ encodes ks)) ≡ head_size + (length_at s at + length (encodes ks)) =
      simp (length-append, length-head_bytes, t≡) in
      let body : At s (at + head_size) (text_at s at ++ encodes ks) =
      at_join s (at + head_size) (text_at s at) (encodes ks) (part_at s (at + head_size) (length_at s at) o.fits) (rw t≡ all.there) in
      record {
        there = rw n≡ (at_join s at hb (text_at s at ++ encodes ks) (at_head s bytes at o.room o.fits) (rw length-head_bytes body));
        ends = rw n≡ (omega (arith, all.ends, l1));
        fits = (rw n≡ (head_fits s bytes at o.room o.fits), all.fits);
        depth = omega (arith, all.depth);
      }

  -- the part of the tree that an accepted record fills is its encoding
  pub encode-tree_at : (levels at : ℕ) (ps : List Part) (e : ℕ) → check_at levels s at ps ≡ fine e → take (e - at) (drop at s) ≡ encode (tree_at levels s at)
  encode-tree_at levels at ps e f =
      let t = check_stands levels at ps e f in
      let n : e - at ≡ length (encode (tree_at levels s at)) = omega (arith, t.ends) in
      rw n (at_part s at (encode (tree_at levels s at)) t.there)

-- the bytes of an accepted tree are the encoding of what is read, which fits and is at most 64 deep
pub record Read (tree : List ℕ) : Type 0 where
  pub same : encode (tree_at deepest tree 0) ≡ tree
  pub fits : Fits (tree_at deepest tree 0)
  pub depth : depth (tree_at deepest tree 0) ≤ deepest

pub read-accepted : (tree list : List ℕ) (e : ℕ) → Bytes tree → check_tree tree list ≡ fine e → Read tree
read-accepted tree list e bytes f =
    let a = accepted-tree tree list e f in
    let t = check_stands tree bytes deepest 0 root (length tree) a.0.root_fine in
    record {
      same = at-whole tree (encode (tree_at deepest tree 0)) t.there (omega (arith, t.ends));
      fits = t.fits;
      depth = t.depth;
    }
