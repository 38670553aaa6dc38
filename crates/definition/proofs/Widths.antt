-- Every output of an accepted tree has fields, counts and texts that fit a record, but for reading 20: a text is too long only if a Kv of the tree
-- has a Ki of more than 65,531 bytes.
use mathlib.Core.Path.{◌≡◌, refl, ap}
use mathlib.Core.List.{List}
use mathlib.Core.Bool.{true}
use Prim.Native.Nat.{ℕ, ◌≤◌, ◌<◌}
use native.Mathlib.Omega.{arith}
use lib.Dec.{ltb}
use lib.ListN.{length}
use borrow.Author.Tests.{ltb-true, lt-ltb}
use Rattle.definition.specs.Tree.{Head, Rec, Recs, rec, nil, cons, count, encode, tree_at, Bytes, FitsHead, Fits, FitsAll}
use Rattle.definition.specs.Check.{fine, longest_tree, deepest, check_tree}
use Rattle.definition.specs.Record.{text_of, kids_of, kid}
use Rattle.definition.specs.Prescan.{PrescannedModuleIds, prescan_module_ids}
use Rattle.definition.specs.Typing.{expr_to_ts_type}
use Rattle.definition.specs.Transform.{transform, texts_fit, all_texts_fit}
use Rattle.definition.specs.Widths.{KeysUpTo}
use Rattle.definition.proofs.Accepted.{accepted-tree}
use Rattle.definition.proofs.Converse.{read-accepted}
use Rattle.definition.proofs.There.{nothing-typed}
use Rattle.definition.proofs.Fit.{Sound, Fit, FitAll, Keys, AllKeys}
use Rattle.definition.proofs.FitTyping.{expr_makes}
use Rattle.definition.proofs.FitItems.{transform_by-fits}
use Rattle.definition.proofs.Tests.{and-true}

-- ---- what is read

head_sound : (x : ℕ) (h : Head) (n : ℕ) → FitsHead h n → Sound x h n
head_sound x h n f = record {
  mark = f.mark;
  flags = f.flags;
  start = f.start;
  end = f.end;
  text = omega (arith, f.text);
  bytes = f.bytes;
  count = f.count;
}

mutual
  fits-fit : (r : Rec) (x : ℕ) → Fits r → Fit x r
  fits-fit (rec h ks) x f = (head_sound x h (count ks) f.0, all_fit ks x f.1)

  all_fit : (rs : Recs) (x : ℕ) → FitsAll rs → FitAll x rs
  all_fit nil x f = tt
  all_fit (cons r rs) x f = (fits-fit r x f.0, all_fit rs x f.1)

text-short : (r : Rec) → Fits r → length (text_of r) ≤ 65535
text-short (rec h ks) f = omega (arith, f.0.text)

first_short : (ks : Recs) → FitsAll ks → length (text_of (kid 0 ks)) ≤ 65535
first_short nil f = omega arith
first_short (cons r rs) f = text-short r f.0

-- a text that stands in a head is never longer than 65,535 bytes
mutual
  fits_keys : (r : Rec) → Fits r → Keys 4 r
  fits_keys (rec h ks) f = (λ e k. first_short ks f.1, all_keys ks f.1)

  all_keys : (rs : Recs) → FitsAll rs → AllKeys 4 rs
  all_keys nil f = tt
  all_keys (cons r rs) f = (fits_keys r f.0, all_keys rs f.1)

-- ---- what is made

head_fits : (x : ℕ) (h : Head) (n : ℕ) → Sound x h n → length h.text < 65536 → FitsHead h n
head_fits x h n g l = record { mark = g.mark; flags = g.flags; start = g.start; end = g.end; text = l; bytes = g.bytes; count = g.count }

mutual
  fit-fits : (r : Rec) → Fit 0 r → Fits r
  fit-fits (rec h ks) g = (head_fits 0 h (count ks) g.0 g.0.text, fit_all ks g.1)

  fit_all : (rs : Recs) → FitAll 0 rs → FitsAll rs
  fit_all nil g = tt
  fit_all (cons r rs) g = (fit-fits r g.0, fit_all rs g.1)

mutual
  unfolding texts_fit

  texts-fits : (r : Rec) (x : ℕ) → Fit x r → texts_fit r ≡ true → Fits r
  texts-fits (rec h ks) x g t =
      let u = and-true (ltb (length h.text) 65536) (all_texts_fit ks) t in
      (head_fits x h (count ks) g.0 (ltb-true _ _ u.0), all-texts ks x g.1 u.1)

  all-texts : (rs : Recs) (x : ℕ) → FitAll x rs → all_texts_fit rs ≡ true → FitsAll rs
  all-texts nil x g t = tt
  all-texts (cons r rs) x g t = let u = and-true (texts_fit r) (all_texts_fit rs) t in (texts-fits r x g.0 u.0, all-texts rs x g.1 u.1)

mutual
  unfolding texts_fit

  pub fits-texts : (r : Rec) → Fits r → texts_fit r ≡ true
  fits-texts (rec h ks) f = rw (lt-ltb (length h.text) 65536 f.0.text) (all_fits_texts ks f.1)

  all_fits_texts : (rs : Recs) → FitsAll rs → all_texts_fit rs ≡ true
  all_fits_texts nil f = refl
  all_fits_texts (cons r rs) f = rw (fits-texts r f.0) (all_fits_texts rs f.1)

-- ---- outputs

transform-fits : (x : ℕ) (list : List ℕ) (ctx : ℕ) (r : Rec) → Fit x r → Keys x r → length (encode r) ≤ longest_tree → Fit x (transform list ctx r).0
unfolding transform
transform-fits x list ctx r g q l =
    let ids : PrescannedModuleIds = prescan_module_ids (kids_of r) in
    transform_by-fits x (expr_to_ts_type ids ctx) (λ e a b n g q l. expr_makes x ids ctx e a b n g q l) (λ a b n. ap (λ o. o.0) (nothing-typed ids ctx a b n)) list ctx r g q l

module _ (tree list : List ℕ) (ctx e : ℕ) (bytes : Bytes tree) (accepted : check_tree tree list ≡ fine e) where
  abbrev made : Rec
  made = (transform list ctx (tree_at deepest tree 0)).0

  short : length (encode (tree_at deepest tree 0)) ≤ longest_tree
  short = rw (read-accepted tree list e bytes accepted).same (accepted-tree tree list e accepted).0.short

  fits_read : Fits (tree_at deepest tree 0)
  fits_read = (read-accepted tree list e bytes accepted).fits

  -- an output whose texts fit fits
  pub output-fits : texts_fit made ≡ true → Fits made
  output-fits t =
      texts-fits made 4
      (transform-fits 4 list ctx (tree_at deepest tree 0) (fits-fit (tree_at deepest tree 0) 4 fits_read) (fits_keys (tree_at deepest tree 0) fits_read) short) t

  -- and its texts fit, but for reading 20
  pub output_fits_but : KeysUpTo 65531 (tree_at deepest tree 0) → Fits made
  output_fits_but q = fit-fits made (transform-fits 0 list ctx (tree_at deepest tree 0) (fits-fit (tree_at deepest tree 0) 0 fits_read) q short)
