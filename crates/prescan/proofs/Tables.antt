-- What each declaration enters into a table of names, that there is room for it, and the loop over declarations.
use mathlib.Core.Path.{◌≡◌, refl, sym, ap, ◌∙◌}
use mathlib.Core.List.{List}
use mathlib.Core.Bool.{Bool, true, false, ◌&&◌, ◌||◌}
use Prim.Native.Nat.{ℕ, ◌+◌, ◌*◌, ◌-◌, ◌/◌, ◌<◌, ◌≤◌}
use native.Mathlib.Omega.{arith}
use lib.ListN.{length, get_or, take}
use Rattle.std.proofs.Math.Bool.{or-false, or_assoc}
use Rattle.definition.specs.Tree.{Rec, Recs, nil, cons, head_size, count_at, text_at, body_at, end_of_all, end_at, tree_at}
use Rattle.definition.specs.Grammar.{mark}
use Rattle.definition.specs.Check.{deepest}
use Rattle.definition.specs.Record.{same_text, kids_of, mark_of}
use Rattle.definition.specs.Prescan.{Question, Question.typeof_safe, Question.non_generic_class, Question.array_typed, named, add_declarator, add_declarators, add_item, asked}
use Rattle.definition.proofs.Anywhere.{is_accepted, are_accepted}
use Rattle.definition.proofs.Children.{all_after, end_of_all-more, end_of_all-none, end_after, end_is}
use Rattle.definition.proofs.Kids.{id-text}
use Rattle.records.specs.declared.tree.Record.{Record}
use Rattle.records.specs.declared.tree.Records.{Records}
use Rattle.records.specs.Views.{rec_of, recs_of, ChildrenOf, FirstOf, RestOf}
use Rattle.records.proofs.Accepted.{room}
use Rattle.records.proofs.Records.{recs_none, recs_step}
use Rattle.records.proofs.Views.{accepted, mark_here, text_here, count_here, children_here, children_are, first_here, others_here, rest_behind}
use Rattle.index.specs.declared.Names.{Names}
use Rattle.index.specs.declared.Sets.{Sets}
use Rattle.index.specs.Index.{farthest, Enters, Grown, entries_of, Lower, name_is, bit_of, sets_of, has}
use Rattle.index.proofs.Laws.{hit, miss, enters_none, enters_eq, enters_then, sorted_front, answers-front, answers-nothing, sorted-nothing}
use Rattle.prescan.specs.Decls.{Named}
use Rattle.prescan.specs.Table.{declaration_size, Room, Filled, end_of, RoomFor, FilledWith, Indexed}
use Rattle.prescan.proofs.Laws.{second_child, named_is, named_kids, inner_kid}

-- ---- where records end

-- where some records end
abbrev pub ends : Records → ℕ
ends k = end_of_all (end_at k.levels k.tree.now) k.count k.at

ends_after : (r : Record) → r.at + head_size ≤ end_of r
ends_after r = end_after r.levels r.tree.now r.at (accepted r)

-- the children of a record end where it ends
kids_end : {r : Record} {k : Records} → ChildrenOf r k → ends k ≡ end_of r
kids_end {r} c = rw (c.tree, c.place, c.levels, c.many, sym (count_here r)) (sym (end_is r.levels r.tree.now r.at (accepted r)))

module _ {k : Records} (h : 0 < k.count) where
  first-ends : {x : Record} → FirstOf k x → end_of x ≤ ends k
  first-ends f =
      let a = all_after k.levels k.tree.now (k.count - 1) (end_at k.levels k.tree.now k.at) (k.count - 1) (others_here k h) (omega arith) in
      rw (f.tree, f.place, f.levels) (omega (arith, a, end_of_all-more (end_at k.levels k.tree.now) k.count k.at h))

  rest-ends : {l : Records} → RestOf k l → ends l ≡ ends k
  rest-ends r = rw (r.tree, r.place, r.levels, r.many) (sym (end_of_all-more (end_at k.levels k.tree.now) k.count k.at h))

-- the records behind the first begin where it ends
rest-place : {k l : Records} {x : Record} → FirstOf k x → RestOf k l → l.at ≡ end_of x
rest-place f r = r.place ∙ rw (f.tree, f.place, f.levels)

-- a record ends behind its first child, and behind its second
module _ {r : Record} {k : Records} (c : ChildrenOf r k) (h : 0 < k.count) where
  pub first_ends : {x : Record} → FirstOf k x → end_of x ≤ end_of r
  first_ends f = omega (arith, first-ends h f, kids_end c)

  second_ends : {l : Records} {x : Record} → RestOf k l → 0 < l.count → FirstOf l x → end_of x ≤ end_of r
  second_ends l g f = omega (arith, first-ends g f, rest-ends h l, kids_end c)

-- an Id has a head and a context at least
id-ends : (i : Record) → mark_of (rec_of i) ≡ mark "Id" → i.at + head_size + 4 ≤ end_of i
id-ends i e =
    omega (arith, id-text i.levels i.tree.now i.at (accepted i) (mark_here i ∙ e), end_is i.levels i.tree.now i.at (accepted i), all_after (i.levels - 1) i.tree.now (count_at i.tree.now i.at) (body_at i.tree.now i.at) (count_at i.tree.now i.at) (children_here i) (omega arith))

-- ---- the children of a record as the code has them

kids-there : (r : Record) → (k : Records) × ChildrenOf r k
kids-there r =
    let k : Records = record { tree = r.tree; at = body_at r.tree.now r.at; levels = r.levels - 1; count = count_at r.tree.now r.at; accepted = are_accepted (children_here r) } in
    (k, children_are r k refl refl refl refl)

first-there : (k : Records) → 0 < k.count → (x : Record) × FirstOf k x
first-there k h = (record { tree = k.tree; at = k.at; levels = k.levels; accepted = is_accepted (first_here k h) }, record { tree = refl; place = refl; levels = refl })

rest-there : (k : Records) → 0 < k.count → (l : Records) × RestOf k l
rest-there k h = (
  record { tree = k.tree; at = end_at k.levels k.tree.now k.at; levels = k.levels; count = k.count - 1; accepted = are_accepted (others_here k h) },
  record { tree = refl; place = refl; behind = omega (arith, rest_behind k h); levels = refl; many = refl },
)

-- ---- how much a declaration takes

-- a function or a class r with the name i: its own head, the name, and behind it d, with a child x
named_far : {r i d x : Record} {k l b : Records} → ChildrenOf r k → FirstOf k i → RestOf k l → 0 < l.count → FirstOf l d → ChildrenOf d b → 0 < b.count → FirstOf b x →
    mark_of (rec_of i) ≡ mark "Id" → r.at + declaration_size ≤ end_of r
named_far {i = i} {x = x} c f l g d b h n e =
    omega (arith, c.place, f.place, id-ends i e, rest-place f l, d.place, b.place, n.place, ends_after x, first_ends b h n, second_ends c (omega (arith, l.many)) l g d)

pub named_long : (r : Record) → Named (mark_of (rec_of r)) → {k : Records} → ChildrenOf r k → {i : Record} → FirstOf k i → mark_of (rec_of i) ≡ mark "Id" → r.at + declaration_size ≤ end_of r
named_long r n {k} c f e =
    let m = named_kids r n in
    let l = rest-there k (omega (arith, m, c.many)) in
    let g : 0 < l.0.count = omega (arith, m, c.many, l.1.many) in
    let d = first-there l.0 g in
    let b = kids-there d.0 in
    let h : 0 < b.0.count = omega (arith, b.1.many, inner_kid r n (second_child c m l.1 d.1)) in
    let x = first-there b.0 h in
    named_far {d = d.0} {x = x.0} {l = l.0} {b = b.0} c f l.1 g d.1 b.1 h x.1 e

-- a declarator: its own head, its pattern's, the name, its type and its init
pub declarator_long : {r x i t v : Record} {k l b y : Records} → ChildrenOf r k → FirstOf k x → RestOf k l → 0 < l.count → FirstOf l v →
    ChildrenOf x b → FirstOf b i → RestOf b y → 0 < y.count → FirstOf y t → mark_of (rec_of i) ≡ mark "Id" → r.at + declaration_size ≤ end_of r
declarator_long {i = i} {t = t} {v = v} c f l h g b j y d u e =
    omega (
      arith,
      c.place,
      f.place,
      b.place,
      j.place,
      id-ends i e,
      rest-place j y,
      u.place,
      ends_after t,
      second_ends b (omega (arith, y.many)) y d u,
      rest-place f l,
      g.place,
      ends_after v,
      second_ends c (omega (arith, l.many)) l h g,
    )

-- ---- what is entered

same-tree : {s s' : List ℕ} → s' ≡ s → {a b : List ℕ} {n m : ℕ} {G : Question → List ℕ → Bool} → Enters s' a n b m G → Enters s a n b m G
same-tree t e = rw t at e

module _ (r : Record) {a : Names} (o : RoomFor r a) where
  -- there is room for one more entry
  pub room_free : (0 < a.from) × (a.from + a.count < length a.table.now)
  room_free = (omega (arith, o.few, o.long, o.from, o.to, room (accepted r)), omega (arith, o.few, o.long, o.from, o.to, room (accepted r)))

  pub filled_none : {G : Question → List ℕ → Bool} → ((q : Question) (t : List ℕ) → G q t ≡ false) → FilledWith r a a G
  filled_none none = record { buffer = refl; enters = enters_none o.sorted none; few = omega (arith, o.few, ends_after r); same = refl; from = omega arith; to = omega arith }

  -- the name i in some sets
  pub filled_one : (i : Record) {b : Names} (sets : Sets) {G : Question → List ℕ → Bool} → i.tree ≡ r.tree → mark_of (rec_of i) ≡ mark "Id" →
      Enters i.tree.now (entries_of a) a.count (entries_of b) b.count (λ q t. same_text (text_at i.tree.now i.at) t && has q sets) → Grown a b → r.at + declaration_size ≤ end_of r →
      ((q : Question) (t : List ℕ) → G q t ≡ (named t (rec_of i) && has q sets)) → FilledWith r a b G
  filled_one i sets t e n l h same = record {
    buffer = l.buffer;
    enters = same-tree (ap (λ x. x.now) t) (enters_eq (λ q v. same q v ∙ (ap (λ (x : Bool). x && has q sets) (named_is (rec_of i) e v) ∙ ap (λ (x : List ℕ). same_text x v && has q sets) (sym (text_here i)))) n);
    few = omega (arith, o.few, l.count);
    same = l.same;
    from = l.from;
    to = l.to;
  }

  -- what was entered of a record of the same tree that ends before r
  pub filled_in : (x : Record) {b : Names} {G H : Question → List ℕ → Bool} → x.tree ≡ r.tree → end_of x ≤ end_of r → ((q : Question) (t : List ℕ) → H q t ≡ G q t) → FilledWith x a b G → FilledWith r a b H
  filled_in x t h same f = record { buffer = f.buffer; enters = same-tree (ap (λ x. x.now) t) (enters_eq same f.enters); few = omega (arith, f.few, h); same = f.same; from = f.from; to = f.to }

pub filled_eq : {s : List ℕ} {a b : Names} {end end' : ℕ} {G H : Question → List ℕ → Bool} → end ≤ end' → ((q : Question) (t : List ℕ) → H q t ≡ G q t) → Filled s a b end G → Filled s a b end' H
filled_eq h same f = record { buffer = f.buffer; enters = enters_eq same f.enters; few = omega (arith, f.few); same = f.same; from = f.from; to = f.to }

-- ---- the loop over declarations

-- of records of the tree s up to `end`, of which W says that they add `whole`, k are left: the names of those before are in the table
pub record Filling (W : Question → List ℕ → Recs → Bool) (whole : Recs) (s : List ℕ) (end : ℕ) (a b : Names) (k : Records) : Type 0 where
  pub so_far : Question → List ℕ → Bool
  pub filled : Filled s a b k.at so_far
  pub left : (q : Question) (t : List ℕ) → (so_far q t || W q t (recs_of k)) ≡ W q t whole
  pub end_is : ends k ≡ end
  pub tree : k.tree.now ≡ s
  pub room : Room s b k.at

pub filling_start : (W : Question → List ℕ → Recs → Bool) {r : Record} {a : Names} {k : Records} → ChildrenOf r k → RoomFor r a → Filling W (kids_of (rec_of r)) r.tree.now (end_of r) a a k
filling_start W c o = record {
  so_far = λ q t. false;
  filled = record { buffer = refl; enters = enters_none o.sorted (λ q t. refl); few = omega (arith, o.few, c.behind); same = refl; from = omega arith; to = omega arith };
  left = λ q t. ap (W q t) c.are;
  end_is = kids_end c;
  tree = ap (λ x. x.now) c.tree;
  room = record { sorted = o.sorted; few = omega (arith, o.few, c.behind); long = o.long; short = o.short; from = o.from; to = o.to };
}

module _ {W : Question → List ℕ → Recs → Bool} {whole : Recs} {s : List ℕ} {end : ℕ} {a b : Names} {k : Records} (i : Filling W whole s end a b k) where
  -- where W says f of each record
  pub filling_turn : (f : Question → List ℕ → Rec → Bool) → ((q : Question) (t : List ℕ) (x : Rec) (xs : Recs) → W q t (cons x xs) ≡ (f q t x || W q t xs)) →
      {x : Record} {l : Records} {b' : Names} → (0 < k.count) × FirstOf k x × RestOf k l → FilledWith x b b' (λ q t. f q t (rec_of x)) → Filling W whole s end a b' l
  filling_turn f step {x} {l} n g =
      let z = i.filled in
      let o = i.room in
      let e = same-tree (ap (λ t. t.now) n.1.tree ∙ i.tree) g.enters in
      let p = rest-place n.1 n.2 in
      record {
        so_far = λ q t. i.so_far q t || f q t (rec_of x);
        filled = record { buffer = g.buffer ∙ z.buffer; enters = enters_then z.enters e; few = omega (arith, g.few, p); same = g.same ∙ z.same; from = omega (arith, z.from, g.from); to = omega (arith, z.to, g.to) };
        left = λ q t. or_assoc (i.so_far q t) (f q t (rec_of x)) (W q t (recs_of l)) ∙ (ap (λ (y : Bool). i.so_far q t || y) (sym (step q t (rec_of x) (recs_of l)) ∙ ap (W q t) (sym (recs_step n.0 n.1 n.2))) ∙ i.left q t);
        end_is = rest-ends n.0 n.2 ∙ i.end_is;
        tree = ap (λ t. t.now) n.2.tree ∙ i.tree;
        room = record { sorted = e.sorted; few = omega (arith, g.few, p); long = omega (arith, o.long, g.same); short = o.short; from = omega (arith, o.from, g.from, g.same); to = omega (arith, o.to, g.to, g.same) };
      }

  pub filling_done : ((q : Question) (t : List ℕ) → W q t nil ≡ false) → k.count ≡ 0 → Filled s a b end (λ q t. W q t whole)
  filling_done none h =
      let z = i.filled in
      record {
        buffer = z.buffer;
        enters = enters_eq (λ q t. sym (i.left q t) ∙ (ap (λ (y : Bool). i.so_far q t || y) (ap (W q t) (recs_none k h) ∙ none q t) ∙ or-false (i.so_far q t))) z.enters;
        few = omega (arith, z.few, i.end_is, end_of_all-none (end_at k.levels k.tree.now) k.count k.at (omega arith));
        same = z.same;
        from = z.from;
        to = z.to;
      }

-- the questions about all declarators, and about all items
abbrev pub Vars : Question → List ℕ → Recs → Bool
Vars q t ks = add_declarators q t ks

pub vars_step : (q : Question) (t : List ℕ) (r : Rec) (rs : Recs) → Vars q t (cons r rs) ≡ (add_declarator q t r || Vars q t rs)
unfolding add_declarators
vars_step q t r rs = refl

pub vars_none : (q : Question) (t : List ℕ) → Vars q t nil ≡ false
unfolding add_declarators
vars_none q t = refl

abbrev pub Items : Question → List ℕ → Recs → Bool
Items q t ks = asked q ks t

pub items_step : (q : Question) (t : List ℕ) (r : Rec) (rs : Recs) → Items q t (cons r rs) ≡ (add_item q t r || Items q t rs)
unfolding asked
items_step q t r rs = refl

pub items_none : (q : Question) (t : List ℕ) → Items q t nil ≡ false
unfolding asked
items_none q t = refl

-- an empty table
pub room_start : {s : List ℕ} (a : Names) → length s ≤ declaration_size * (length a.table.now / 2) → length s < farthest → a.from ≡ length a.table.now / 2 → a.count ≡ 0 → Room s a 0
room_start {s} a l h f n =
    record { sorted = rw n (sorted-nothing s (entries_of a)); few = omega arith; long = l; short = h; from = omega arith; to = omega arith }

-- what is filled from nothing is the index, and lies in the table
pub indexed : {s : List ℕ} {a b : Names} {end : ℕ} → a.count ≡ 0 → Filled s a b end (λ q t. Items q t (kids_of (tree_at deepest s 0))) → Indexed s (take b.count (entries_of b))
indexed {s} {a} z f = record {
  sorted = sorted_front f.enters.sorted;
  answers = answers-front f.enters.sorted (f.enters.step (λ q t. false) (rw z (answers-nothing s (entries_of a))));
}

-- ---- a question

pub has-sets_of : (e : ℕ) (q : Question) → has q (sets_of e) ≡ bit_of q e
has-sets_of e typeof_safe = refl
has-sets_of e non_generic_class = refl
has-sets_of e array_typed = refl

pub has-nothing : {x : Sets} → (x.typeof_safe ≡ false) → (x.non_generic_class ≡ false) → (x.array_typed ≡ false) → (q : Question) → has q x ≡ false
has-nothing a b c typeof_safe = a
has-nothing a b c non_generic_class = b
has-nothing a b c array_typed = c

-- what was found of the name t in the index
module _ {s i : List ℕ} (x : Indexed s i) {t : List ℕ} {p : ℕ} (w : Lower s i (length i) t p) (q : Question) where
  pub look_hit : name_is s i (length i) p t ≡ true → bit_of q (get_or i p 0) ≡ asked q (kids_of (tree_at deepest s 0)) t
  look_hit e = sym (hit w (λ r v. asked r (kids_of (tree_at deepest s 0)) v) x.answers e q)

  pub look-miss : name_is s i (length i) p t ≡ false → asked q (kids_of (tree_at deepest s 0)) t ≡ false
  look-miss e = miss w x.sorted (λ r v. asked r (kids_of (tree_at deepest s 0)) v) x.answers e q
