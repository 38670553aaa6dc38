-- What stands at a place of the table of slots, and what the code's search through it says of the slots.
use mathlib.Core.Path.{◌≡◌, refl, sym, ◌∙◌}
use mathlib.Core.List.{List, [], ◌∷◌}
use mathlib.Core.Bool.{Bool, true, false, cond}
use Prim.Native.Nat.{ℕ, ◌+◌, ◌-◌, ◌<◌, ◌≤◌}
use native.Mathlib.Numerals.{add-one}
use native.Mathlib.Omega.{arith}
use borrow.Author.Tests.{eq-eqb, ne_eqb, lt-ltb, le-ltb}
use lib.ListN.{length, get_or, drop_of_length-le}
use lib.Seq.{drop-cons}
use Rattle.std.specs.declared.option.Option.{Option}
use Rattle.std.specs.declared.option.Option.TheVariants.{Some, None}
use Rattle.std.specs.Bool.{then_some}
use Rattle.std.specs.Option.{MatchOption, ok_or}
use Rattle.std.specs.declared.result.Result.TheVariants.{Ok, Err}
use Rattle.definition.specs.Grammar.{Part, Part.one, Part.many, Part.property, allowed, after, member, marks, is_property, root, undestructured}
use Rattle.grammar.specs.Printed.{sets_table, parts_table}
use Rattle.grammar.specs.Slots.{set_at, parts_from, decode, decode_one, entry_parts}
use Rattle.grammar.specs.declared.Refusal.{Refusal}
use Rattle.grammar.specs.declared.tables.Entry.{Entry}
use Rattle.grammar.specs.declared.tables.Entry.TheVariants.{End, One, Many, Property}
use Rattle.grammar.proofs.Printed.{places, property_set, undestructured_at, root_at}

pub parts-long : length parts_table ≡ places
unfolding parts_table
parts-long = refl

-- the places that the code names: PROPERTY_SET, UNDESTRUCTURED and ROOT
property-set : (m : ℕ) → allowed (property ∷ []) m ≡ member m (marks (set_at property_set))
unfolding allowed sets_table
property-set m = refl

pub undestructured-is : parts_from undestructured_at ≡ undestructured
unfolding parts_from decode parts_table sets_table
undestructured-is = refl

pub root_is : parts_from root_at ≡ root
unfolding parts_from decode parts_table sets_table
root_is = refl

-- past the table there are no slots
pub parts_none : (k : ℕ) → places ≤ k → parts_from k ≡ []
unfolding parts_from decode
parts_none k h = rw (drop_of_length-le parts_table {i = k} (omega (arith, parts-long)))

-- at the place k, where the entry p stands
module _ (k p : ℕ) (h : k < places) (q : p ≡ get_or parts_table k 0) where
  parts_first : parts_from k ≡ decode_one p (parts_from (k + 1))
  unfolding parts_from decode
  parts_first = rw (q, add-one k, drop-cons parts_table k 0 (omega (arith, parts-long)))

  -- the end of a list
  pub parts-end : p ≡ 0 → parts_from k ≡ []
  parts-end e = parts_first ∙ rw (eq-eqb p 0 e)

  module _ (n : p ≡ 0 → ⊥) where
    -- one child
    pub parts-one : p < 65 → parts_from k ≡ one (set_at (p - 1)) ∷ parts_from (k + 1)
    parts-one l = parts_first ∙ rw (ne_eqb p 0 n, lt-ltb p 65 l)

    module _ (l : 65 ≤ p) where
      -- any number of children
      pub parts-many : p < 128 → parts_from k ≡ many (set_at (p - 65)) ∷ parts_from (k + 1)
      parts-many u = parts_first ∙ rw (ne_eqb p 0 n, le-ltb p 65 l, lt-ltb p 128 u)

      -- the one child of a Pp
      pub parts-property : 128 ≤ p → parts_from k ≡ property ∷ parts_from (k + 1)
      parts-property u = parts_first ∙ rw (ne_eqb p 0 n, le-ltb p 65 l, le-ltb p 128 u)

-- ---- what the slots ps allow a record with the mark m, and what comes after it

-- the code's answer
abbrev pub Takes : List Part → ℕ → Option ℕ → Type 0
Takes ps m o = MatchOption o (allowed ps m ≡ false) (λ next. (allowed ps m ≡ true) × (parts_from next ≡ after ps m))

module _ (ps : List Part) (m : ℕ) where
  pub takes-none : ps ≡ [] → Takes ps m None
  unfolding allowed
  takes-none e = rw e

  pub takes-one : (k s : ℕ) → ps ≡ one (set_at s) ∷ parts_from k → (b : Bool) → b ≡ member m (marks (set_at s)) → Takes ps m (then_some b k)
  unfolding allowed after
  takes-one k s e true q = rw e (sym q, refl)
  takes-one k s e false q = rw e (sym q)

  pub takes-property : (k : ℕ) → ps ≡ property ∷ parts_from k → (b : Bool) → b ≡ member m (marks (set_at property_set)) → Takes ps m (then_some b k)
  unfolding allowed after
  takes-property k e true q = rw e (property-set m ∙ sym q, refl)
  takes-property k e false q = rw e (property-set m ∙ sym q)

  module _ (k s : ℕ) (e : ps ≡ many (set_at s) ∷ parts_from (k + 1)) where
    pub takes-many : parts_from k ≡ ps → true ≡ member m (marks (set_at s)) → Takes ps m (Some k)
    unfolding allowed after
    takes-many f q = rw (f, e, ← q) (refl, refl)

    pub passes-allowed : false ≡ member m (marks (set_at s)) → allowed ps m ≡ allowed (parts_from (k + 1)) m
    unfolding allowed
    passes-allowed q = rw (e, ← q)

    pub passes-after : false ≡ member m (marks (set_at s)) → after ps m ≡ after (parts_from (k + 1)) m
    unfolding after
    passes-after q = rw (e, ← q)

-- the same with a refusal for a record that has no place
module _ (ps : List Part) (m : ℕ) (e : Refusal) where
  pub is-misplaced : (o : Option ℕ) → Takes ps m o → {e' : Refusal} → ok_or o e ≡ Err e' → (e' ≡ e) × (allowed ps m ≡ false)
  is-misplaced None t q = (cc, t)
  is-misplaced (Some n) t q = absurd (cc)

  pub is_placed : (o : Option ℕ) → Takes ps m o → {next : ℕ} → ok_or o e ≡ Ok next → (allowed ps m ≡ true) × (parts_from next ≡ after ps m)
  is_placed None t q = absurd (cc)
  is_placed (Some n) t {next} q = let z : n ≡ next = cc in rw (← z) t

-- ---- what stands inside a record with the mark m

-- a mark other than Ag has the same slots at a Pp and elsewhere
pub either_way : (b : Bool) (ps : List Part) → ps ≡ cond b ps ps
either_way true ps = refl
either_way false ps = refl

pub at-property : {ps qs : List Part} → ps ≡ property ∷ qs → is_property ps ≡ true
unfolding is_property
at-property e = rw e

pub at_no_property : (x : Entry) → (x ≡ Property → ⊥) → {ps : List Part} (qs : List Part) → ps ≡ entry_parts x qs → is_property ps ≡ false
unfolding is_property
at_no_property End n qs e = rw e
at_no_property (One k) n qs e = rw e
at_no_property (Many k) n qs e = rw e
at_no_property Property n qs e = absurd (n refl)
