-- A tree after the grammar, whatever its bytes: each record stands in a slot that allows its mark, and has as many children as its row asks.
use Rattle.std.specs.Prelude.{◌≡◌, List, true, ◌≤◌}
use Rattle.definition.specs.Tree.{Rec, Recs, rec, nil, cons, count}
use Rattle.definition.specs.Grammar.{Part, allowed, after, least}
use Rattle.definition.specs.Check.{slots_of, inside}
use Rattle.definition.specs.Record.{mark_of}

-- a record at the slots ps; records one after the other, the first at the slots ps
unfoldable mutual
  pub Formed : List Part → Rec → Type 0
  Formed ps (rec h ks) = (allowed ps h.mark ≡ true) × (least (slots_of h.mark) ≤ count ks) × FormedAll (inside ps h.mark) ks

  pub FormedAll : List Part → Recs → Type 0
  FormedAll ps nil = Unit {0}
  FormedAll ps (cons r rs) = Formed ps r × FormedAll (after ps (mark_of r)) rs
