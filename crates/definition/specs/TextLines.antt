-- Request §3: "Write the text of any accepted tree, with two spaces of indent per Ns and one item to a line." What a line is of, found by walks over
-- all records of a tree; the line feeds of a text, and the bytes that are written as they stand.
use Rattle.std.specs.Prelude.{ℕ, suc, ◌+◌, ◌-◌, List, [], ◌∷◌, ◌++◌, Bool, cond, not, ◌&&◌, ◌||◌, false, drop, eqb}
use Rattle.definition.specs.Tree.{Head, Rec, Recs, rec, nil, cons}
use Rattle.definition.specs.Grammar.{mark}
use Rattle.definition.specs.Record.{text, is, among}
use Rattle.definition.specs.Text.{Token, token, own, outside, size_of, body_of, tokens, Line}

-- ---- items and blocks

-- an item where it stands: the number of Ns records that hold it, and its offset
pub record ItemAt : Type 0 where
  pub itself : Rec
  pub depth : ℕ
  pub at : ℕ

-- items are children of a Mo or an Nb. "Every item but an `St` is one line"; the Ops behind items are none
abbrev pub lists_items : ℕ → Bool
lists_items m = eqb m (mark "Mo") || eqb m (mark "Nb")

abbrev pub is_item : Bool → ℕ → Bool
is_item listed m = listed && not (eqb m (mark "St") || eqb m (mark "Op"))

-- the number of Ns records that hold the children of a record that d of them hold
abbrev pub depth_in : ℕ → ℕ → ℕ
depth_in d m = cond (eqb m (mark "Ns")) (suc d) d

-- the items among all records of a tree, in preorder; d Ns records hold the tree, and `listed` says whether it is the child of a Mo or an Nb
unfoldable mutual
  pub items : Rec → Bool → ℕ → ℕ → List ItemAt
  items (rec h ks) listed d at =
      cond (is_item listed h.mark) (record { itself = rec h ks; depth = d; at = at } ∷ []) [] ++
      all_items ks (lists_items h.mark) (depth_in d h.mark) (body_of at h)

  pub all_items : Recs → Bool → ℕ → ℕ → List ItemAt
  all_items nil listed d at = []
  all_items (cons r rs) listed d at = items r listed d at ++ all_items rs listed d (at + size_of r)

unfoldable pub items_of : Rec → List ItemAt
items_of r = items r false 0 0

-- what holds of each item of a list
abbrev pub EachItem : (ItemAt → Type 0) → List ItemAt → Type 0
EachItem P [] = Unit {0}
EachItem P (x ∷ xs) = P x × EachItem P xs

-- the number of blocks: the Nb records of a tree
unfoldable mutual
  pub blocks : Rec → ℕ
  blocks (rec h ks) = cond (eqb h.mark (mark "Nb")) 1 0 + all_blocks ks

  pub all_blocks : Recs → ℕ
  all_blocks nil = 0
  all_blocks (cons r rs) = blocks r + all_blocks rs

-- ---- what a line is of

-- an item; the end of an Nb that d Ns records hold
pub data Entry : Type 0 where
  item : ItemAt → Entry
  end : ℕ → Entry

-- both among all records of a tree, in order: an item comes before what it holds, the end of an Nb behind what that holds
unfoldable mutual
  pub entries : Rec → Bool → ℕ → ℕ → List Entry
  entries (rec h ks) listed d at =
      cond (is_item listed h.mark) (item (record { itself = rec h ks; depth = d; at = at }) ∷ []) [] ++ (
      all_entries ks (lists_items h.mark) (depth_in d h.mark) (body_of at h) ++
      cond (eqb h.mark (mark "Nb")) (end d ∷ []) [])

  pub all_entries : Recs → Bool → ℕ → ℕ → List Entry
  all_entries nil listed d at = []
  all_entries (cons r rs) listed d at = entries r listed d at ++ all_entries rs listed d (at + size_of r)

unfoldable pub entries_of : Rec → List Entry
entries_of r = entries r false 0 0

-- the items among them, and the number of ends
unfoldable pub items_among : List Entry → List ItemAt
items_among [] = []
items_among (item x ∷ es) = x ∷ items_among es
items_among (end d ∷ es) = items_among es

unfoldable pub ends_among : List Entry → ℕ
ends_among [] = 0
ends_among (item x ∷ es) = ends_among es
ends_among (end d ∷ es) = suc (ends_among es)

-- the line: an item's tokens at its depth; "`}` stands on a line of its own with the indent of the `Ns`"
abbrev pub line_of : Entry → Line
line_of (item x) = record { spaces = x.depth; tokens = tokens x.itself false x.at }
line_of (end d) = record { spaces = d - 1; tokens = token (text "}") ∷ [] }

-- ---- line feeds

-- their number in bytes; in what is written for a token, for the tokens of a line, and for those of lines
unfoldable pub feeds : List ℕ → ℕ
feeds [] = 0
feeds (b ∷ bs) = cond (eqb b 10) 1 0 + feeds bs

abbrev pub feeds_of : Token → ℕ
feeds_of (token t) = feeds t
feeds_of (own t) = feeds t
feeds_of (outside at) = 0

unfoldable pub feeds_in : List Token → ℕ
feeds_in [] = 0
feeds_in (t ∷ ts) = feeds_of t + feeds_in ts

unfoldable pub lines_feeds : List Line → ℕ
lines_feeds [] = 0
lines_feeds (l ∷ ls) = feeds_in l.tokens + lines_feeds ls

-- what is written as it stands of a record's text: "An opaque part is written as its text"; so are keys and keywords, and the symbol of an Id
unfoldable pub as_it_stands : Head → List ℕ
as_it_stands h = cond (among "Op Ki Kw" h.mark) h.text (cond (eqb h.mark (mark "Id")) (drop 4 h.text) [])

-- the line feeds there: of all records of a tree
unfoldable mutual
  pub feeds_within : Rec → ℕ
  feeds_within (rec h ks) = feeds (as_it_stands h) + all_feeds_within ks

  pub all_feeds_within : Recs → ℕ
  all_feeds_within nil = 0
  all_feeds_within (cons r rs) = feeds_within r + all_feeds_within rs

-- and of those that stand on a record's own line: the items that a Mo or an Nb lists have lines of their own
unfoldable mutual
  pub feeds_on_line : Rec → ℕ
  feeds_on_line (rec h ks) = feeds (as_it_stands h) + all_feeds_on_line ks (lists_items h.mark)

  pub all_feeds_on_line : Recs → Bool → ℕ
  all_feeds_on_line nil lists = 0
  all_feeds_on_line (cons r rs) lists = cond (lists && not (is "Op" r)) 0 (feeds_on_line r) + all_feeds_on_line rs lists
