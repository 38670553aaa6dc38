-- An index of names: a sorted list of entries, each the offset of an Id times eight and three bits, and what it answers.
use Rattle.std.specs.Prelude.{◌≡◌, List, [], ◌∷◌, Bool, true, false, cond, ◌&&◌, ◌||◌, ℕ, ◌+◌, ◌-◌, ◌*◌, ◌/◌, ◌%◌, ◌<◌, ◌≤◌, eqb, ltb, length, get_or, drop, Result, MatchResult}
use Rattle.definition.specs.Tree.{text_at, body_at}
use Rattle.definition.specs.Record.{same_text}
use Rattle.index.specs.declared.Names.{Names}
use Rattle.index.specs.declared.Sets.{Sets}
use Rattle.definition.specs.Prescan.{Question, Question.typeof_safe, Question.non_generic_class, Question.array_typed}

-- ---- the order of texts

unfoldable pub less_text : List ℕ → List ℕ → Bool
less_text [] [] = false
less_text [] (y ∷ ys) = true
less_text (x ∷ xs) [] = false
less_text (x ∷ xs) (y ∷ ys) = cond (eqb x y) (less_text xs ys) (ltb x y)

-- ---- entries

-- an offset below this leaves three bits of 32
abbrev pub farthest : ℕ
farthest = 536870912

-- the text of an entry's Id
abbrev pub name_at : List ℕ → ℕ → List ℕ
name_at s e = text_at s (e / 8)

-- an entry's bit for a question
abbrev pub bit_of : Question → ℕ → Bool
bit_of typeof_safe e = eqb (e / 1 % 2) 1
bit_of non_generic_class e = eqb (e / 2 % 2) 1
bit_of array_typed e = eqb (e / 4 % 2) 1

-- one of three answers
abbrev pub pick : Question → Bool → Bool → Bool → Bool
pick typeof_safe a b c = a
pick non_generic_class a b c = b
pick array_typed a b c = c

-- the sets of an entry
abbrev pub sets_of : ℕ → Sets
sets_of e = record { typeof_safe = bit_of typeof_safe e; non_generic_class = bit_of non_generic_class e; array_typed = bit_of array_typed e }

-- whether the set that is asked for is among some sets
abbrev pub has : Question → Sets → Bool
has q s = pick q s.typeof_safe s.non_generic_class s.array_typed

unfoldable pub entry_of : ℕ → Bool → Bool → Bool → ℕ
entry_of id a b c = id * 8 + cond a 1 0 + cond b 2 0 + cond c 4 0

-- an entry with more bits
abbrev pub joined_of : ℕ → Bool → Bool → Bool → ℕ
joined_of e a b c = entry_of (e / 8) (bit_of typeof_safe e || a) (bit_of non_generic_class e || b) (bit_of array_typed e || c)

-- ---- the first n entries of a table, over the tree s

-- their Ids lie in the tree, and their texts rise
pub record Sorted (s a : List ℕ) (n : ℕ) : Type 0 where
  pub room : n ≤ length a
  pub inside : (k : ℕ) → k < n → body_at s (get_or a k 0 / 8) ≤ length s
  pub rises : (j k : ℕ) → j < k → k < n → less_text (name_at s (get_or a j 0)) (name_at s (get_or a k 0)) ≡ true

-- they answer each question F of a name: by the bits of the entry that has it, and by false where none has
pub record Answers (s a : List ℕ) (n : ℕ) (F : Question → List ℕ → Bool) : Type 0 where
  pub found : (k : ℕ) → k < n → (q : Question) → F q (name_at s (get_or a k 0)) ≡ bit_of q (get_or a k 0)
  pub missing : (t : List ℕ) → ((k : ℕ) → k < n → name_at s (get_or a k 0) ≡ t → ⊥) → (q : Question) → F q t ≡ false

-- p is how many of them have texts before t
pub record Lower (s a : List ℕ) (n : ℕ) (t : List ℕ) (p : ℕ) : Type 0 where
  pub within : p ≤ n
  pub before : (k : ℕ) → k < p → less_text (name_at s (get_or a k 0)) t ≡ true
  pub after : (k : ℕ) → p ≤ k → k < n → less_text (name_at s (get_or a k 0)) t ≡ false

-- whether the entry at p has the text t
unfoldable pub name_is : List ℕ → List ℕ → ℕ → ℕ → List ℕ → Bool
name_is s a n p t = ltb p n && same_text (name_at s (get_or a p 0)) t

-- the search for the text t among them: the place of the entry that has it, or of one that would
abbrev pub Found : List ℕ → List ℕ → ℕ → List ℕ → Result ℕ ℕ → Type 0
Found s a n t r =
    MatchResult r (λ p. Lower s a n t p × (name_is s a n p t ≡ true)) (λ p. Lower s a n t p × (name_is s a n p t ≡ false))

-- the first entries of b are the first n of a, and v at p
pub record Inserted (a b : List ℕ) (n p v : ℕ) : Type 0 where
  pub room : n < length b
  pub below : (k : ℕ) → k < p → get_or b k 0 ≡ get_or a k 0
  pub here : get_or b p 0 ≡ v
  pub above : (k : ℕ) → p < k → k ≤ n → get_or b k 0 ≡ get_or a (k - 1) 0

-- the first m entries of b are the first n of a with what G adds
pub record Enters (s a : List ℕ) (n : ℕ) (b : List ℕ) (m : ℕ) (G : Question → List ℕ → Bool) : Type 0 where
  pub sorted : Sorted s b m
  pub step : (F : Question → List ℕ → Bool) → Answers s a n F → Answers s b m (λ q t. F q t || G q t)

-- ---- the entries of a table

-- from where they begin
abbrev pub entries_of : Names → List ℕ
entries_of n = drop n.from n.table.now

-- the entries of b are those of a, and at most one more, in front or behind, in the same table
pub record Grown (a b : Names) : Type 0 where
  pub buffer : b.table.ghost_name ≡ a.table.ghost_name
  pub same : length b.table.now ≡ length a.table.now
  pub from : b.from ≤ a.from
  pub to : a.from + a.count ≤ b.from + b.count
  pub count : b.count ≤ a.count + 1
