-- The bytes of records that wrap a type, keywords, and records that are copied; with the laws of writes that `records` has.
use Rattle.std.proofs.Common.{◌≡◌, ℕ, List, [], ◌++◌, get_or, sym, refl, ◌∙◌, append_assoc, w8, Fits}
use Rattle.definition.specs.Tree.{Rec, head_bytes, encode, tree_at}
use Rattle.definition.specs.Children.{AcceptedAt}
use Rattle.definition.specs.Record.{Range, made, absent}
use Rattle.definition.specs.Helpers.{ts_keyword_type, ts_readonly, ts_tuple_element}
use Rattle.definition.specs.Typing.{ts_rest_type}
use Rattle.records.specs.Whole.{Whole, part_at}
use Rattle.records.specs.Wrote.{Put}
use Rattle.records.proofs.Puts.{encode_one, encode-two}
use Rattle.records.proofs.Whole.{accepted-whole, accepted-put, slice_bytes}
use Rattle.swc_helpers.specs.declared.TsKeywordTypeKind.{TsKeywordTypeKind}
use Rattle.swc_helpers.specs.Made.{keyword, ts_readonly_front, ts_tuple_element_front, ts_rest_type_front}
pub use Rattle.records.proofs.Puts.{put-put, put_as, encode-leaf, encode_one, encode-two}

-- a record that wraps a type is its front and the type
pub readonly_is : (at : Range) (t : Rec) → encode (ts_readonly at t) ≡ ts_readonly_front at ++ encode t
readonly_is at t = sym (encode_one _ t refl)

pub tuple_element_is : (at : Range) (t : Rec) → encode (ts_tuple_element at t) ≡ ts_tuple_element_front at ++ encode t
tuple_element_is at t = sym (append_assoc (head_bytes (made "Tm" 0 at []) 2) (encode absent) (encode t) ∙ encode-two _ _ t refl)

pub rest_type_is : (at : Range) (t : Rec) → encode (ts_rest_type at t) ≡ ts_rest_type_front at ++ encode t
rest_type_is at t = sym (encode_one _ t refl)

-- ---- keywords

pub keyword-put : (at : Range) {a b : List ℕ} {p : ℕ} {kind k : TsKeywordTypeKind} {q : ℕ} → kind ≡ k → Put a b p (encode (ts_keyword_type at (keyword k))) q → Put a b p (encode (ts_keyword_type at (keyword kind))) q
keyword-put at e w = rw e w

-- ---- records of the tree

module _ (levels : ℕ) (s : List ℕ) (at : ℕ) (a : AcceptedAt levels s at) where
  pub is_whole : Whole levels s at
  is_whole = accepted-whole levels s at a.slots a.past a.checked

  -- a record that is copied
  pub copied : {o b : List ℕ} {p q : ℕ} → ((i : ℕ) → Fits w8 (get_or s i 0)) → Put o b p (part_at levels s at) q → Put o b p (encode (tree_at levels s at)) q
  copied known = accepted-put levels s at a.slots a.past (slice_bytes s known) a.checked
