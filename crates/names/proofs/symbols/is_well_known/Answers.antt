-- `symbols::is_well_known` meets its contract: the names of the code are those of the definition, and `any` asks what `any_text` asks.
use Rattle.std.proofs.Common.{rules, tests, ◌≡◌, ℕ, List, [], ◌∷◌, map, refl, ap, ◌∙◌, Bor}
use Rattle.std.specs.List.{list_any}
use Rattle.std.proofs.lemmas.Iterator.{YieldsList-from_slice}
use Rattle.std.proofs.lemmas.Iterator.Search.{any_from_yields_List}
use Rattle.definition.specs.Record.{same_text}
use Rattle.definition.specs.Names.{well_known_symbol_names, any_text}
use Rattle.names.proofs.symbols.is_well_known.Goals as goal

abbrev texts : List (Bor (List ℕ)) → List (List ℕ)
texts ns = map (λ (n : Bor (List ℕ)). n.now) ns

any_is : (t : List ℕ) (ns : List (Bor (List ℕ))) → list_any (λ n. same_text n.now t) ns ≡ any_text (texts ns) t
unfolding any_text
any_is t [] = refl
any_is t (n ∷ ns) = rw (any_is t ns) refl

pub returns : goal.returns
unfolding well_known_symbol_names
returns c =
    let t = c.args.symbol.now in
    any_from_yields_List (λ n. same_text n.now t) _ _ _ c.any.ensures.ran (YieldsList-from_slice c.iter.result.rest.now refl) (λ x b q k. search (rules, tests))
    ∙ (any_is t c.iter.result.rest.now ∙ ap (λ ns. any_text (texts ns) t) c.iter.ensures.rest)
