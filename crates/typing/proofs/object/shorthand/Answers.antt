-- `object::shorthand` meets its contract.
use Rattle.std.proofs.Common.{refl, ap, ◌∙◌, arith}
use Rattle.definition.specs.Record.{head_of, mark_of}
use Rattle.records.specs.Views.{rec_of}
use Rattle.output.proofs.Steps.{is_some, is_none}
use Rattle.typing.proofs.Options.{maybe_made, puts_out}
use Rattle.typing.proofs.LeafTexts.{ident-fits, symbol-fits}
use Rattle.typing.proofs.KidSlots.{shortened, its_name, first_kid}
use Rattle.typing.proofs.Members.{short_made, short_skipped}
use Rattle.typing.proofs.object.shorthand.Goals as goal

pub first-ident-requires : goal.first-ident-requires
first-ident-requires c = omega (arith, c.children.ensures.many, shortened c.args.prop c.requires)

pub put_shorthand-requires : goal.put_shorthand-requires
put_shorthand-requires c = ap mark_of (first_kid c.children.ensures (shortened c.args.prop c.requires) c.first-ident.ensures).is ∙ its_name c.args.prop c.requires

pub ident_to_ts_type-requires : goal.ident_to_ts_type-requires
ident_to_ts_type-requires c = ap mark_of (first_kid c.children.ensures (shortened c.args.prop c.requires) c.first-ident.ensures).is ∙ its_name c.args.prop c.requires

pub returns-in_default : goal.returns-in_default
returns-in_default c =
    let x = first_kid c.children.ensures (shortened c.args.prop c.requires) c.first-ident.ensures in
    short_skipped c.args.mode (rec_of c.args.prop) c.requires x.is (puts_out (rw c.is_readonly.ensures at c.put_shorthand.ensures) refl refl refl refl)
    (is_none (maybe_made _ c.ident_to_ts_type.ensures (ident-fits _ _ (rec_of c.first-ident.result) c.args.mode.as_const c.fits.ensures) refl refl refl refl) c.in_default.is) c.start-start.ensures c.back.ensures c.mark_diagnostic.ensures

pub returns : goal.returns
returns c =
    let x = first_kid c.children.ensures (shortened c.args.prop c.requires) c.first-ident.ensures in
    short_made c.args.mode (rec_of c.args.prop) c.requires x.is (puts_out (rw c.is_readonly.ensures at c.put_shorthand.ensures) refl refl refl refl)
    (symbol-fits (head_of (rec_of c.first-ident.result)) (rec_of c.first-ident.result) c.fits.ensures)
    (is_some (maybe_made _ c.ident_to_ts_type.ensures (ident-fits _ _ (rec_of c.first-ident.result) c.args.mode.as_const c.fits.ensures) refl refl refl refl) c.in-Some.is)
