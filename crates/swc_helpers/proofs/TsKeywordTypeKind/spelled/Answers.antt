use Rattle.definition.specs.Record.{text}
use Rattle.swc_helpers.specs.Made.{keyword}
use mathlib.Core.Path.{sym, ap}
use Rattle.swc_helpers.specs.declared.TsKeywordTypeKind.{TsKeywordTypeKind}
use Rattle.swc_helpers.proofs.TsKeywordTypeKind.spelled.Goals as goal

pub returns-in-TsAnyKeyword : goal.returns-in-TsAnyKeyword
returns-in-TsAnyKeyword c = sym (ap (λ (k : TsKeywordTypeKind). text (keyword k)) c.in-TsAnyKeyword.is)

pub returns-in-TsNumberKeyword : goal.returns-in-TsNumberKeyword
returns-in-TsNumberKeyword c = sym (ap (λ (k : TsKeywordTypeKind). text (keyword k)) c.in-TsNumberKeyword.is)

pub returns-in-TsBooleanKeyword : goal.returns-in-TsBooleanKeyword
returns-in-TsBooleanKeyword c = sym (ap (λ (k : TsKeywordTypeKind). text (keyword k)) c.in-TsBooleanKeyword.is)

pub returns-in-TsBigIntKeyword : goal.returns-in-TsBigIntKeyword
returns-in-TsBigIntKeyword c = sym (ap (λ (k : TsKeywordTypeKind). text (keyword k)) c.in-TsBigIntKeyword.is)

pub returns-in-TsStringKeyword : goal.returns-in-TsStringKeyword
returns-in-TsStringKeyword c = sym (ap (λ (k : TsKeywordTypeKind). text (keyword k)) c.in-TsStringKeyword.is)

pub returns-in-TsUndefinedKeyword : goal.returns-in-TsUndefinedKeyword
returns-in-TsUndefinedKeyword c = sym (ap (λ (k : TsKeywordTypeKind). text (keyword k)) c.in-TsUndefinedKeyword.is)

pub returns-in-TsNullKeyword : goal.returns-in-TsNullKeyword
returns-in-TsNullKeyword c = sym (ap (λ (k : TsKeywordTypeKind). text (keyword k)) c.in-TsNullKeyword.is)
