-- The table that a text is.
use Rattle.std.proofs.Common.{◌≡◌, ℕ, true, false, List, refl, ap, sym, ◌∙◌, Option, Some, None, Err, inl, inr}
use Rattle.std.specs.Str.{IsUtf8, is_utf8}
use Rattle.std.proofs.lemmas.Bool.{cases_Bool}
use Rattle.std.proofs.lemmas.Str.{IsUtf8-from_is_utf8, is_utf8-from_IsUtf8}
use Rattle.toml.specs.Data.{Members}
use Rattle.toml.specs.Parse.{parse_document}
use Rattle.proxy_config.specs.Meant.{toml_table, meant_by, config_of, config_in}
use Rattle.proxy_config.specs.declared.fault.ConfigFault.TheVariants.{NotToml}

is_table : (text : List ℕ) (t : Members) → IsUtf8 text → parse_document text ≡ Some t → toml_table text ≡ Some t
unfolding toml_table
is_table text t utf8 parsed = rw (is_utf8-from_IsUtf8 text utf8) parsed

-- a text means what its table does
pub meant_by_table : (text : List ℕ) (t : Members) → IsUtf8 text → parse_document text ≡ Some t → config_of t ≡ meant_by text
meant_by_table text t utf8 parsed = sym (ap config_in (is_table text t utf8 parsed))

no_table : (text : List ℕ) → (IsUtf8 text → parse_document text ≡ None) → toml_table text ≡ None
unfolding toml_table
no_table text refused =
    elim (cases_Bool (is_utf8 text)) [
      | inl utf8 ↦ rw utf8 (refused (IsUtf8-from_is_utf8 text utf8))
      | inr other ↦ rw other refl
    ]

-- a text without a table is no TOML
pub meant_without_table : (text : List ℕ) → (IsUtf8 text → parse_document text ≡ None) → meant_by text ≡ Err NotToml
meant_without_table text refused = ap config_in (no_table text refused)
