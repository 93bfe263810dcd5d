-- Entries that are a number or a text alone.
use Rattle.std.specs.Prelude.{[], ◌∷◌}
use Rattle.views.specs.declared.number.Number.{Number}
use Rattle.views.specs.declared.name.Name.{Name}
use Rattle.views.specs.Format.{Format, Fields, format, int32_field, text_field}

abbrev pub number_format : Format
number_format = format (int32_field ∷ [])

abbrev pub number_fields : Number → Fields number_format
number_fields entry = (entry.it, tt)

abbrev pub name_format : Format
name_format = format (text_field ∷ [])

abbrev pub name_fields : Name → Fields name_format
name_fields entry = (entry.it, tt)
