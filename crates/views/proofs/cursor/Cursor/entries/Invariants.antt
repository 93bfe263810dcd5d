use Rattle.std.proofs.Common.{◌≡◌, length, map}
use Rattle.std.specs.List.{AllByRecursion}
use Rattle.views.specs.Reading.{items_before, entries_before}
use Rattle.views.specs.Fitting.{FitVersion}
use Rattle.views.proofs.cursor.Cursor.entries.Given as goal

abbrev pub invariant-loop : goal.invariant-loop
invariant-loop g l = record {
  read : l.initial.self ≡ entries_before (items_before g.E.Entry.format) (map g.E.Entry.fields l.entries.items) l.self;
  fit : AllByRecursion (FitVersion g.E.Entry.format l.version) (map g.E.Entry.fields l.entries.items);
  counted : length l.entries.items ≡ l.counter;
}
