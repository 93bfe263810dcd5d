-- What a writer keeps, and how it ends.
use Rattle.std.specs.Prelude.{◌≡◌}
use Rattle.tree_spelling.specs.Body.{Contents}
use Rattle.views.specs.declared.view_fault.ViewFault.{ViewFault}
use Rattle.views.specs.declared.view_fault.ViewFault.TheVariants.{WrongApi, Misplaced, TooLong, NoMemory}
use Rattle.views.specs.declared.writer.Flaw.{Flaw}
use Rattle.views.specs.declared.writer.Flaw.TheVariants as flaws
use Rattle.views.specs.Writing.{Draft, Begun, Exceeded, Unfit}

abbrev pub draft_of : Contents → Flaw → Draft
draft_of body flaws.None = Begun body
draft_of body (flaws.TooLong len) = Exceeded len
draft_of body (flaws.Misplaced field) = Unfit field

-- what a draft's fault is answered by
abbrev pub IsDraftFault : Draft → ViewFault → Type 0
IsDraftFault draft WrongApi = ⊥
IsDraftFault draft (Misplaced field) = draft ≡ Unfit field
IsDraftFault draft (TooLong len) = draft ≡ Exceeded len
IsDraftFault draft NoMemory = Unit {0}
