use Rattle.std.specs.Prelude.{◌≡◌, ℕ, List, [], ◌∷◌, Option, Some, None, if◌then◌else◌, Result, Ok, Err, Contains, ◌⊎◌}
use Rattle.std.specs.Str.{bytes_eq}
use Rattle.kp_edge.specs.Counts.{raised}
use Rattle.kp_edge.specs.Files.{Content, Absent, Holds}
use Rattle.kp_edge.specs.declared.files.FileFault.{FileFault}
use Rattle.kp_edge.specs.declared.files.FileFault.TheVariants.{Failed, NoMemory}

-- files in memory
pub record Cabinet : Type 0 where
  -- names, and the bytes of their files
  pub files : List (List ℕ × List ℕ)
  -- the numbers of the reads that fail
  pub failing : List ℕ
  -- the number of the next read
  pub number : ℕ
  -- how many reads failed
  pub faults : ℕ

-- the bytes of the first file of that name
abbrev pub file_of : List (List ℕ × List ℕ) → List ℕ → Option (List ℕ)
file_of [] name = None
file_of (file ∷ files) name = if bytes_eq file.0 name then Some file.1 else file_of files name

-- the same, as files tell it
abbrev pub content_of : Option (List ℕ) → Content
content_of None = Absent
content_of (Some bytes) = Holds bytes

-- a read fails where its number is listed or no file has that name
abbrev pub IsUnreadable : Cabinet → List ℕ → Type 0
IsUnreadable cabinet name = Contains cabinet.failing cabinet.number ⊎ (file_of cabinet.files name ≡ None)

-- the files after a read: it is counted, and so is its failure
abbrev pub after_reading : Cabinet → Result (List ℕ) FileFault → Cabinet
after_reading cabinet (Ok bytes) = record cabinet { number = raised cabinet.number }
after_reading cabinet (Err NoMemory) = record cabinet { number = raised cabinet.number }
after_reading cabinet (Err Failed) = record cabinet { number = raised cabinet.number; faults = raised cabinet.faults }
