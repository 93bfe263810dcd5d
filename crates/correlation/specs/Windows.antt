-- The sends of a connection as far as they are still wanted, and how listing, taking and answering change them.
use Rattle.std.specs.Prelude.{ℕ, ◌+◌, ◌-◌, if◌then◌else◌, nat_lt, List, [], ◌∷◌, ◌++◌, drop, slice_get, Option, None, Some, Result, Ok, Err, ℤ, pos}
use Rattle.std.specs.Ordering.{int_eq}
use Rattle.conn_rules.specs.State.{upstream_id}
use Rattle.correlation.specs.declared.owner.Owner.{Owner}
use Rattle.correlation.specs.declared.owner.Numbered.{Numbered}
use Rattle.correlation.specs.declared.owner.AnswerRefusal.{AnswerRefusal}
use Rattle.correlation.specs.declared.owner.AnswerRefusal.TheVariants.{Unasked, Mismatch}
use Rattle.correlation.specs.declared.sends.Unsent.{Unsent}

pub record Window : Type 0 where
  -- how many sends were listed
  pub next : ℕ
  -- how many the writer took, of those that get a response and have none yet
  pub waiting : ℕ
  -- the owners of the sends that are still to get a response, taken or not, in the list's order
  pub owners : List Numbered
  -- the frames that weren't taken, with their sizes
  pub unsent : List Unsent

abbrev pub fresh_window : Window
fresh_window = record { next = 0; waiting = 0; owners = []; unsent = [] }

-- a send more, behind the others
abbrev pub with_listed : Owner → List ℕ → Window → Window
with_listed owner frame w =
    record {
      next = w.next + 1;
      waiting = w.waiting;
      owners = if owner.silent then w.owners else w.owners ++ record { number = w.next; owner = owner } ∷ [];
      unsent = w.unsent ++ record { silent = owner.silent; frame = frame } ∷ [];
    }

-- the writer takes the first frame, if there is one
abbrev pub first_frame : List Unsent → Option (List ℕ)
first_frame [] = None
first_frame (u ∷ us) = Some u.frame

abbrev pub without_first : List Unsent → Window → Window
without_first [] w = w
without_first (u ∷ us) w = record w { waiting = if u.silent then w.waiting else w.waiting + 1; unsent = us }

abbrev pub with_taken : Window → Window
with_taken w = without_first w.unsent w

-- the send that the broker's next frame answers
abbrev pub due_owner : Window → Option Numbered
due_owner w = if nat_lt 0 w.waiting then slice_get w.owners 0 else None

-- whose a broker's frame with this correlation id is
abbrev pub owner_of_frame : ℤ → Option Numbered → Result Owner AnswerRefusal
owner_of_frame id None = Err (Unasked id)
owner_of_frame id (Some due) = if int_eq id (pos (upstream_id due.number)) then Ok due.owner else Err (Mismatch (pos (upstream_id due.number)) id)

-- it has its response now
abbrev pub with_answered : Result Owner AnswerRefusal → Window → Window
with_answered (Ok owner) w = record w { waiting = w.waiting - 1; owners = drop 1 w.owners }
with_answered (Err refusal) w = w
