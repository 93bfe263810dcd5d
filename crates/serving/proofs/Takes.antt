-- A frame comes from the client.
use Rattle.std.proofs.Common.{◌≡◌, ◌∙◌, ap, refl, sym, subst, ℕ, ◌+◌, ◌-◌, ◌≤◌, ◌<◌, ◌^◌, ◌==◌, nat_lt, Bool, true, false, ◌&&◌, ◌||◌, is_some, List, [], ◌∷◌, ◌++◌, length, drop, Option, Some, None, Ok, Err, slice_get, arith, length-append}
use Rattle.std.specs.Prelude.{sum_by}
use Rattle.std.proofs.lemmas.List.{drop-append-le}
use Rattle.std.proofs.lemmas.List.Sums.{sum_by_push}
use Rattle.std.proofs.lemmas.Bool.{ltb-true, ltb-false}
use Rattle.std.proofs.lemmas.Option.{slice_get_within}
use Rattle.kp_edge.specs.declared.end.End.{End}
use Rattle.kp_edge.specs.declared.end.End.TheVariants as end
use Rattle.conn_rules.specs.declared.event.Event.TheVariants as event
use Rattle.conn_rules.specs.declared.event.Reply.TheVariants as reply
use Rattle.conn_rules.specs.declared.event.TakeFault.TheVariants as take_fault
use Rattle.conn_rules.specs.Causes.{first_cause, with_halt, are_ending}
use Rattle.conn_rules.specs.Meaning.{Meaning}
use Rattle.conn_rules.specs.Room.{has_room, limited}
use Rattle.conn_rules.specs.Sweep.{IsQuietBefore, free_before}
use Rattle.conn_rules.proofs.Sweep.{sweeps}
use Rattle.conn_rules.specs.State.{Outside, Request, State, cut_at, halted, held, in_flight}
use Rattle.conn_rules.specs.Steps.{joined, answer_to, StepOrNoMemory}
use Rattle.correlation.specs.IsWindow.{IsWindow}
use Rattle.correlation.proofs.WindowLaws.{laws}
use Rattle.correlation.specs.WindowOf.{window_of}
use Rattle.serving.specs.declared.cause.Cause.{Cause}
use Rattle.serving.specs.declared.flight.Flight.{Flight}
use Rattle.serving.specs.declared.slot.Slot.{Slot}
use Rattle.serving.specs.Causes.{why_of}
use Rattle.serving.specs.Slots.{fresh_slot, stage_of, awaits_response, awaits_verdict, one_if, Keeps, IsUntouched}
use Rattle.serving.specs.Listing.{SameFor, SameOutside, Carries, IsSettled, AreQuiet}
use Rattle.serving.specs.Stands.{Stands, Joins, Counts, FlightTakes, FlightTakesBy, cut_flight}
use Rattle.serving.proofs.Places.{behind_here, behind_before}
use Rattle.serving.proofs.Same.{keeps_same, passed_same}
use Rattle.serving.proofs.Asks.{stage_is, begun_unanswered, begun_unpicked}
use Rattle.serving.proofs.Freed.{free_joined}
use Rattle.serving.proofs.Notes.{gives_up, stands_cut}
use Rattle.serving.proofs.Working.{Reaches, reaches_rest, grows_trans, grows_joined}

pub some_halt : (h : Option End) (why : End) → first_cause h why ≡ None → ⊥
some_halt None why e = cc
some_halt (Some x) why e = cc

no_halt_by : (a b c d : Bool) → (a || b || c || d) ≡ false → c ≡ false
no_halt_by true b c d h = cc
no_halt_by false true c d h = cc
no_halt_by false false true d h = cc
no_halt_by false false false d h = refl

no_cut_by : (a b c d : Bool) → (a || b || c || d) ≡ false → a ≡ false
no_cut_by true b c d h = cc
no_cut_by false b c d h = refl

pub none_of : {X : Type 0} → (o : Option X) → is_some o ≡ false → o ≡ None
none_of None h = refl
none_of (Some x) h = cc

-- want of memory: the counts and the ends stay, and the connection halts
module _ {R : Type 0} (M : Meaning) (runs : R → List ℕ → List Outside → Type 0) (f left : Flight R) (s : State) (h : Stands M runs f s) (outside : SameOutside f left) where
  pub stands_wanting : Stands M runs (record left { causes = with_halt end.NoMemory left.causes }) (halted end.NoMemory s)
  stands_wanting = record {
    halt_is = ap (λ o. first_cause o end.NoMemory) (outside.halt ∙ h.halt_is);
    over_is = outside.over ∙ h.over_is;
    count_is = outside.count ∙ h.count_is;
    held_is = outside.held ∙ h.held_is;
    rest = h.rest;
    whole = λ none. absurd (some_halt s.causes.halt end.NoMemory none);
    free = λ none. absurd (some_halt s.causes.halt end.NoMemory none);
  }

module _ {R : Type 0} (M : Meaning) (runs : R → List ℕ → List Outside → Type 0) (f : Flight R) (s : State) where
  abbrev N : Meaning
  N = limited f.limit M

  module _ (h : Stands N runs f s) (frame : List ℕ) where
    abbrev Whole : Type 0
    Whole = (f.requests ≡ length s.requests) × Carries N runs f s

    module _ (ending : are_ending f.causes ≡ false) where
      whole : Whole
      whole = h.whole (sym h.halt_is ∙ none_of f.causes.halt (no_halt_by (is_some f.causes.cut) (is_some f.causes.death) (is_some f.causes.halt) (is_some f.causes.over) ending))

      going : are_ending s.causes ≡ false
      going = ap (λ c. are_ending c) (sym whole.1.causes_is) ∙ ending

      no_halt : s.causes.halt ≡ None
      no_halt = none_of s.causes.halt (no_halt_by (is_some s.causes.cut) (is_some s.causes.death) (is_some s.causes.halt) (is_some s.causes.over) going)

      no_cut : s.causes.cut ≡ None
      no_cut = none_of s.causes.cut (no_cut_by (is_some s.causes.cut) (is_some s.causes.death) (is_some s.causes.halt) (is_some s.causes.over) going)

      room_is : N.room (in_flight s) (held s) (length frame) ≡ has_room f.limit f.count f.held (length frame)
      room_is = ap (λ n. has_room f.limit n (held s) (length frame)) (sym h.count_is) ∙ ap (λ n. has_room f.limit f.count n (length frame)) (sym h.held_is)

      module _ (room : has_room f.limit f.count f.held (length frame) ≡ true) where
        takes : answer_to N s (event.Take frame) ≡ (reply.Take (Ok tt), joined (N.no_request frame) frame s)
        takes = rw (going, room_is, room) refl

        pub take_wanting : (left : Flight R) → SameOutside f left → (t : State) × StepOrNoMemory N s (event.Take frame) (reply.Take (Err take_fault.NoMemory)) t × Stands N runs (record left { causes = with_halt end.NoMemory left.causes }) t
        take_wanting left outside = (
          halted end.NoMemory s,
          gives_up N s (joined (N.no_request frame) frame s) (event.Take frame) (reply.Take (Ok tt)) (reply.Take (Err take_fault.NoMemory)) tt takes refl,
          stands_wanting N runs f left s h outside,
        )

        -- it is no request
        refuses : (cause : Cause) (new : Flight R) (n m : ℕ) → N.no_request frame ≡ Some (why_of cause) → new ≡ cut_flight f.requests (why_of cause f.requests) f → m ≡ n → (t : State) × Reaches N s (event.Take frame) (reply.Take (Ok tt)) n m t × Stands N runs new t
        refuses cause new n m is new_is none =
            let k : ℕ = length s.requests in
            let t : State = cut_at k (why_of cause k) s in
            let step : answer_to N s (event.Take frame) ≡ (reply.Take (Ok tt), t) = takes ∙ ap (λ x. (reply.Take (Ok tt), joined x frame s)) is in
            let cut : Stands N runs (cut_flight f.requests (why_of cause k) f) t = stands_cut N runs f s h f.requests k (why_of cause k) (λ unhalted. (whole.0, omega (arith, whole.1.there))) in
            let same : cut_flight f.requests (why_of cause k) f ≡ new = ap (λ i. cut_flight f.requests (why_of cause i) f) (sym whole.0) ∙ sym new_is in
            let stands : Stands N runs new t = subst (λ x. Stands N runs x t) same cut in
            (t, reaches_rest N s (event.Take frame) (reply.Take (Ok tt)) n m t step stands.rest none refl, stands)

        -- it joins the others
        module _ (mid new : Flight R) (n m : ℕ) (join : Joins M runs frame f mid) (counts : Counts M runs frame f mid new n m) where
          abbrev r : Request
          r = record { frame = frame; given = [] }

          abbrev u : State
          u = record s { requests = s.requests ++ r ∷ [] }

          long : length (s.requests ++ r ∷ []) ≡ length s.requests + 1
          long = length-append s.requests (r ∷ [])

          like : (j : ℕ) → j < length s.requests → SameFor j s u
          like j lt = record { request = behind_before s.requests r j lt; main = refl; listed = λ i. refl; picked = λ i. refl; pending = λ low. refl; served = λ y. y }

          abbrev fresh : Slot R
          fresh = fresh_slot (length frame) join.silent join.progress

          fresh_kept : Keeps N runs u (length s.requests) fresh
          fresh_kept =
              let untouched : IsUntouched s (length s.requests) = whole.1.later (length s.requests) (omega arith) in
              let response : awaits_response (stage_of join.progress) ≡ false = begun_unanswered join.progress in
              let verdict : awaits_verdict (stage_of join.progress) ≡ false = begun_unpicked join.progress in
              record {
                request = r;
                there = behind_here s.requests r;
                size = refl;
                silent = sym join.silent_is;
                given = refl;
                main = sym untouched.main;
                stage = stage_is N runs frame [] join.progress join.right;
                listed = λ i le. untouched.listed i ∙ sym (ap (λ b. b && (i == 0)) response);
                picked = λ i le. untouched.picked i ∙ sym (ap (λ b. b && (i == 0)) verdict);
                pending = λ low. untouched.pending low ∙ sym (ap (λ b. one_if b) response);
              }

          slot_by : (i : ℕ) (slot : Slot R) (early : Bool) → nat_lt i (length f.slots.items) ≡ early → slice_get (f.slots.items ++ fresh ∷ []) i ≡ Some slot → Keeps N runs u (s.passed + i) slot
          slot_by i slot true is at =
              let lt : i < length f.slots.items = ltb-true i (length f.slots.items) is in
              keeps_same N runs s u (s.passed + i) slot (like (s.passed + i) (omega (arith, lt, whole.1.there))) (whole.1.slots i slot (sym (behind_before f.slots.items fresh i lt) ∙ at))
          slot_by i slot false is at =
              let ge : length f.slots.items ≤ i = ltb-false i (length f.slots.items) is in
              let within : i < length (f.slots.items ++ fresh ∷ []) = slice_get_within (f.slots.items ++ fresh ∷ []) i slot at in
              let e : i ≡ length f.slots.items = omega (arith, ge, within, length-append f.slots.items (fresh ∷ [])) in
              let same : fresh ≡ slot = (let y : Some fresh ≡ Some slot = sym (behind_here f.slots.items fresh) ∙ (ap (λ n. slice_get (f.slots.items ++ fresh ∷ []) n) (sym e) ∙ at) in cc) in
              let n : length s.requests ≡ s.passed + i = omega (arith, e, whole.1.there) in
              subst (λ m. Keeps N runs u m slot) n (subst (λ y. Keeps N runs u (length s.requests) y) same fresh_kept)

          joined_carries : Carries N runs mid u
          joined_carries = record {
            first_is = ap (λ n. n - mid.count) join.rest.requests ∙ (ap (λ n. f.requests - n) join.rest.count ∙ whole.1.first_is);
            causes_is = join.rest.causes ∙ whole.1.causes_is;
            window = laws.stays s u (window_of mid.sends) (refl, refl, refl) (subst (λ x. IsWindow s (window_of x)) (sym join.rest.sends) whole.1.window);
            there = omega (arith, long, whole.1.there, ap (λ xs. length xs) join.slots, length-append f.slots.items (fresh ∷ []));
            slots = λ i slot at. slot_by i slot (nat_lt i (length f.slots.items)) refl (ap (λ xs. slice_get xs i) (sym join.slots) ∙ at);
            passed = λ j lt. passed_same N s u j (like j (omega (arith, lt, whole.1.there))) (whole.1.passed j lt);
            later = λ j le. (let x : IsUntouched s j = whole.1.later j (omega (arith, le, long)) in record { main = x.main; listed = x.listed; picked = x.picked; pending = x.pending });
            cut_behind = whole.1.cut_behind;
          }

          -- none of the others has anything to do
          quiet : AreQuiet N (length f.slots.items) f.free u
          quiet = record {
            quiet = subst (λ n. IsQuietBefore N u n) (sym whole.1.there) ((sweeps N).joins_behind s r h.rest);
            free_is = h.free no_halt no_cut ∙ (sym (free_joined N s r) ∙ ap (λ n. free_before N u n) (sym whole.1.there));
          }

          joins : (t : State) × Reaches N s (event.Take frame) (reply.Take (Ok tt)) n m t × Stands N runs new t
          joins =
              let small : length u.requests < 2 ^ 64 = omega (arith, long, whole.0, counts.small) in
              let done = counts.settles f.limit u small joined_carries quiet in
              let t : State = done.0 in
              let settled : IsSettled N runs counts.settled u t = done.1 in
              let step : answer_to N s (event.Take frame) ≡ (reply.Take (Ok tt), u) = takes ∙ ap (λ x. (reply.Take (Ok tt), joined x frame s)) join.no_cause in
              let o : SameOutside mid counts.settled = counts.outside in
              let size : held u ≡ held s + length frame = ap (λ rs. sum_by (λ x. length x.frame) rs) (drop-append-le s.passed s.requests (r ∷ []) (omega (arith, whole.1.there))) ∙ sum_by_push (λ x. length x.frame) (drop s.passed s.requests) r in
              let requests : counts.settled.requests ≡ f.requests = o.requests ∙ join.rest.requests in
              let count : counts.settled.count ≡ f.count = o.count ∙ join.rest.count in
              let c : Carries N runs counts.settled t = settled.carries in
              let first : (f.requests + 1) - (f.count + 1) ≡ t.passed = omega (arith, c.first_is, requests, count) in
              let counted : Flight R = record counts.settled { requests = f.requests + 1; count = f.count + 1; held = f.held + length frame } in
              let carries : Carries N runs counted t = record { first_is = first; causes_is = c.causes_is; window = c.window; there = c.there; slots = c.slots; passed = c.passed; later = c.later; cut_behind = c.cut_behind } in
              let stands : Stands N runs counted t = record {
                halt_is = ap (λ x. x.halt) c.causes_is;
                over_is = ap (λ x. x.over) c.causes_is;
                count_is = omega (arith, h.count_is, settled.counts.count, settled.counts.passed, long, whole.1.there);
                held_is = omega (arith, h.held_is, size, settled.counts.held_is);
                rest = settled.settles.rest;
                whole = λ none. (omega (arith, whole.0, settled.counts.count, long), carries);
                free = λ none. settled.free;
              } in
              (t, record { from = u; step = step; settles = settled.settles; grows = grows_trans N n (n + N.work frame []) m s u t (grows_joined N n s frame) done.2 }, subst (λ x. Stands N runs x t) (sym counts.new_is) stands)

        take_by : (cause : Option Cause) (new : Flight R) (n m : ℕ) → FlightTakesBy M runs cause frame f new n m → (t : State) × Reaches N s (event.Take frame) (reply.Take (Ok tt)) n m t × Stands N runs new t
        take_by (Some cause) new n m is = refuses cause new n m is.0 is.1 is.2
        take_by None new n m is = joins is.0 new n m is.1 is.2

        pub take_ok : (new : Flight R) (n m : ℕ) → FlightTakes M runs frame f new n m → (t : State) × Reaches N s (event.Take frame) (reply.Take (Ok tt)) n m t × Stands N runs new t
        take_ok new n m is = take_by is.0 new n m is.1

module _ {R : Type 0} (M : Meaning) (runs : R → List ℕ → List Outside → Type 0) (f : Flight R) (frame : List ℕ) where
  limit_by : (cause : Option Cause) (new : Flight R) (n m : ℕ) → FlightTakesBy M runs cause frame f new n m → new.limit ≡ f.limit
  limit_by (Some cause) new n m is = ap (λ x. x.limit) is.1
  limit_by None new n m is = ap (λ x. x.limit) is.2.new_is ∙ (is.2.outside.limit_is ∙ is.1.rest.limit_is)

  pub limit_taken : (new : Flight R) (n m : ℕ) → FlightTakes M runs frame f new n m → new.limit ≡ f.limit
  limit_taken new n m is = limit_by is.0 new n m is.1
