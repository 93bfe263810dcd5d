-- A turn leads from what stood for a request to what stands for it.
use Rattle.std.proofs.Common.{◌≡◌, ◌∙◌, ap, refl, sym, subst, ℕ, zero, suc, ◌+◌, Bool, true, false, List, [], ◌∷◌, ◌++◌, length, map, drop, slice_get, Option, Some, None, Result, Ok, Err, IfOk, OnOk, arith, append-nil}
use Rattle.tree_spelling.specs.Body.{Contents}
use Rattle.filter_core.specs.declared.input.Input.{Input}
use Rattle.filter_core.specs.declared.moves.Move.{Move}
use Rattle.filter_core.specs.declared.moves.Move.TheVariants as move
use Rattle.filter_core.specs.Decision.{Decision, Turn, Forward, Side, HoldFor, Return, Shut, Makes}
use Rattle.side_requests.specs.declared.ask.Ask.TheVariants as ask
use Rattle.filter_chain.specs.declared.outside.Outside.{Outside}
use Rattle.filter_chain.specs.declared.passing.Passing.TheVariants as passing
use Rattle.filter_chain.specs.declared.passing.Stop.TheVariants as stop
use Rattle.filter_chain.specs.declared.passing.Next.{Next}
use Rattle.filter_chain.specs.declared.passing.Next.TheVariants as next
use Rattle.filter_chain.specs.declared.suspended.Suspended.{Suspended}
use Rattle.filter_chain.specs.Answers.{as_verdict}
use Rattle.filter_chain.specs.Chain.{Back, Course, behind_turns, asked_outside, gives, decided, turns_on, way_from}
use Rattle.filter_chain.specs.Suspensions.{Suspension, given_next, resumed, IsSuspension, AreSuspended, StandFor, Leads, next_of, kept}
use Rattle.filter_chain.proofs.Courses.{behind_none, behind_twice, gives_behind, resumed_behind, resumed_last, resumed_ends, one_turn}
use Rattle.filter_chain.proofs.Suspensions.{found_first, found_none, one_longer, suspend, LastSuspended, release}

drop_one : {F : Type 0} (fs : List F) (n : ℕ) (f : F) (rest : List F) → drop n fs ≡ f ∷ rest → drop (suc n) fs ≡ rest
drop_one [] zero f rest h = absurd (let e : [] ≡ f ∷ rest = h in cc)
drop_one [] (suc n) f rest h = absurd (let e : [] ≡ f ∷ rest = h in cc)
drop_one (g ∷ fs) zero f rest h = let e : g ∷ fs ≡ f ∷ rest = h in let e2 : fs ≡ rest = cc in e2
drop_one (g ∷ fs) (suc n) f rest h = drop_one fs n f rest h

module _ {F P : Type 0} (turn : F → Turn) (stands : F → P → Contents → List Input → Type 0) where
  -- Filter f, with so many before it, is at its turn.
  pub record AtTurn (chain : List F) (ss : List (Suspended P)) (f : F) (request : Contents) (main : Bool) (inputs : List Input) (unused n : ℕ) (whole : List Outside → Course) : Type 0 where
    pub ds : List Suspension
    pub are : AreSuspended turn stands 0 chain ss ds
    pub rest : List F
    pub at : drop (length ss) chain ≡ f ∷ rest
    pub goes : (xs : List Outside) → whole xs ≡ behind_turns n (resumed ds (turns_on (suc unused) (way_from (suc (length ss)) (map turn rest)) (length ss) (turn f) request main inputs xs))

  module _ (chain : List F) (ss : List (Suspended P)) (f : F) (request : Contents) (main : Bool) (inputs : List Input) (unused n : ℕ) (whole : List Outside → Course) (a : AtTurn chain ss f request main inputs unused n whole) where
    -- the filter, once it waits
    abbrev waits : Suspension
    waits = record { number = length ss; turn = turn f; nearer = way_from (suc (length ss)) (map turn a.rest); request = request; main = main; inputs = inputs; unused = unused }

    by_decision : (D : Decision) → turn f request inputs ≡ D → (xs : List Outside)
        → whole xs ≡ behind_turns (n + 1) (resumed a.ds (decided (way_from (suc (length ss)) (map turn a.rest)) (length ss) main (given_next waits) xs D))
    by_decision D h xs =
        let N = way_from (suc (length ss)) (map turn a.rest) in
        let c = decided N (length ss) main (given_next waits) xs D in
        a.goes xs
        ∙ ap (λ c. behind_turns n (resumed a.ds c)) (one_turn unused N (length ss) (turn f) request main inputs xs ∙ ap (λ D. behind_turns 1 (decided N (length ss) main (given_next waits) xs D)) h)
        ∙ ap (behind_turns n) (resumed_behind a.ds 1 c)
        ∙ behind_twice n 1 (resumed a.ds c)

    are_with : (p : P) → stands f p request inputs → AreSuspended turn stands 0 chain (ss ++ record { pending = p; main = main; unused = unused } ∷ []) (a.ds ++ waits ∷ [])
    are_with p keeps =
        suspend turn stands 0 chain ss a.ds (record { pending = p; main = main; unused = unused }) waits f a.rest a.are a.at
        (record { number_is = let e : length ss ≡ 0 + length ss = omega arith in e; turn_is = refl; nearer_is = ap (λ k. way_from (suc k) (map turn a.rest)) (let e : length ss ≡ 0 + length ss = omega arith in e); main_is = refl; left_is = refl; keeps = keeps })

    -- the message goes on behind it
    passes_on : (p : P) (m : Contents) (b : Bool) (xs : List Outside)
        → resumed a.ds (gives (given_next waits) (way_from (suc (length ss)) (map turn a.rest) m b xs))
        ≡ resumed (a.ds ++ waits ∷ []) (way_from (length (ss ++ record { pending = p; main = main; unused = unused } ∷ [])) (map turn (drop (length (ss ++ record { pending = p; main = main; unused = unused } ∷ [])) chain)) m b xs)
    passes_on p m b xs =
        let s : Suspended P = record { pending = p; main = main; unused = unused } in
        let e : suc (length ss) ≡ length (ss ++ s ∷ []) = sym (one_longer ss s) in
        let r : a.rest ≡ drop (length (ss ++ s ∷ [])) chain = sym (drop_one chain (length ss) f a.rest a.at) ∙ ap (λ k. drop k chain) e in
        sym (resumed_last a.ds waits (way_from (suc (length ss)) (map turn a.rest) m b xs))
        ∙ ap (λ k. resumed (a.ds ++ waits ∷ []) (way_from k (map turn a.rest) m b xs)) e
        ∙ ap (λ fs. resumed (a.ds ++ waits ∷ []) (way_from (length (ss ++ s ∷ [])) (map turn fs) m b xs)) r

    -- the filter's move leads on
    pub turned : (made : Move P) → Makes (λ p. stands f p request inputs) (turn f request inputs) made
        → StandFor turn stands chain (ss ++ kept main unused made) (next_of (length ss) main made) (n + 1) whole
    turned (move.Forward m p) h = record { suspensions = a.ds ++ waits ∷ []; are = are_with p h.1; goes = λ xs. by_decision (Forward m) h.0 xs ∙ ap (behind_turns (n + 1)) (passes_on p m main xs) }
    turned (move.Side m p) h = record { suspensions = a.ds ++ waits ∷ []; are = are_with p h.1; goes = λ xs. by_decision (Side m) h.0 xs ∙ ap (behind_turns (n + 1)) (passes_on p m false xs) }
    turned (move.Hold key p) h = record { suspensions = a.ds ++ waits ∷ []; are = are_with p h.1; goes = λ xs. by_decision (HoldFor key) h.0 xs ∙ ap (behind_turns (n + 1)) (sym (resumed_last a.ds waits (asked_outside (ask.Hold (length ss) key) as_verdict xs))) }
    turned (move.Return response) h =
        subst (λ ts. StandFor turn stands chain ts (next_of {P = P} (length ss) main (move.Return response)) (n + 1) whole) (sym (append-nil ss))
        (record { suspensions = a.ds; are = a.are; goes = by_decision (Return response) h })
    turned (move.Shut reason) h =
        subst (λ ts. StandFor turn stands chain ts (next_of {P = P} (length ss) main (move.Shut reason)) (n + 1) whole) (sym (append-nil ss))
        (record { suspensions = a.ds; are = a.are; goes = λ xs. by_decision (Shut reason) h xs ∙ ap (behind_turns (n + 1)) (resumed_ends a.ds (length ss) reason xs 0) })

  -- a message comes to a filter
  pub starts : (chain : List F) (ss : List (Suspended P)) (f : F) (m : Contents) (main : Bool) (n : ℕ) (whole : List Outside → Course)
      → slice_get chain (length ss) ≡ Some f
      → StandFor turn stands chain ss (next.Passes (passing.Message m main)) n whole → AtTurn chain ss f m main [] 6 n whole
  starts chain ss f m main n whole h s =
      let at = found_first chain (length ss) f h in
      record {
        ds = s.suspensions;
        are = s.are;
        rest = drop (suc (length ss)) chain;
        at = at;
        goes = λ xs. s.goes xs ∙ ap (λ fs. behind_turns n (resumed s.suspensions (way_from (length ss) (map turn fs) m main xs))) at;
      }

  -- behind the last filter a message is asked of the broker
  pub asks_broker : (chain : List F) (ss : List (Suspended P)) (m : Contents) (main : Bool) (n : ℕ) (whole : List Outside → Course)
      → slice_get chain (length ss) ≡ None
      → StandFor turn stands chain ss (next.Passes (passing.Message m main)) n whole
      → StandFor turn stands chain ss (next.Stops (stop.Needs (ask.Broker m main))) n whole
  asks_broker chain ss m main n whole h s =
      record {
        suspensions = s.suspensions;
        are = s.are;
        goes = λ xs. s.goes xs ∙ ap (λ fs. behind_turns n (resumed s.suspensions (way_from (length ss) (map turn fs) m main xs))) (found_none chain (length ss) h);
      }

  -- something comes back to the filter that was suspended last
  pub resumes : (chain : List F) (ss : List (Suspended P)) (last : Suspended P) (f : F) (x : Input) (unused n : ℕ) (whole : List Outside → Course)
      → slice_get chain (length ss) ≡ Some f → last.unused ≡ suc unused
      → StandFor turn stands chain (ss ++ last ∷ []) (next.Passes (passing.Input x)) n whole
      → (request : Contents) × (inputs : List Input) × stands f last.pending request inputs × AtTurn chain ss f request last.main (inputs ++ x ∷ []) unused n whole
  resumes chain ss last f x unused n whole h more s =
      let r = release turn stands 0 chain ss last s.suspensions s.are in
      let z : 0 + length ss ≡ length ss = omega arith in
      let at = found_first chain (length ss) f h in
      let e : r.filter ∷ r.rest ≡ f ∷ drop (suc (length ss)) chain = sym r.at ∙ at in
      let e1 : r.filter ≡ f = cc in
      let d = r.last in (
        d.request,
        d.inputs,
        subst (λ g. stands g last.pending d.request d.inputs) e1 r.is.keeps,
        record {
          ds = r.before;
          are = r.are;
          rest = r.rest;
          at = r.at ∙ ap (λ g. g ∷ r.rest) e1;
          goes = λ xs.
              let c : Course = record { fate = Back x; unused = xs; turns = 0 } in
              let whose : turns_on d.unused d.nearer d.number d.turn d.request d.main (d.inputs ++ x ∷ []) xs ≡ turns_on (suc unused) (way_from (suc (length ss)) (map turn r.rest)) (length ss) (turn f) d.request last.main (d.inputs ++ x ∷ []) xs =
              ap (λ l. turns_on l d.nearer d.number d.turn d.request d.main (d.inputs ++ x ∷ []) xs) (r.is.left_is ∙ more)
              ∙ ap (λ w. turns_on (suc unused) w d.number d.turn d.request d.main (d.inputs ++ x ∷ []) xs) (r.is.nearer_is ∙ ap (λ k. way_from (suc k) (map turn r.rest)) z)
              ∙ ap (λ k. turns_on (suc unused) (way_from (suc (length ss)) (map turn r.rest)) k d.turn d.request d.main (d.inputs ++ x ∷ []) xs) (r.is.number_is ∙ z)
              ∙ ap (λ t. turns_on (suc unused) (way_from (suc (length ss)) (map turn r.rest)) (length ss) t d.request d.main (d.inputs ++ x ∷ []) xs) (r.is.turn_is ∙ ap turn e1)
              ∙ ap (λ b. turns_on (suc unused) (way_from (suc (length ss)) (map turn r.rest)) (length ss) (turn f) d.request b (d.inputs ++ x ∷ []) xs) r.is.main_is in
              s.goes xs
              ∙ ap (λ es. behind_turns n (resumed es c)) r.split
              ∙ ap (behind_turns n) (resumed_last r.before d c)
              ∙ ap (λ c. behind_turns n (resumed r.before c)) (behind_none (given_next d x xs) ∙ whose);
        },
      )

  -- ---- the same as the functions' contracts say it

  pub leads_none : (chain : List F) (ss : List (Suspended P)) (from : Next) (steps : ℕ) → Leads turn stands chain ss from steps ss from steps
  leads_none chain ss from steps n whole s =
      (0, let e : steps ≡ steps + 0 = omega arith in e, subst (λ k. StandFor turn stands chain ss from k whole) (let e : n ≡ n + 0 = omega arith in e) s)

  pub leads_then : (chain : List F) (ss ts us : List (Suspended P)) (a b c : Next) (i j k : ℕ)
      → Leads turn stands chain ss a i ts b j → Leads turn stands chain ts b j us c k → Leads turn stands chain ss a i us c k
  leads_then chain ss ts us a b c i j k f g n whole s =
      let x = f n whole s in
      let y = g (n + x.0) whole x.2 in (
        x.0 + y.0,
        y.1 ∙ ap (λ m. m + y.0) x.1 ∙ let e : (i + x.0) + y.0 ≡ i + (x.0 + y.0) = omega arith in e,
        subst (λ m. StandFor turn stands chain us c m whole) (let e : (n + x.0) + y.0 ≡ n + (x.0 + y.0) = omega arith in e) y.2,
      )

  pub first_leads : (chain : List F) (ss new : List (Suspended P)) (f : F) (m : Contents) (main : Bool) (made : Move P) (nx : Next) (steps steps' : ℕ)
      → slice_get chain (length ss) ≡ Some f → Makes (λ p. stands f p m []) (turn f m []) made
      → nx ≡ next_of (length ss) main made → new ≡ ss ++ kept main 6 made → steps' ≡ steps + 1
      → Leads turn stands chain ss (next.Passes (passing.Message m main)) steps new nx steps'
  first_leads chain ss new f m main made nx steps steps' there makes e1 e2 e3 n whole s =
      let t = turned chain ss f m main [] 6 n whole (starts chain ss f m main n whole there s) made makes in
      (1, e3, subst (λ a. StandFor turn stands chain new a (n + 1) whole) (sym e1) (subst (λ ts. StandFor turn stands chain ts (next_of (length ss) main made) (n + 1) whole) (sym e2) t))

  pub next_leads : (chain : List F) (old ss new : List (Suspended P)) (last : Suspended P) (f : F) (x : Input) (unused : ℕ) (made : Move P) (nx : Next) (steps steps' : ℕ)
      → old ≡ ss ++ last ∷ [] → slice_get chain (length ss) ≡ Some f → last.unused ≡ suc unused
      → ((request : Contents) (inputs : List Input) → stands f last.pending request inputs → Makes (λ p. stands f p request (inputs ++ x ∷ [])) (turn f request (inputs ++ x ∷ [])) made)
      → nx ≡ next_of (length ss) last.main made → new ≡ ss ++ kept last.main unused made → steps' ≡ steps + 1
      → Leads turn stands chain old (next.Passes (passing.Input x)) steps new nx steps'
  next_leads chain old ss new last f x unused made nx steps steps' e there more makes e1 e2 e3 n whole s =
      let r = resumes chain ss last f x unused n whole there more (subst (λ ts. StandFor turn stands chain ts (next.Passes (passing.Input x)) n whole) e s) in
      let t = turned chain ss f r.0 last.main (r.1 ++ x ∷ []) unused n whole r.3 made (makes r.0 r.1 r.2) in
      (1, e3, subst (λ a. StandFor turn stands chain new a (n + 1) whole) (sym e1) (subst (λ ts. StandFor turn stands chain ts (next_of (length ss) last.main made) (n + 1) whole) (sym e2) t))

-- from what is known of an answer, and of all that holds with it
pub ok_both : {T E : Type 0} (r : Result T E) (P Q : T → Type 0) (B : Type 0) → ((x : T) → P x → B → Q x) → IfOk r P → OnOk r B → IfOk r Q
ok_both (Ok x) P Q B f h b = f x h b
ok_both (Err e) P Q B f h b = tt
