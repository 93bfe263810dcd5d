-- A request whose message is listed, and one that goes on with what it was given.
use Rattle.std.proofs.Common.{◌≡◌, ◌≢◌, ◌∙◌, ap, refl, sym, subst, ℕ, suc, ◌+◌, ◌≤◌, ◌<◌, ◌==◌, Bool, true, false, not, ◌&&◌, ◌||◌, cond, if◌then◌else◌, List, [], ◌∷◌, ◌++◌, length, Option, Some, None, slice_get, slice_set, arith, length-set, length-append}
use Rattle.std.specs.Prelude.{MatchBool}
use Rattle.std.proofs.lemmas.List.Folds.{list_any-append}
use Rattle.conn_rules.specs.Causes.{below}
use Rattle.conn_rules.specs.Meaning.{Meaning, ToBroker, Status, Waits}
use Rattle.conn_rules.specs.Room.{limited}
use Rattle.conn_rules.specs.Settling.{Act, Lists, is_listed, act_of, acted, listed, next_act, Settles}
use Rattle.conn_rules.specs.State.{Outside, NoResponse, Request, ListedSend, State, give, given_more, upstream_frame}
use Rattle.conn_rules.specs.Sweep.{IsQuietBefore, free_before, act_in, act_at}
use Rattle.conn_rules.specs.Work.{TakesGrowth}
use Rattle.conn_rules.proofs.Sweep.{sweeps}
use Rattle.correlation.specs.Windows.{Window}
use Rattle.correlation.specs.IsWindow.{IsWindow, owner_of, one_listed}
use Rattle.correlation.proofs.WindowLaws.{laws}
use Rattle.serving.specs.declared.message.Message.{Message}
use Rattle.serving.specs.declared.progress.Progress.{Progress}
use Rattle.serving.specs.declared.progress.Progress.TheVariants as progress
use Rattle.serving.specs.declared.slot.Slot.{Slot}
use Rattle.serving.specs.declared.slot.Stage.TheVariants as stage
use Rattle.serving.specs.Services.{behind_id, awaits_answer_to, IsProgress, CountsOn}
use Rattle.serving.specs.Slots.{stage_of, awaits_response, awaits_verdict, lists_at, has_main, is_picked, pending, one_if, IsStage, GoesOn, Keeps}
use Rattle.serving.specs.Listing.{send_of, SameFor, OnlyAt, ListsSlot, CountsNext, IsSweptTo, SettlesOn, GoesTo}
use Rattle.std.proofs.lemmas.Option.{slice_get_within}
use Rattle.std.proofs.lemmas.Bool.{ne_eqb}
use Rattle.serving.proofs.Places.{eqb_same, eqb_other, eqb_back, or_false, set_here, set_other, size_given}
use Rattle.serving.proofs.Same.{free_same}
use Rattle.serving.proofs.Working.{grows_none, grows_given}
use Rattle.serving.proofs.Owed.{owed, pending_is, owed_listed}

-- what is listed behind the others
pub listed_behind : (sends : List ListedSend) (d : ListedSend) (j i : ℕ) → is_listed (sends ++ d ∷ []) j i ≡ (is_listed sends j i || ((d.request == j) && (d.ask == i)))
listed_behind sends d j i = list_any-append (λ x. (x.request == j) && (x.ask == i)) sends (d ∷ []) ∙ ap (λ b. is_listed sends j i || b) (or_false ((d.request == j) && (d.ask == i)))

pub main_behind : (sends : List ListedSend) (d : ListedSend) (j : ℕ) → has_main (sends ++ d ∷ []) j ≡ (has_main sends j || ((d.request == j) && d.main))
main_behind sends d j = list_any-append (λ x. (x.request == j) && x.main) sends (d ∷ []) ∙ ap (λ b. has_main sends j || b) (or_false ((d.request == j) && d.main))

no_other : (b c e : Bool) → c ≡ false → (b || (c && e)) ≡ b
no_other true c e h = refl
no_other false true e h = absurd (let never : true ≡ false = h in cc)
no_other false false e h = refl

abbrev owes : Bool → Bool → ℕ
owes silent b = cond silent 0 (cond b 1 0)

none_owed : (silent b : Bool) → b ≡ false → owes silent b ≡ 0
none_owed true b e = refl
none_owed false true e = absurd (let never : true ≡ false = e in cc)
none_owed false false e = refl

one_owed : (silent b : Bool) → silent ≡ false → b ≡ true → owes silent b ≡ 1
one_owed true b e f = absurd (let never : true ≡ false = e in cc)
one_owed false true e f = refl
one_owed false false e f = absurd (let never : false ≡ true = f in cc)

silent_owed : (silent b : Bool) → silent ≡ true → owes silent b ≡ 0
silent_owed true b e = refl
silent_owed false b e = absurd (let never : false ≡ true = e in cc)

not_is : (b : Bool) → b ≡ true → not b ≡ false
not_is true e = refl
not_is false e = absurd (let never : false ≡ true = e in cc)

not_is_not : (b : Bool) → b ≡ false → not b ≡ true
not_is_not true e = absurd (let never : true ≡ false = e in cc)
not_is_not false e = refl

-- the state in which request k was given x, as its list is
abbrev pub given_at : (k : ℕ) (r : Request) (x : Outside) (s : State) → State
given_at k r x s = record s { requests = slice_set s.requests k (record r { given = r.given ++ x ∷ [] }) }

pub give_is : (k : ℕ) (r : Request) (x : Outside) (s : State) → slice_get s.requests k ≡ Some r → give k x s ≡ given_at k r x s
give_is k r x s is = ap (λ o. record s { requests = given_more x o s.requests k }) is

module _ {R : Type 0} (M : Meaning) (runs : R → List ℕ → List Outside → Type 0) where
  pub stage_is : (frame : List ℕ) (given : List Outside) (p : Progress R) → IsProgress M runs frame given p → IsStage M runs frame given (stage_of p)
  stage_is frame given (progress.Sends message run) h = h
  stage_is frame given (progress.Holds key run) h = h
  stage_is frame given (progress.Done response) h = h
  stage_is frame given (progress.Failed cause) h = h

pub begun_unanswered : {R : Type 0} → (p : Progress R) → awaits_response (stage_of p) ≡ false
begun_unanswered (progress.Sends message run) = refl
begun_unanswered (progress.Holds key run) = refl
begun_unanswered (progress.Done response) = refl
begun_unanswered (progress.Failed cause) = refl

pub begun_unpicked : {R : Type 0} → (p : Progress R) → awaits_verdict (stage_of p) ≡ false
begun_unpicked (progress.Sends message run) = refl
begun_unpicked (progress.Holds key run) = refl
begun_unpicked (progress.Done response) = refl
begun_unpicked (progress.Failed cause) = refl

module _ {R : Type 0} (M : Meaning) (runs : R → List ℕ → List Outside → Type 0) where
  -- A request goes on with what it is given: nothing of it is owed, listed or picked from the next ask on.
  pub keeps_given : (t : State) (k : ℕ) (r : Request) (x : Outside) (run : R) (old new : Slot R)
      → slice_get t.requests k ≡ Some (record r { given = r.given ++ x ∷ [] })
      → old.size ≡ length r.frame → old.silent ≡ M.silent r.frame → old.given ≡ length r.given → old.main_listed ≡ has_main t.sends k
      → runs run r.frame r.given → GoesOn M runs run x old new
      → ((i : ℕ) → suc old.given ≤ i → is_listed t.sends k i ≡ false)
      → ((i : ℕ) → suc old.given ≤ i → is_picked t.picked k i ≡ false)
      → (below t.causes.cut k ≡ true → pending t k ≡ 0)
      → Keeps M runs t k new
  keeps_given t k r x run old new there size silent given main stands goes listed picked unowed =
      let p : Progress R = goes.0 in
      let response : awaits_response (stage_of p) ≡ false = begun_unanswered p in
      let verdict : awaits_verdict (stage_of p) ≡ false = begun_unpicked p in
      let long : length (r.given ++ x ∷ []) ≡ length r.given + 1 = length-append r.given (x ∷ []) in
      let kept : Keeps M runs t k (record old { given = old.given + 1; stage = stage_of p }) = record {
        request = record r { given = r.given ++ x ∷ [] };
        there = there;
        size = size;
        silent = silent;
        given = omega (arith, given, long);
        main = main;
        stage = stage_is M runs r.frame (r.given ++ x ∷ []) p (goes.2 r.frame r.given stands);
        listed = λ i le. rw response (listed i (omega (arith, le)));
        picked = λ i le. rw verdict (picked i (omega (arith, le)));
        pending = λ low. rw response (unowed low);
      } in
      subst (λ slot. Keeps M runs t k slot) (sym goes.1) kept

act_lists : (M : Meaning) (sends : List ListedSend) (k i : ℕ) (free : Bool) (m : Message) (status : Status) → status ≡ awaits_answer_to m → is_listed sends k i ≡ false → (free || not m.main) ≡ true → act_of sends k i free status ≡ Some (Lists (send_of k i m))
act_lists M sends k i free m status is unlisted may = rw (is, unlisted, may)

pub low_act : (low : Bool) (act : Option Act) → low ≡ true → (if low then act else None) ≡ act
low_act true act h = refl
low_act false act h = absurd (let never : false ≡ true = h in cc)

module _ {R : Type 0} (M : Meaning) (runs : R → List ℕ → List Outside → Type 0) (limit k : ℕ) (free : Bool) (old new : Slot R) (w v : Window) (n n' : ℕ) where
  abbrev N : Meaning
  N = limited limit M

  module _ (s : State) (low : below s.causes.cut k ≡ true) (h : IsSweptTo N runs k free old w s) (step : ListsSlot M runs k free old w new v) (counted : CountsNext M runs true old n n') where
    abbrev r : Request
    r = h.kept.request

    abbrev m : Message
    m = step.message

    abbrev d : ListedSend
    d = send_of k old.given m

    asked : (N.status r.frame r.given ≡ awaits_answer_to m) × runs step.run r.frame r.given
    asked = subst (λ at. IsStage N runs r.frame r.given at) step.was h.kept.stage

    unlisted : (i : ℕ) → old.given ≤ i → is_listed s.sends k i ≡ false
    unlisted i le = h.kept.listed i le ∙ ap (λ at. awaits_response at && (i == old.given)) step.was

    unpicked : (i : ℕ) → old.given ≤ i → is_picked s.picked k i ≡ false
    unpicked i le = h.kept.picked i le ∙ ap (λ at. awaits_verdict at && (i == old.given)) step.was

    unowed : pending s k ≡ 0
    unowed = h.kept.pending low ∙ ap (λ at. one_if (awaits_response at)) step.was

    may : (free || not m.main) ≡ true
    may = sym (ap (λ at. lists_at free at) step.was) ∙ step.may

    act : act_at N s k ≡ Some (Lists d)
    act =
        ap (λ found. act_in N s k found) h.kept.there
        ∙ (low_act (below s.causes.cut k) _ low
        ∙ (ap (λ i. act_of s.sends k i (free_before N s k) (N.status r.frame r.given)) (sym h.kept.given)
        ∙ act_lists N s.sends k old.given (free_before N s k) m (N.status r.frame r.given) asked.0 (unlisted old.given (omega arith)) (ap (λ f. f || not m.main) (sym h.free_is) ∙ may)))

    window_listed : IsWindow (one_listed d s) v
    window_listed = subst (λ x. IsWindow (one_listed d s) x) (sym step.window) (laws.lists s w d h.window)

    owed_now : (j : ℕ) → pending (one_listed d s) j ≡ pending s j + owes (not m.responds) (k == j)
    owed_now j =
        pending_is (one_listed d s) v j window_listed
        ∙ (ap (λ x. owed x j) step.window
        ∙ (owed_listed w (owner_of d) (upstream_frame w.next (send_of k 0 m)) j
        ∙ ap (λ n. n + owes (not m.responds) (k == j)) (sym (pending_is s w j h.window))))

    same_listed : (j : ℕ) → j ≢ k → SameFor j s (one_listed d s)
    same_listed j ne =
        let e : (k == j) ≡ false = eqb_other j k ne in
        record {
          request = refl;
          main = main_behind s.sends d j ∙ no_other (has_main s.sends j) (k == j) m.main e;
          listed = λ i. listed_behind s.sends d j i ∙ no_other (is_listed s.sends j i) (k == j) (old.given == i) e;
          picked = λ i. refl;
          pending = λ x. omega (arith, owed_now j, none_owed (not m.responds) (k == j) e);
          served = λ x. x;
        }

    main_now : has_main (s.sends ++ d ∷ []) k ≡ (old.main_listed || m.main)
    main_now = main_behind s.sends d k ∙ (ap (λ b. has_main s.sends k || (b && m.main)) (eqb_same k) ∙ ap (λ b. b || m.main) (sym h.kept.main))

    listed_now : (i : ℕ) → old.given ≤ i → is_listed (s.sends ++ d ∷ []) k i ≡ (i == old.given)
    listed_now i le = listed_behind s.sends d k i ∙ (ap (λ b. b || ((k == k) && (old.given == i))) (unlisted i le) ∙ (ap (λ b. b && (old.given == i)) (eqb_same k) ∙ eqb_back i old.given))

    -- the state that is reached, by what its one request is now
    advance_to : (t : State) → acted (Some (Lists d)) s ≡ t → OnlyAt k s t → t.causes ≡ s.causes → Keeps N runs t k new → IsWindow t v → TakesGrowth N n n' s t → (t : State) × GoesTo N k s t × (t.causes ≡ s.causes) × IsSweptTo N runs k free new v t × TakesGrowth N n n' s t
    advance_to t is only causes kept window grows =
        let there : k < length s.requests = slice_get_within s.requests k r h.kept.there in
        let next : next_act N s ≡ Some (Lists d) = (sweeps N).next s k (Lists d) h.quiet act in
        let settles : SettlesOn N s t = λ u done. (sweeps N).acts s u (Lists d) next (subst (λ x. Settles N x u) (sym is) done) in
        let quiet : IsQuietBefore N t k = subst (λ x. IsQuietBefore N x k) is ((sweeps N).stays s k (Lists d) h.quiet act) in
        let same : free_before N t k ≡ free_before N s k = free_same N s t k (omega (arith, there)) (λ j lt. only.others j (λ e. absurd (omega (arith, lt, e)))) in
        (t, record { settles = settles; only = only }, causes, record { quiet = quiet; free_is = h.free_is ∙ sym same; kept = kept; window = window }, grows)

    -- It waits for its response now.
    advance_waiting : m.responds ≡ true → new ≡ record old { main_listed = old.main_listed || m.main; stage = stage.Listed step.run } → n' ≡ n → (t : State) × GoesTo N k s t × (t.causes ≡ s.causes) × IsSweptTo N runs k free new v t × TakesGrowth N n n' s t
    advance_waiting responds is none =
        let goes : acted (Some (Lists d)) s ≡ one_listed d s = ap (λ b. if b then one_listed d s else give d.request NoResponse (one_listed d s)) responds in
        let only : OnlyAt k s (one_listed d s) = record { others = same_listed; count = refl; passed = refl; held_is = refl; halt = refl; over = refl; behind = λ n le x. x } in
        let status : N.status r.frame r.given ≡ Waits (ToBroker m.before (behind_id m) m.main true) = asked.0 ∙ ap (λ b. Waits (ToBroker m.before (behind_id m) m.main b)) responds in
        let kept : Keeps N runs (one_listed d s) k (record old { main_listed = old.main_listed || m.main; stage = stage.Listed step.run }) = record {
          request = r;
          there = h.kept.there;
          size = h.kept.size;
          silent = h.kept.silent;
          given = h.kept.given;
          main = sym main_now;
          stage = (m.before, behind_id m, m.main, status, asked.1);
          listed = λ i le. listed_now i le;
          picked = λ i le. unpicked i le;
          pending = λ x. omega (arith, owed_now k, unowed, one_owed (not m.responds) (k == k) (not_is m.responds responds) (eqb_same k));
        } in
        advance_to (one_listed d s) goes only refl (subst (λ slot. Keeps N runs (one_listed d s) k slot) (sym is) kept) window_listed (grows_none N n n' s (one_listed d s) none refl)

    -- It goes on without a response at once.
    advance_silent : m.responds ≡ false → GoesOn M runs step.run NoResponse (record old { main_listed = old.main_listed || m.main }) new → CountsOn M runs step.run NoResponse n n' → (t : State) × GoesTo N k s t × (t.causes ≡ s.causes) × IsSweptTo N runs k free new v t × TakesGrowth N n n' s t
    advance_silent silent on counts =
        let t : State = given_at k r NoResponse (one_listed d s) in
        let goes : acted (Some (Lists d)) s ≡ t = ap (λ b. if b then one_listed d s else give d.request NoResponse (one_listed d s)) silent ∙ give_is k r NoResponse (one_listed d s) h.kept.there in
        let others : (j : ℕ) → j ≢ k → SameFor j s t = λ j ne. record {
          request = set_other s.requests k j _ ne;
          main = (same_listed j ne).main;
          listed = (same_listed j ne).listed;
          picked = λ i. refl;
          pending = (same_listed j ne).pending;
          served = λ x. x;
        } in
        let only : OnlyAt k s t = record { others = others; count = length-set s.requests k _; passed = refl; held_is = size_given s.passed k s.requests r _ h.kept.there refl; halt = refl; over = refl; behind = λ n le x. x } in
        let kept : Keeps N runs t k new =
        keeps_given N runs t k r NoResponse step.run (record old { main_listed = old.main_listed || m.main }) new
        (set_here s.requests k r _ h.kept.there) h.kept.size h.kept.silent h.kept.given (sym main_now) asked.1 on
        (λ i le. listed_now i (omega (arith, le)) ∙ ne_eqb i old.given (λ e. omega (arith, le, e)))
        (λ i le. unpicked i (omega (arith, le)))
        (λ x. omega (arith, owed_now k, unowed, silent_owed (not m.responds) (k == k) (not_is_not m.responds silent))) in
        advance_to t goes only refl kept (laws.stays (one_listed d s) t v (refl, refl, refl) window_listed) (grows_given N n n' s t k r NoResponse h.kept.there refl (counts r.frame r.given asked.1))

    advance_by : (responds : Bool) → m.responds ≡ responds → MatchBool responds (new ≡ record old { main_listed = old.main_listed || m.main; stage = stage.Listed step.run }) (GoesOn M runs step.run NoResponse (record old { main_listed = old.main_listed || m.main }) new) → MatchBool responds (n' ≡ n) (CountsOn M runs step.run NoResponse n n') → (t : State) × GoesTo N k s t × (t.causes ≡ s.causes) × IsSweptTo N runs k free new v t × TakesGrowth N n n' s t
    advance_by true is goes counts = advance_waiting is goes counts
    advance_by false is goes counts = advance_silent is goes counts

    pub advance : (t : State) × GoesTo N k s t × (t.causes ≡ s.causes) × IsSweptTo N runs k free new v t × TakesGrowth N n n' s t
    advance = advance_by m.responds refl step.goes (counted m step.run step.was)
