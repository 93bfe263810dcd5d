-- What every event but an emit step leaves: the requests grow at most, by one with this frame; none is passed, and
-- what ends goes on ending.
use Rattle.std.proofs.Common.{◌≡◌, ◌∙◌, ℕ, zero, suc, Bool, true, false, ◌||◌, if◌then◌else◌, is_some, List, [], ◌∷◌, ◌++◌, map, refl, sym, subst, Option, Some, None, slice_get}
use Rattle.std.proofs.lemmas.List.{append-nil, map-append}
use Rattle.kp_edge.specs.declared.end.End.{End}
use Rattle.conn_rules.specs.Meaning.{Meaning}
use Rattle.conn_rules.specs.State.{Outside, NoResponse, Request, ListedSend, State, cut_at, dead, halted, give}
use Rattle.conn_rules.specs.Causes.{below, first_cause, are_ending}
use Rattle.conn_rules.specs.Settling.{Act, CutAt, Lists, listed, acted, next_act, after_acts, Settles}
use Rattle.conn_rules.proofs.Grows.{Grows, grows_same, grows_grows, grows_behind, grows_given, frames_given}

pub record Keeps (s : State) (joined : List (List ℕ)) (t : State) : Type 0 where
  pub requests : Grows s.requests t.requests
  pub frames : map (λ r. r.frame) t.requests ≡ map (λ r. r.frame) s.requests ++ joined
  pub passed : t.passed ≡ s.passed
  pub over : t.causes.over ≡ s.causes.over
  pub ending : are_ending s.causes ≡ true → are_ending t.causes ≡ true

-- the requests stay, and what else is asked
pub keeps_all : (s t : State) → t.requests ≡ s.requests → t.passed ≡ s.passed → t.causes.over ≡ s.causes.over → (are_ending s.causes ≡ true → are_ending t.causes ≡ true) → Keeps s [] t
keeps_all s t h k o e =
    record {
      requests = rw h (grows_same s.requests);
      frames = rw h (sym (append-nil (map (λ r. r.frame) s.requests)));
      passed = k;
      over = o;
      ending = e;
    }

pub keeps_same : (s : State) → Keeps s [] s
keeps_same s = keeps_all s s refl refl refl (λ h. h)

pub keeps_keeps : (s t u : State) (joined : List (List ℕ)) → Keeps s joined t → Keeps t [] u → Keeps s joined u
keeps_keeps s t u joined h k =
    record {
      requests = grows_grows s.requests t.requests u.requests h.requests k.requests;
      frames = k.frames ∙ (append-nil (map (λ r. r.frame) t.requests) ∙ h.frames);
      passed = k.passed ∙ h.passed;
      over = k.over ∙ h.over;
      ending = λ e. k.ending (h.ending e);
    }

pub keeps_either : (b : Bool) (s t u : State) (joined : List (List ℕ)) → Keeps s joined t → Keeps s joined u → Keeps s joined (if b then t else u)
keeps_either true s t u joined h k = h
keeps_either false s t u joined h k = k

pub keeps_joined : (frame : List ℕ) (s : State) → Keeps s (frame ∷ []) (record s { requests = s.requests ++ record { frame = frame; given = [] } ∷ [] })
keeps_joined frame s =
    record {
      requests = grows_behind s.requests (record { frame = frame; given = [] } ∷ []);
      frames = map-append (λ (r : Request). r.frame) s.requests (record { frame = frame; given = [] } ∷ []);
      passed = refl;
      over = refl;
      ending = λ e. e;
    }

pub keeps_give : (k : ℕ) (x : Outside) (s : State) → Keeps s [] (give k x s)
keeps_give k x s =
    record {
      requests = grows_given x s.requests k;
      frames = frames_given x (slice_get s.requests k) s.requests k refl ∙ sym (append-nil (map (λ r. r.frame) s.requests));
      passed = refl;
      over = refl;
      ending = λ e. e;
    }

-- the causes
pub some_first : (before : Option End) (why : End) → is_some (first_cause before why) ≡ true
some_first None why = refl
some_first (Some before) why = refl

some_cut : (b : Bool) (cut : Option (ℕ × End)) (new : ℕ × End) → is_some cut ≡ true → is_some (if b then Some new else cut) ≡ true
some_cut true cut new h = refl
some_cut false cut new h = h

ends_cut : (a new b c d : Bool) → (a ≡ true → new ≡ true) → (a || b || c || d) ≡ true → (new || b || c || d) ≡ true
ends_cut true new b c d h e = rw (h refl)
ends_cut false true b c d h e = refl
ends_cut false false b c d h e = e

ends_death : (a c d : Bool) → (a || true || c || d) ≡ true
ends_death true c d = refl
ends_death false c d = refl

pub ends_halt : (a b d : Bool) → (a || b || true || d) ≡ true
ends_halt true true d = refl
ends_halt true false d = refl
ends_halt false true d = refl
ends_halt false false d = refl

pub keeps_cut : (k : ℕ) (why : End) (s : State) → Keeps s [] (cut_at k why s)
keeps_cut k why s = keeps_all s (cut_at k why s) refl refl refl (ends_cut (is_some s.causes.cut) _ (is_some s.causes.death) (is_some s.causes.halt) (is_some s.causes.over) (some_cut (below s.causes.cut k) s.causes.cut (k, why)))

pub keeps_dead : (why : End) (s : State) → Keeps s [] (dead why s)
keeps_dead why s = keeps_all s (dead why s) refl refl refl (λ e. rw (some_first s.causes.death why) (ends_death (is_some s.causes.cut) (is_some s.causes.halt) (is_some s.causes.over)))

pub keeps_halted : (why : End) (s : State) → Keeps s [] (halted why s)
keeps_halted why s = keeps_all s (halted why s) refl refl refl (λ e. rw (some_first s.causes.halt why) (ends_halt (is_some s.causes.cut) (is_some s.causes.death) (is_some s.causes.over)))

-- settling
keeps_listed : (d : ListedSend) (s : State) → Keeps s [] (listed d s)
keeps_listed d s =
    let t : State = record s { sends = s.sends ++ d ∷ [] } in
    let here : Keeps s [] t = keeps_all s t refl refl refl (λ e. e) in
    keeps_either d.responds s t (give d.request NoResponse t) [] here (keeps_keeps s t _ [] here (keeps_give d.request NoResponse t))

keeps_acted : (act : Option Act) (s : State) → Keeps s [] (acted act s)
keeps_acted None s = keeps_same s
keeps_acted (Some (CutAt k why)) s = keeps_cut k why s
keeps_acted (Some (Lists d)) s = keeps_listed d s

keeps_acts : (M : Meaning) (n : ℕ) (s : State) → Keeps s [] (after_acts M n s)
keeps_acts M zero s = keeps_same s
keeps_acts M (suc n) s =
    let next : State = acted (next_act M s) s in
    keeps_keeps s next (after_acts M n next) [] (keeps_acted (next_act M s) s) (keeps_acts M n next)

pub keeps_settling : (M : Meaning) (s t : State) → Settles M s t → Keeps s [] t
keeps_settling M s t h = subst (λ (u : State). Keeps s [] u) h.after (keeps_acts M h.acts s)
